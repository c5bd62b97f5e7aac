use Rattle.std.proofs.Common.{◌≡◌, ℕ, rules, subst}
use Rattle.rb_import_merge.specs.Room.{AreThose, HasHeader, room_of}
use Rattle.rb_import_merge.proofs.Rooms.{is_book}
use Rattle.rb_import_merge.proofs.room.book_of.Goals as goal

pub returns : goal.returns
returns c =
    let is : c.saturating_sub-room.result ≡ room_of c.args.chain.now = search rules in
    let those : AreThose (λ (h : ℕ). ¬ HasHeader c.args.chain.now h) (HasHeader c.args.chain.now) c.in_ok-stored.stored.items c.in_ok-bare.bare.items =
    subst (λ l. AreThose (λ (h : ℕ). ¬ HasHeader c.args.chain.now h) (HasHeader c.args.chain.now) l c.in_ok-bare.bare.items) c.as_slice.ensures.value c.in_ok-bare.ensures in
    is_book c.args.setup.now c.args.clients.now c.args.place c.saturating_sub-room.result c.args.chain.now c.in_ok-stored.stored.items c.in_ok-bare.bare.items c.in_ok-book.book.items is
    c.in_ok-stored.ensures.stored c.in_ok-stored.ensures.all those c.in_ok-book.ensures.room c.in_ok-book.ensures.rising c.in_ok-book.ensures.same c.in_ok-book.ensures.highest
