use Rattle.std.proofs.Common.{◌≡◌, None, sym, subst, arith}
use Rattle.rb_book.specs.Book.{Book, is_at, is_below}
use Rattle.rb_book.specs.Invariant.{IsBook}
use Rattle.rb_book.specs.Intake.{record_refusal}
use Rattle.rb_book.specs.Search.{IsNewPlace}
use Rattle.rb_book.proofs.Additions.{stays_a_book}
use Rattle.rb_book.proofs.Puts.{record_put, record_room}
use Rattle.rb_book.proofs.book.ChainBook.put_record.Goals as goal

pub unwrap-requires : goal.unwrap-requires
unwrap-requires g c =
    let b : Book = record { limit = c.self.inside.limit; sets = c.self.inside.sets.items; records = c.self.inside.records.items; headers = c.self.inside.headers.items } in
    let e : c.args.self.now ≡ b = sym c.self.view_is in
    let new : IsNewPlace (is_at c.args.height) (is_below c.args.height) b.records c.in-Err.place = rw c.as_slice.ensures.value at c.in-Err.ensures in
    let room = record_room b c.args.height c.args.entry c.in-Err.place new (subst (λ (x : Book). record_refusal x c.args.height c.args.entry ≡ None) e c.requires) in
    c.insert.ensures.succeeds (omega (arith, c.self.inside.records.ok.0, room, c.self.invariant.1.1))

pub invariant_of-self : goal.invariant_of-self
invariant_of-self g c =
    let b : Book = record { limit = c.self.inside.limit; sets = c.self.inside.sets.items; records = c.self.inside.records.items; headers = c.self.inside.headers.items } in
    let e : c.args.self.now ≡ b = sym c.self.view_is in
    let new : IsNewPlace (is_at c.args.height) (is_below c.args.height) b.records c.in-Err.place = rw c.as_slice.ensures.value at c.in-Err.ensures in
    let accepted = subst (λ (x : Book). record_refusal x c.args.height c.args.entry ≡ None) e c.requires in
    let made = record_put b c.args.height c.args.entry c.new-known.result c.in-Err.place new c.new-known.ensures in
    let room = c.self.invariant.1 in (
      rw (rw c.unwrap.ensures at c.insert.ensures.items) (subst IsBook (sym made) ((stays_a_book b c.self.invariant.0).1 c.args.height c.args.entry accepted)),
      (room.0, omega (arith, room.1, c.insert.ensures.capacity), room.2),
      c.self.invariant.2,
      c.self.invariant.3,
    )
