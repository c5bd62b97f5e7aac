use Rattle.std.proofs.Common.{ℕ, Vec, rules, sym, subst}
use Rattle.std.specs.Global.{Global}
use Rattle.rb_import_check.specs.declared.chain.SeenChain.{SeenChain}
use Rattle.rb_import_merge.specs.Room.{IsBookOf}
use Rattle.rb_import_merge.proofs.Rooms.{AtEachBefore, at_all, at_none, at_one_more}
use Rattle.rb_import_merge.proofs.room.books_of.Goals as goal

pub loop-place-init : goal.loop-place-init
loop-place-init c =
    let Holds : ℕ → SeenChain → Vec ℕ Global → Type 0 = λ place chain book. IsBookOf c.args.setup.now c.args.clients.now place chain book.items in
    subst (AtEachBefore 0 Holds c.args.chains.now) (sym c.new-books.ensures.items) (at_none Holds c.args.chains.now)

pub loop-place-preserved : goal.loop-place-preserved
loop-place-preserved c =
    let Holds : ℕ → SeenChain → Vec ℕ Global → Type 0 = λ place chain book. IsBookOf c.args.setup.now c.args.clients.now place chain book.items in
    at_one_more Holds c.args.chains.now c.loop-place.place c.index-chains-place.result c.in_ok-book.book c.loop-place.books.items c.push.new.self.items
    (search rules) (search rules) c.in_ok-book.ensures c.in_ok-push.ensures.items c.loop-place.invariant

pub returns : goal.returns
returns c =
    at_all (λ (place : ℕ) (chain : SeenChain) (book : Vec ℕ Global). IsBookOf c.args.setup.now c.args.clients.now place chain book.items) c.args.chains.now c.loop-place.place c.loop-place.books.items (search rules) c.loop-place.invariant
