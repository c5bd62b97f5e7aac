use Rattle.std.proofs.Common.{ℕ, Vec}
use Rattle.std.specs.Global.{Global}
use Rattle.rb_import_check.specs.declared.chain.SeenChain.{SeenChain}
use Rattle.rb_import_merge.specs.Room.{IsBookOf}
use Rattle.rb_import_merge.proofs.Rooms.{AtEachBefore}
use Rattle.rb_import_merge.proofs.room.books_of.Given as goal

-- each of the chains so far has its book
abbrev pub invariant-loop-place : goal.invariant-loop-place
invariant-loop-place l = AtEachBefore l.place (λ (place : ℕ) (chain : SeenChain) (book : Vec ℕ Global). IsBookOf l.setup l.clients place chain book.items) l.chains l.books.items
