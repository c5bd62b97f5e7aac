use Rattle.std.proofs.Common.{◌≡◌, take}
use Rattle.rb_book.proofs.book.ChainBook.has_same_headers.Given as goal

abbrev pub invariant-loop-place : goal.invariant-loop-place
invariant-loop-place g l = take l.place l.self.headers ≡ take l.place l.other.headers
