use Rattle.std.proofs.Common.{◌≡◌, take}
use Rattle.rb_book.proofs.book.same_records.Given as goal

abbrev pub invariant-loop-place : goal.invariant-loop-place
invariant-loop-place l = take l.place l.records ≡ take l.place l.others
