use Rattle.std.proofs.Common.{◌≡◌, ◌+◌, drop}
use Rattle.rb_book.specs.Book.{address_count}
use Rattle.rb_book.proofs.known_addresses.count_all.Given as goal

abbrev pub invariant-loop-place : goal.invariant-loop-place
invariant-loop-place g l = l.count + address_count (drop l.place l.sets) ≡ address_count l.sets
