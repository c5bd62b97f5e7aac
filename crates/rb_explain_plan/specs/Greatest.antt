-- What one update costs at most.
use Rattle.std.specs.Prelude.{ℕ, ◌*◌, max, List, length}
use Rattle.std.specs.List.{fold}
use Rattle.rb_base.specs.Fee.{charge_of}
use Rattle.rb_valset.specs.Validator.{Member}
use Rattle.rb_step.specs.View.{View}

-- the number of members of the greatest of these sets; 0 where there is none
abbrev pub most_members : List (List Member) → ℕ
most_members sets = fold (λ (most : ℕ) (set : List Member). max most (length set)) 0 sets

-- the charge for an update that carries the votes of all members of the book's greatest set, over two such sets
abbrev pub most_for_one : View → ℕ
most_for_one v = charge_of v.fees (most_members v.book.sets) (2 * most_members v.book.sets)
