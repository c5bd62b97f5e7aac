use Rattle.std.proofs.Common.{◌≡◌, List, ℕ, ◌++◌, drop}
use Rattle.rb_follow.specs.Documents.{documents_from, left_from}
use Rattle.rb_follow.proofs.gathering.Gathering.gather.Given as goal

-- what is left of the piece goes on with what was read of it, whatever comes behind
abbrev pub invariant-loop-place : goal.invariant-loop-place
invariant-loop-place l =
    (more : List ℕ)
    → (documents_from l.fn.self (l.piece ++ more) ≡ documents_from l.self (drop l.place l.piece ++ more))
    × (left_from l.fn.self (l.piece ++ more) ≡ left_from l.self (drop l.place l.piece ++ more))
