use Rattle.std.specs.Prelude.{◌≡◌, List, fold, take}
use Rattle.std.specs.List.{AllZip, enumerate_from}
use Rattle.rb_want.specs.Adding.{Outcome, told_of, with_outcome}
use Rattle.rb_want.specs.Needs.{IsOutcomeAt}
use Rattle.rb_want.proofs.asking.add_clients.Given as goal

-- the outcomes for the clients so far are added
abbrev pub invariant-loop-place : goal.invariant-loop-place
invariant-loop-place l =
    ((outcomes : List Outcome) × AllZip (IsOutcomeAt l.setup l.folders) (take l.place (enumerate_from 0 l.clients)) outcomes
    × (told_of l.wanted ≡ fold (with_outcome l.fn.wanted.folders.now) (told_of l.fn.wanted) outcomes))
    × (l.wanted.folders ≡ l.fn.wanted.folders) × (l.wanted.path_ends ≡ l.fn.wanted.path_ends)
