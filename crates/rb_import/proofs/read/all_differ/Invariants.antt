use Rattle.std.proofs.Common.{◌≢◌, AllPairs, take}
use Rattle.rb_import.proofs.read.all_differ.Given as goal

abbrev pub invariant-loop-number : goal.invariant-loop-number
invariant-loop-number g l = AllPairs (λ a b. g.T.Placed.place a ≢ g.T.Placed.place b) (take l.number l.items)
