use Rattle.std.proofs.Common.{AllPairs, take}
use Rattle.rb_script_types.proofs.differing.all_differ.Given as goal

abbrev pub invariant-loop-place : goal.invariant-loop-place
invariant-loop-place g l = AllPairs g.T.Differ.Differs (take l.place l.items)
