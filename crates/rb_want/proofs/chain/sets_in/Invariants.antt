use Rattle.std.proofs.Common.{take}
use Rattle.rb_want.proofs.Sets.{AreSoFar}
use Rattle.rb_want.proofs.chain.sets_in.Given as goal

abbrev pub invariant-loop-page : goal.invariant-loop-page
invariant-loop-page l = AreSoFar l.contents l.sets.sets.items (take l.page-index l.page-items) l.last
