use Rattle.std.proofs.Common.{take}
use Rattle.rb_import_check.proofs.Pages.{AreSoFar, AreTaken, IsReached}
use Rattle.rb_import_check.proofs.chain.sets_of.Given as goal

abbrev pub invariant-loop-page : goal.invariant-loop-page
invariant-loop-page l =
    AreSoFar l.answers l.sets.sets.items (take l.page-index l.page-items) l.last
    × IsReached l.page-items l.page-index l.last
    × AreTaken l.answers l.commits (take l.page-index l.page-items) l.last
