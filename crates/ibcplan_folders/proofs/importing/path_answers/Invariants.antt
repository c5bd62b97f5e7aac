use Rattle.std.proofs.Common.{take}
use Rattle.std.specs.List.{AllZip}
use Rattle.rb_import_setup.specs.declared.setup.PathSetup.{PathSetup}
use Rattle.ibcplan_folders.specs.Fleets.{AreTold}
use Rattle.ibcplan_folders.specs.Leavings.{OrFailed, failed}
use Rattle.ibcplan_folders.proofs.importing.path_answers.Given as goal

-- the first paths have their answers, or are among the failures
abbrev pub invariant-loop-path : goal.invariant-loop-path
invariant-loop-path g l =
    AllZip (λ (p : PathSetup). OrFailed (AreTold (g.F.AnswerFolders.known l.files)) (failed l.failures.items) 0 p.config.id) (take l.path-index l.paths) l.answers.items
