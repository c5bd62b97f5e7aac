use Rattle.std.proofs.Common.{take}
use Rattle.std.specs.List.{AllZip, enumerate_from}
use Rattle.ibcplan_folders.specs.Fleets.{AreTold, ChainHas}
use Rattle.ibcplan_folders.specs.Leavings.{OrFailed, failed}
use Rattle.ibcplan_folders.proofs.importing.chain_answers.Given as goal

-- the first chains have their answers, or are among the failures
abbrev pub invariant-loop-place : goal.invariant-loop-place
invariant-loop-place g l =
    AllZip (ChainHas (OrFailed (AreTold (g.F.AnswerFolders.known l.files)) (failed l.failures.items)) l.setup.clients.items) (take l.place (enumerate_from 0 l.chains)) l.answers.items
