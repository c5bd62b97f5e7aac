use Rattle.std.proofs.Common.{take}
use Rattle.std.specs.List.{AllZip}
use Rattle.ibcplan_folders.specs.Fleets.{AreTold, ClientHas}
use Rattle.ibcplan_folders.specs.Leavings.{OrFailed, failed}
use Rattle.ibcplan_folders.proofs.importing.client_answers.Given as goal

-- the first clients have their answers, or are among the failures
abbrev pub invariant-loop-client : goal.invariant-loop-client
invariant-loop-client g l =
    AllZip (ClientHas (OrFailed (AreTold (g.F.AnswerFolders.known l.files)) (failed l.failures.items)) l.chains) (take l.client-index l.clients) l.answers.items
