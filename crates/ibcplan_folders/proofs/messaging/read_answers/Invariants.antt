use Rattle.std.proofs.Common.{take}
use Rattle.std.specs.List.{AllZip, enumerate_from}
use Rattle.ibcplan_folders.specs.Folders.{OfKnown}
use Rattle.ibcplan_folders.specs.Messages.{AreAnswersAt}
use Rattle.ibcplan_folders.proofs.messaging.read_answers.Given as goal

-- the answers on the first chains are read
abbrev pub invariant-loop-place : goal.invariant-loop-place
invariant-loop-place g l =
    OfKnown (g.F.AnswerFolders.known l.files) (λ files. AllZip (AreAnswersAt files l.updates) (take l.place (enumerate_from 0 l.chains)) l.answers.items)
