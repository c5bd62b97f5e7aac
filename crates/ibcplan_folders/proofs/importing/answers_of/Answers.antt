use Rattle.ibcplan_folders.specs.Fleets.{AreTold}
use Rattle.ibcplan_folders.proofs.Leaving.{refused_last, refused_more}
use Rattle.ibcplan_folders.proofs.importing.answers_of.Goals as goal

pub returns-in_ok-add-in-Err-2-clause-told : goal.returns-in_ok-add-in-Err-2-clause-told
returns-in_ok-add-in-Err-2-clause-told g c =
    refused_last (AreTold (g.F.AnswerFolders.known c.args.files.now)) c.args.failures.now.items c.add.new.items.items c.in_ok-failure_at-in-Err-2.field-0 c.args.since c.args.id.now c.new.result
    c.in_ok-add-in-Err-2.ensures c.in_ok-failure_at-in-Err-2.ensures

pub returns-in_ok-add-in-Err-2-clause-more : goal.returns-in_ok-add-in-Err-2-clause-more
returns-in_ok-add-in-Err-2-clause-more g c =
    refused_more c.args.failures.now.items c.add.new.items.items c.in_ok-failure_at-in-Err-2.field-0 c.in_ok-add-in-Err-2.ensures
