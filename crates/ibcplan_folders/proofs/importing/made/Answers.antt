use Rattle.ibcplan_folders.specs.Files.{signatures_of}
use Rattle.ibcplan_folders.proofs.Fleeting.{made_by}
use Rattle.ibcplan_folders.proofs.importing.made.Goals as goal

pub returns-clause-script : goal.returns-clause-script
returns-clause-script g c =
    made_by (g.F.AnswerFolders.known c.args.files.now) c.args.input.now (signatures_of c.args.import) c.fleet_of.new.left_out c.in_ok-fleet.fleet c.scripted.result c.in_ok-fleet.ensures
    c.scripted.ensures.in_part c.scripted.ensures.script
