use Rattle.ibcplan_folders.specs.Packets.{WasRead}
use Rattle.ibcplan_folders.proofs.Told.{added_read, some_read}
use Rattle.ibcplan_folders.proofs.packets.add_answer.Goals as goal

pub returns-in-Some : goal.returns-in-Some
returns-in-Some g c =
    let read = WasRead (g.F.AnswerFolders.known c.args.files.now) c.args.folder.now in
    added_read read c.add.result c.args.answers.now.items c.add.new.items.items c.in-Some.answer c.add.ensures
    (some_read read c.in_ok-answer.field-0 c.in-Some.answer c.in-Some.is c.in_ok-answer.ensures)
