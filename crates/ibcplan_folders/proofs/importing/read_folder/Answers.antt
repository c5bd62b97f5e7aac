use denote.Param.Send.{sendable}
use Rattle.ibcplan_folders.proofs.Known.{judged_in}
use Rattle.ibcplan_folders.proofs.importing.read_folder.Goals as goal

pub read_files-requires : goal.read_files-requires
read_files-requires g c = (
  search sendable depth 20,
  judged_in (g.F.AnswerFolders.known c.args.files.now) c.args.id.now c.in-Ok.names.items c.as_slice.result.now c.has_verdicts.result c.as_slice.ensures.value c.in-Ok.ensures c.has_verdicts.ensures,
)
