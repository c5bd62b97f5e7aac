use Rattle.std.proofs.Common.{map, take}
use Rattle.std.specs.Prelude.{string_bytes}
use Rattle.ibcplan_folders.specs.Folders.{OfKnown}
use Rattle.ibcplan_folders.proofs.Grouped.{IsHalfDone}
use Rattle.ibcplan_folders.proofs.importing.read_files.Given as goal

-- of the first files some have their answers, and the others are read
abbrev pub invariant-loop-name : goal.invariant-loop-name
invariant-loop-name g l =
    OfKnown (g.F.AnswerFolders.known l.files) (IsHalfDone l.reading l.folder (map string_bytes (take l.name-index l.names)) l.answers.items l.group.items)
