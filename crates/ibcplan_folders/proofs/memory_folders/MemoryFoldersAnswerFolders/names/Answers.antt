use Rattle.std.proofs.Common.{List, ap, filter, map, ◌∙◌}
use Rattle.std.specs.Prelude.{string_bytes}
use Rattle.ibcplan_folders.specs.Memory.{is_in}
use Rattle.ibcplan_folders.specs.declared.memory_folders.MemoryFile.{MemoryFile}
use Rattle.ibcplan_folders.proofs.Remembered.{names_known}
use Rattle.ibcplan_folders.proofs.memory_folders.MemoryFoldersAnswerFolders.names.Goals as goal

pub returns : goal.returns
returns c =
    c.in_ok-names_of.ensures ∙ ap (λ (files : List MemoryFile). map (λ (f : MemoryFile). string_bytes f.name) (filter (is_in c.args.folder.now) files)) c.as_slice.ensures.value
    ∙ names_known c.args.folder.now c.args.self.now.files.items
