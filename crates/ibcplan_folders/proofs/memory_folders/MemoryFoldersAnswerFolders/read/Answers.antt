use Rattle.std.proofs.Common.{List, ap, sym, ◌∙◌}
use Rattle.std.specs.Prelude.{Some, find}
use Rattle.ibcplan_folders.specs.Memory.{is_at}
use Rattle.ibcplan_folders.specs.declared.memory_folders.MemoryFile.{MemoryFile}
use Rattle.ibcplan_folders.proofs.Remembered.{bytes_of, content_known}
use Rattle.ibcplan_folders.proofs.memory_folders.MemoryFoldersAnswerFolders.read.Goals as goal

pub returns-in_ok-from_slice-in-Some : goal.returns-in_ok-from_slice-in-Some
returns-in_ok-from_slice-in-Some c =
    let folder = c.args.folder.now in
    let name = c.args.name.now in
    content_known folder name c.args.self.now.files.items
    ∙ ap bytes_of (sym (c.in-Some.ensures ∙ ap (λ (files : List MemoryFile). find (is_at folder name) files) c.as_slice.ensures.value))
    ∙ ap (λ bs. Some bs) (sym (c.in_ok-from_slice-in-Some.ensures.items ∙ c.as_slice-in-Some.ensures.value))
