use Rattle.std.proofs.Common.{◌≡◌, map, filter, take}
use Rattle.std.specs.Prelude.{string_bytes}
use Rattle.ibcplan_folders.specs.Memory.{is_in}
use Rattle.ibcplan_folders.specs.declared.memory_folders.MemoryFile.{MemoryFile}
use Rattle.ibcplan_folders.proofs.memory_folders.names_of.Given as goal

-- the names of those of the first files that are in the folder
abbrev pub invariant-loop-file : goal.invariant-loop-file
invariant-loop-file l = map string_bytes l.names.items ≡ map (λ (f : MemoryFile). string_bytes f.name) (filter (is_in l.folder) (take l.file-index l.files))
