-- Files in memory.
use Rattle.std.specs.Prelude.{ℕ, Bool, ◌&&◌, List, map, string_bytes}
use Rattle.std.specs.Str.{bytes_eq}
use Rattle.ibcplan_folders.specs.Folders.{AnswerFile}
use Rattle.ibcplan_folders.specs.declared.memory_folders.MemoryFile.{MemoryFile}

abbrev pub known_file : MemoryFile → AnswerFile
known_file f = record { folder = string_bytes f.folder; name = string_bytes f.name; bytes = f.bytes.items }

abbrev pub known_files : List MemoryFile → List AnswerFile
known_files files = map known_file files

-- whether a file is in a folder, and has this name
abbrev pub is_in : List ℕ → MemoryFile → Bool
is_in folder f = bytes_eq (string_bytes f.folder) folder

abbrev pub is_at : List ℕ → List ℕ → MemoryFile → Bool
is_at folder name f = is_in folder f && bytes_eq (string_bytes f.name) name
