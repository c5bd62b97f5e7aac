-- The names of files.
use Rattle.std.specs.Prelude.{ℕ, ◌+◌, List, ◌++◌, codes}
use Rattle.std.specs.Fmt.{decimal}
use Rattle.rb_messages.specs.declared.update.PlannedUpdate.{PlannedUpdate}

-- the name of the file of an update, by its place
abbrev pub file_name : ℕ → PlannedUpdate → List ℕ
file_name place u = decimal (place + 1) ++ codes "-" ++ decimal u.trusted ++ codes "-" ++ decimal u.height ++ codes ".json"
