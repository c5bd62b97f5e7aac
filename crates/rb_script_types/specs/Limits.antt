-- how much a script may have (own choice)
use Rattle.std.specs.Prelude.{ℕ}

abbrev pub max_chains : ℕ
max_chains = 64

abbrev pub max_clients : ℕ
max_clients = 256

abbrev pub max_paths : ℕ
max_paths = 256

abbrev pub max_turns : ℕ
max_turns = 500

-- goals, events and settlements of all turns
abbrev pub max_entries : ℕ
max_entries = 200000

-- records of a book
abbrev pub max_records : ℕ
max_records = 4096
