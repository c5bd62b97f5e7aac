-- Names of validator sets: each stands for the hash of a set of one chain.
use Rattle.std.specs.Prelude.{◌≡◌, ℕ, ◌==◌, ◌&&◌, nat_le, Bool, if◌then◌else◌, List, length, Option, Some, None, is_none, option_and_then, slice_get, fold, String, string_bytes, Result, Ok}
use Rattle.std.specs.BTreeMap.{BTreeMap, get_by_text}
use Rattle.std.specs.Str.{bytes_eq, chars}
use Rattle.std.specs.declared.alloc.Global.{Global}
use Rattle.hex.specs.Hex.{decode_sized}
use Rattle.rb_script_toml.specs.Faults.{Fault, ◌>>=◌, fault, check}
use Rattle.rb_script_toml.specs.Fields.{Field, text, hash_of}
use Rattle.rb_script_toml.specs.Identifiers.{is_identifier}
use Rattle.rb_script_toml.specs.declared.fault.FaultName.TheVariants.{BadIdentifier, UnknownSetName, DuplicateSetName}
use Rattle.rb_script_read.specs.declared.names.SetNames.{SetNames}
use Rattle.rb_script_read.specs.declared.names.Naming.{Naming}

-- for a chain and a name the hash, if the name was given
abbrev pub Names : Type 0
Names = ℕ → List ℕ → Option (List ℕ)

abbrev pub no_names : Names
no_names chain name = None

-- one more name
abbrev pub with_name : ℕ → List ℕ → List ℕ → Names → Names
with_name chain name hash names c n = if c == chain && bytes_eq name n then Some hash else names c n

-- by a map for each chain
abbrev pub names_in : List (BTreeMap (String Global) (List ℕ)) → Names
names_in maps chain name = option_and_then (λ m. get_by_text m name) (slice_get maps chain)

abbrev pub names_of : SetNames → Names
names_of s = names_in s.chains.items

-- a naming is one more name
abbrev pub with_naming : Names → Naming → Names
with_naming names n = with_name n.chain (string_bytes n.name) n.hash names

-- the names after these namings, in their order
abbrev pub with_namings : Names → List Naming → Names
with_namings names ns = fold with_naming names ns

-- the names are those of these namings alone
abbrev pub AreNamed : SetNames → List Naming → Type 0
AreNamed s ns = (chain : ℕ) (name : List ℕ) → names_of s chain name ≡ with_namings no_names ns chain name

-- 1 to 32 characters of an identifier
abbrev pub is_set_name : List ℕ → Bool
is_set_name text = nat_le (length text) 32 && is_identifier text

-- a name that was not given before
unfoldable pub new_set_name : (List ℕ → Option (List ℕ)) → Field → Result (List ℕ) Fault
new_set_name named f = do
  name ← text f
  _ ← check (is_set_name name) BadIdentifier f.path
  _ ← check (is_none (named name)) DuplicateSetName f.path
  Ok name

abbrev pub named_hash : List ℕ → Option (List ℕ) → Result (List ℕ) Fault
named_hash path (Some hash) = Ok hash
named_hash path None = fault UnknownSetName path

-- a set's hash, by a name that was given, or by 64 hexadecimal digits
unfoldable pub set_reference : (List ℕ → Option (List ℕ)) → Field → Result (List ℕ) Fault
set_reference named f = do
  bytes ← text f
  if nat_le (length (chars bytes)) 32
      then (check (is_identifier bytes) BadIdentifier f.path >>= λ _. named_hash f.path (named bytes))
      else hash_of f.path (decode_sized bytes 32)
