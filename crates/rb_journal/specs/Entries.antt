-- What parts of a journal say: the setup, and turns.
use Rattle.std.specs.Prelude.{◌≡◌, ℕ, ◌+◌, ◌≤◌, ◌==◌, ◌⊎◌, Bool, true, false, List, ◌++◌, codes, length, if◌then◌else◌, Option, None, option_and_then, Ok}
use Rattle.toml.specs.Data.{array, table, Items, item, no_items, Members, no_members, member, members_depth, members_have_valid_dates, same_key, get_member, as_array, as_table}
use Rattle.toml.specs.Text.{IsDocumentText}
use Rattle.rb_script_toml.specs.declared.fault.FaultName.TheVariants.{InputTooBig, TooManyTables}
use Rattle.rb_script_toml.specs.declared.fault.RunError.{RunError}
use Rattle.rb_script_toml.specs.Faults.{IsFault}
use Rattle.rb_script_toml.specs.Documents.{max_bytes, document, whole}
use Rattle.rb_journal.specs.Parts.{heading, gap, closing, IsWhole}
use Rattle.rb_journal.specs.Verbatim.{verbatim}

-- the key of a script's turns
abbrev pub turn_key : List ℕ
turn_key = codes "turn"

-- a script of one turn
abbrev pub script_of : Members → Members
script_of turn = member turn_key (array (item (table turn) no_items)) no_members

-- the table in an array of one
abbrev pub only_table : Items → Option Members
only_table (item d no_items) = as_table d
only_table _ = None

abbrev pub count_of : Members → ℕ
count_of no_members = 0
count_of (member k d ms) = count_of ms + 1

-- the turn of a script that has one turn, and no other key
unfoldable pub turn_in : Members → Option Members
turn_in ms =
    if count_of ms == 1 then option_and_then only_table (option_and_then as_array (get_member turn_key ms)) else None

-- without what a key has
abbrev pub without : List ℕ → Members → Members
without k no_members = no_members
without k (member l d ms) = if same_key k l then ms else member l d (without k ms)

-- as deep as the reader of TOML goes
abbrev pub max_depth : ℕ
max_depth = 80

-- a table that a text can have
abbrev pub IsWritable : Members → Type 0
IsWritable ms = (members_have_valid_dates ms ≡ true) × (members_depth ms ≤ max_depth)

-- a part: a line, a text that reads as this table, and the lines that end it, with a digest or without
pub record IsPart (digests : Bool) (before : List ℕ) (ms : Members) (part : List ℕ) : Type 0 where
  pub text : List ℕ
  pub is_part : part ≡ before ++ (text ++ closing digests (before ++ text))
  pub written : IsDocumentText false ms text
  pub writable : IsWritable ms
  pub read : document text ≡ Ok (whole ms)
  pub ends : IsWhole part
  pub fits : length part ≤ max_bytes

-- the first part: a setup without turns
abbrev pub IsOpening : Bool → List ℕ → List ℕ → Type 0
IsOpening digests setup part =
    (ms : Members) × (document setup ≡ Ok (whole ms)) × IsPart digests (heading digests) (without turn_key ms) part

-- the part for a document: a script of the turn that it holds
pub record IsScriptPart (digests : Bool) (bytes part : List ℕ) : Type 0 where
  pub turn : Members
  pub held : document bytes ≡ Ok (whole turn)
  pub part_of : IsPart digests gap (script_of turn) part

-- the part for a document: its lines as they came
pub record IsVerbatimPart (digests : Bool) (bytes part : List ℕ) : Type 0 where
  pub turn : Members
  pub held : document bytes ≡ Ok (whole turn)
  pub is_part : part ≡ verbatim bytes ++ closing digests (verbatim bytes)
  pub ends : IsWhole part

-- the part for a document
abbrev pub IsEntry : Bool → List ℕ → List ℕ → Type 0
IsEntry digests bytes part = IsScriptPart digests bytes part ⊎ IsVerbatimPart digests bytes part

-- each document for which this part is the script reads as this text does
abbrev pub RestoresScript : Bool → List ℕ → List ℕ → Type 0
RestoresScript digests part text = (bytes : List ℕ) → IsScriptPart digests bytes part → document text ≡ document bytes

-- each document for which this is the part reads as this text does
abbrev pub Restores : Bool → List ℕ → List ℕ → Type 0
Restores digests part text = (bytes : List ℕ) → IsEntry digests bytes part → document text ≡ document bytes

-- a text has too many bytes, or tables, to be read; or memory ran out
abbrev pub IsTooMuch : RunError → Type 0
IsTooMuch error = IsFault error InputTooBig (codes "-") ⊎ IsFault error TooManyTables (codes "-")

-- no document is restored: none has this part, or its text is too much
abbrev pub Unrestored : Bool → List ℕ → RunError → Type 0
Unrestored digests part error = (bytes : List ℕ) → IsEntry digests bytes part → IsTooMuch error

-- the same where parts are scripts
abbrev pub UnrestoredScript : Bool → List ℕ → RunError → Type 0
UnrestoredScript digests part error = (bytes : List ℕ) → IsScriptPart digests bytes part → IsTooMuch error
