-- Why a setup or a document makes no part of a journal.
use Rattle.std.specs.Prelude.{◌≡◌, ℕ, ◌<◌, ◌⊎◌, Bool, false, List, ◌++◌, codes, length, string_bytes, Ok}
use Rattle.toml.specs.Data.{Members}
use Rattle.toml.specs.Text.{IsDocumentText}
use Rattle.rb_script_toml.specs.declared.fault.FaultName.{FaultName}
use Rattle.rb_script_toml.specs.declared.fault.FaultName.TheVariants.{NotToml, InputTooBig, TooManyTables}
use Rattle.rb_script_toml.specs.declared.fault.RunError.{RunError}
use Rattle.rb_script_toml.specs.declared.fault.RunError.TheVariants as errors
use Rattle.rb_script_toml.specs.Faults.{Fails}
use Rattle.rb_script_toml.specs.Documents.{max_bytes, max_marks, document, whole}
use Rattle.rb_script_toml.specs.Marks.{marks}
use Rattle.rb_journal.specs.Parts.{heading, gap, closing, IsWhole}
use Rattle.rb_journal.specs.Entries.{IsWritable, script_of, turn_key, without}

-- the error is a fault of the whole text, for a reason that goes with its name, or memory ran out
abbrev pub IsRefusal : (FaultName → Type 0) → RunError → Type 0
IsRefusal why errors.NoMemory = Unit {0}
IsRefusal why errors.Device = ⊥
IsRefusal why (errors.Fault f) = why f.name × (string_bytes f.path ≡ codes "-")

-- a table has no text that is read: it has a date that is none or nests too deep, or a text of it is too long or may open too many tables
abbrev pub HasNoText : Members → FaultName → Type 0
HasNoText ms NotToml = ¬ IsWritable ms
HasNoText ms InputTooBig = (text : List ℕ) × IsDocumentText false ms text × (max_bytes < length text)
HasNoText ms TooManyTables = (text : List ℕ) × IsDocumentText false ms text × (max_marks < marks text)
HasNoText ms name = ⊥

-- a part is longer than a script may be, or a line within looks like its last
abbrev pub IsNoPart : List ℕ → FaultName → Type 0
IsNoPart part InputTooBig = max_bytes < length part
IsNoPart part NotToml = ¬ IsWhole part
IsNoPart part name = ⊥

abbrev pub MakesNoPart : Bool → List ℕ → Members → FaultName → Type 0
MakesNoPart digests before ms name =
    HasNoText ms name
    ⊎ ((text : List ℕ) × IsDocumentText false ms text × IsNoPart (before ++ (text ++ closing digests (before ++ text))) name)

-- a setup that is read makes no first part
abbrev pub MakesNoOpening : Bool → List ℕ → RunError → Type 0
MakesNoOpening digests setup error =
    Fails error (document setup)
    ⊎ ((ms : Members) × (document setup ≡ Ok (whole ms)) × IsRefusal (MakesNoPart digests (heading digests) (without turn_key ms)) error)

-- the script of a document's turn makes no part
abbrev pub HasNoScript : Bool → List ℕ → Type 0
HasNoScript digests bytes =
    (turn : Members) × (name : FaultName) × (document bytes ≡ Ok (whole turn)) × MakesNoPart digests gap (script_of turn) name
