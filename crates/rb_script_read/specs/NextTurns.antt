-- Turns that are read from documents of their own, each after those before it.
use Rattle.std.specs.Prelude.{◌≡◌, ℕ, List, [], codes, Result, Ok, Err}
use Rattle.std.specs.declared.alloc.Global.{Global}
use Rattle.rb_script_types.specs.Config.{Config}
use Rattle.rb_script_types.specs.Script.{Turn, turn_view}
use Rattle.rb_script_toml.specs.declared.fault.RunError.{RunError}
use Rattle.rb_script_toml.specs.declared.fault.RunError.TheVariants as errors
use Rattle.rb_script_toml.specs.Faults.{Fault, fault_view, ◌>>=◌}
use Rattle.rb_script_toml.specs.Documents.{document}
use Rattle.rb_script_read.specs.declared.turn.NextTurn.{NextTurn}
use Rattle.rb_script_read.specs.declared.turn.ReadingChange.{ReadingChange}
use Rattle.rb_script_read.specs.Names.{with_namings}
use Rattle.rb_script_read.specs.Turns.{Reading, turn}

-- what a turn that was read leaves to the next
abbrev pub reading_after : Reading → ReadingChange → Reading
reading_after r change = record { names = with_namings r.names change.namings.items; room = change.room }

-- a turn that was read after others, and what it leaves to the next
abbrev pub next_turn_view : Reading → NextTurn → Turn Global × Reading
next_turn_view r n = (turn_view n.turn, reading_after r n.change)

-- a fault of the document's top table is one of the document, whose path is `-`
abbrev pub path_in_document : List ℕ → List ℕ
path_in_document [] = codes "-"
path_in_document path = path

abbrev pub fault_in_document : Fault → Fault
fault_in_document f = record { name = f.name; path = path_in_document f.path }

abbrev pub in_document : {A : Type 0} → Result A Fault → Result A Fault
in_document (Ok x) = Ok x
in_document (Err f) = Err (fault_in_document f)

-- the second error is the first, of a fault as it is told of a document; or memory ran out
abbrev pub IsInDocument : RunError → RunError → Type 0
IsInDocument (errors.Fault f) (errors.Fault g) = fault_view g ≡ fault_in_document (fault_view f)
IsInDocument (errors.Fault f) errors.NoMemory = Unit {0}
IsInDocument (errors.Fault f) errors.Device = ⊥
IsInDocument e f = f ≡ e

-- the turn whose keys stand at the top of a document, after the turns that leave this reading, and what it leaves; or the first fault
unfoldable pub turn_of_document : Config → Reading → List ℕ → Result (Turn Global × Reading) Fault
turn_of_document c reading bytes = do
  s ← document bytes
  in_document (turn c reading s)
