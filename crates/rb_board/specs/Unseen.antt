-- Why a desk has no answer.
use Rattle.std.specs.Prelude.{◌≡◌, ◌<◌, length, Option, Some}
use Rattle.rb_script_types.specs.declared.refusal.Refusal.{Refusal}
use Rattle.rb_core_model.specs.declared.error.CoreError.{CoreError}
use Rattle.rb_core_model.specs.declared.error.CoreError.TheVariants as core
use Rattle.rb_board.specs.Ends.{Desk}
use Rattle.rb_board.specs.declared.error.DeskError.{DeskError}
use Rattle.rb_board.specs.declared.error.DeskError.TheVariants.{Behind, Refused, NoMemory}

-- what the core answers with
abbrev pub of_core : CoreError → DeskError
of_core (core.Refused refusal) = Refused refusal
of_core core.NoMemory = NoMemory

-- fewer events are published than the desk was told of, or the core's refusal is the one that is due
abbrev pub IsUnseen : DeskError → Desk → Option Refusal → Type 0
IsUnseen Behind desk due = length desk.seen.events < desk.told
IsUnseen (Refused refusal) desk due = due ≡ Some refusal
IsUnseen _ desk due = Unit {0}
