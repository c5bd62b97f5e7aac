-- When an error may be given.
use Rattle.std.specs.Prelude.{◌≡◌, Option, Some}
use Rattle.rb_script_types.specs.declared.refusal.Refusal.{Refusal}
use Rattle.rb_core_model.specs.declared.error.CoreError.{CoreError}
use Rattle.rb_core_model.specs.declared.error.CoreError.TheVariants.{Refused, NoMemory}

-- the error says the refusal that is due; want of memory may stand in its place
abbrev pub IsRefusal : CoreError → Option Refusal → Type 0
IsRefusal NoMemory due = Unit {0}
IsRefusal (Refused refusal) due = due ≡ Some refusal
