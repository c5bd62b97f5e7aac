-- Why a text was not written whole.
use Rattle.std.specs.Prelude.{◌≡◌, Bool, true, false}
use Rattle.rb_script_toml.specs.declared.fault.RunError.{RunError}
use Rattle.rb_script_toml.specs.declared.fault.RunError.TheVariants.{Fault, NoMemory, Device}

-- the device exactly where the writer has failed, else want of memory, and never a fault
abbrev pub IsWriteError : RunError → Bool → Type 0
IsWriteError (Fault f) has_failed = ⊥
IsWriteError NoMemory has_failed = has_failed ≡ false
IsWriteError Device has_failed = has_failed ≡ true
