-- Scripts that their reader could have given.
use Rattle.std.specs.Prelude.{◌≡◌, ℕ, ◌^◌, ◌<◌, All, Ok}
use Rattle.std.specs.declared.alloc.Global.{Global}
use Rattle.rb_base.specs.Fraction.{IsTrustLevel}
use Rattle.rb_scan.specs.Sequence.{IsSequence}
use Rattle.rb_script_types.specs.Config.{Config}
use Rattle.rb_script_types.specs.Script.{IsReadScript, Script}
use Rattle.rb_script_types.specs.declared.config.ClientConfig.{ClientConfig}
use Rattle.rb_script_types.specs.declared.config.PathConfig.{PathConfig}
use Rattle.rb_script_read.specs.Work.{little}

-- a clock drift and a trust level (ICS 7)
abbrev pub HasOptions : ℕ → ℕ → ℕ → Type 0
HasOptions drift numerator denominator = (drift < 2 ^ 63) × IsTrustLevel numerator denominator

abbrev pub HasItsRange : ClientConfig → Type 0
HasItsRange c = HasOptions c.options.drift c.options.trust.numerator c.options.trust.denominator

abbrev pub HasItsFirst : PathConfig → Type 0
HasItsFirst p = IsSequence p.first

-- the numbers of clients and paths are in their ranges
abbrev pub HasRanges : Config → Type 0
HasRanges c = All HasItsRange c.clients × All HasItsFirst c.paths

-- the reader of scripts gives no such script: it has too many entries, or another fault of form, asks for too much, or has a number outside its range
abbrev pub IsTooMuch : Script Global → Type 0
IsTooMuch s = ¬ (IsReadScript s × (little s.config s.turns ≡ Ok tt) × HasRanges s.config)
