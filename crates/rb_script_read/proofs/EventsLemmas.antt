-- Events that give no name.
use Rattle.std.proofs.Common.{Result, Ok, Err, refl}
use Rattle.std.specs.declared.alloc.Global.{Global}
use Rattle.rb_script_types.specs.declared.observation.Observation.{Observation}
use Rattle.rb_script_toml.specs.Faults.{Fault, Gives}
use Rattle.rb_script_toml.specs.declared.fault.RunError.{RunError}
use Rattle.rb_script_toml.proofs.Steps.{fails-first}
use Rattle.rb_script_read.specs.Names.{Names}
use Rattle.rb_script_read.specs.Events.{unnamed}

-- the names stay
pub unnamed-gives : (names : Names) (r : Result (Observation Global) RunError) (read : Result (Observation Global) Fault)
    → Gives (λ e. e) r read → Gives (λ e. (e, names)) r (unnamed names read)
unnamed-gives names (Ok e) read h = rw h refl
unnamed-gives names (Err f) read h = fails-first f read (λ e. Ok (e, names)) h

pub ruleset events = (unnamed-gives)
