-- When the clients of a script expire, after its last turn.
use Rattle.std.specs.Prelude.{◌≡◌, ℕ, Bool, List, ◌++◌, map, if◌then◌else◌}
use Rattle.std.specs.List.{enumerate_from, flat_map}
use Rattle.std.specs.declared.alloc.Global.{Global}
use Rattle.rb_core.specs.Core.{Core, state_in}
use Rattle.rb_text_report.specs.Health.{health_in}
use Rattle.rb_text_report.specs.Lines.{line_text}
use Rattle.rb_text_report.specs.Metrics.{client_text, head}
use Rattle.rb_text_report.specs.declared.health.ClientHealth.{ClientHealth}
use Rattle.rb_script_types.specs.Script.{Script}
use Rattle.rb_super_turn.specs.AsEvents.{as_events}
use Rattle.rb_super_turn.specs.Judging.{IsEndOf}
use Rattle.rb_super_turn.specs.Phases.{standing_in}

-- these are the clients of the relayer after the script, each with when it expires
pub record AreHealthsOf (script : Script Global) (clients : List ClientHealth) : Type 0 where
  pub relayer : Core
  pub config : relayer.config ≡ script.config
  pub ended : IsEndOf (as_events script) (standing_in relayer)
  pub clients_are : clients ≡ map (health_in (state_in relayer)) (enumerate_from 0 relayer.config.clients)

-- the text has a line for each client, or its metrics
pub record IsHealthOf (are_metrics : Bool) (script : Script Global) (text : List ℕ) : Type 0 where
  pub clients : List ClientHealth
  pub healths : AreHealthsOf script clients
  pub written : text ≡ (if are_metrics then head ++ flat_map (client_text script.config.chains) clients else flat_map line_text clients)
