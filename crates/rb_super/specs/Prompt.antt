-- Where no message may wait (own choice, over what a script's turns report).
use Rattle.std.specs.Prelude.{◌≡◌, ◌≢◌, ℕ, All, List, Some, slice_get}
use Rattle.rb_script_types.specs.declared.config.ClientConfig.{ClientConfig}
use Rattle.rb_script_types.specs.declared.config.PathConfig.{PathConfig}
use Rattle.rb_script_types.specs.declared.config.RefreshTo.TheVariants.{Newer}
use Rattle.rb_plan_client.specs.Laws.{WaitsNot, IsPrompt}
use Rattle.rb_super_turn.specs.Report.{Report}
use Rattle.rb_super_turn.specs.Script.{Script}
use Rattle.rb_super.specs.Fewest.{ClientTurn, IsRun}

-- none of the messages of a script's paths may wait
abbrev pub NoneMayWait : Script → Type 0
NoneMayWait script = All (λ (p : PathConfig). WaitsNot p.waits) script.config.paths

-- a client of the script, by its place, is refreshed by age
pub record IsByAge (script : Script) (place : ℕ) (config : ClientConfig) : Type 0 where
  pub is_client : slice_get script.config.clients place ≡ Some config
  pub by_age : config.refresh_to ≢ Newer

-- in each turn the goal and the messages of the client are those of all messages that are ready
abbrev pub NoneWaits : Type 0
NoneWaits =
    (script : Script) (report : Report) (place turn : ℕ) (config : ClientConfig) (ks : List ClientTurn) (k : ClientTurn) → IsRun script report place ks
    → NoneMayWait script → IsByAge script place config → slice_get ks turn ≡ Some k → IsPrompt k.task k.reach
