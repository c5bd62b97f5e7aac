-- What the first two versions of the format leave out.
use Rattle.std.specs.Prelude.{◌≡◌, ◌≢◌, ◌⊎◌, ℕ, All, List, Ok}
use Rattle.std.specs.declared.alloc.Global.{Global}
use Rattle.rb_script_types.specs.Config.{Config}
use Rattle.rb_script_types.specs.Script.{Script}
use Rattle.rb_script_types.specs.declared.config.ClientConfig.{ClientConfig}
use Rattle.rb_script_types.specs.declared.config.PathConfig.{PathConfig}
use Rattle.rb_script_types.specs.declared.config.RefreshTo.TheVariants.{Newer}
use Rattle.rb_script_types.specs.declared.version.Version.{Version}
use Rattle.rb_script_types.specs.declared.version.Version.TheVariants.{One, Two}
use Rattle.rb_script_types.specs.declared.waits.Waits.{Waits}
use Rattle.rb_script_read.specs.Scripts.{script_of}

-- no message may wait
abbrev pub WaitsNot : Waits → Type 0
WaitsNot w = (w.receive ≡ 0) × (w.acknowledge ≡ 0) × (w.timeout ≡ 0)

-- no message of its paths may wait, and its clients are refreshed by age
pub record WaitsNever (c : Config) : Type 0 where
  pub waits : All (λ (p : PathConfig). WaitsNot p.waits) c.paths
  pub by_age : All (λ (k : ClientConfig). k.refresh_to ≢ Newer) c.clients

abbrev pub IsEarly : Version → Type 0
IsEarly v = (v ≡ One) ⊎ (v ≡ Two)

-- so it is in every script of a text of these versions
abbrev pub EarlyScriptsWaitNot : Type 0
EarlyScriptsWaitNot = (bytes : List ℕ) (s : Script Global) → script_of bytes ≡ Ok s → IsEarly s.config.version → WaitsNever s.config
