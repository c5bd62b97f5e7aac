-- The tables of paths (ICS 4: one direction of a channel).
use Rattle.std.specs.Prelude.{ℕ, List, [], ◌∷◌, map, codes, string_bytes, Option, option_map, option_and_then, Result, Ok}
use Rattle.rb_script_types.specs.Channels.{end_text}
use Rattle.rb_script_types.specs.declared.channel.Channel.{Channel}
use Rattle.rb_script_types.specs.declared.channel.ChannelEnd.{ChannelEnd}
use Rattle.rb_script_types.specs.declared.config.PathConfig.{PathConfig}
use Rattle.rb_script_types.specs.declared.version.Version.TheVariants.{Three}
use Rattle.rb_script_toml.specs.Faults.{Fault, ◌>>=◌}
use Rattle.rb_script_toml.specs.Fields.{Section, only}
use Rattle.rb_script_config.specs.Channels.{channel_in}
use Rattle.rb_script_config.specs.Paths.{path_config, waits_in, fits}
use Rattle.rb_import_setup.specs.declared.setup.ClientSetup.{ClientSetup}
use Rattle.rb_import_setup.specs.declared.setup.PathSetup.{PathSetup}
use Rattle.rb_import_setup.specs.Clients.{client_ends, client_ids}

-- a path as a script has it, and the two ends of its channel, each as `port/channel`
pub record Path : Type 0 where
  pub config : PathConfig
  pub source_channel : Option (List ℕ)
  pub counterparty : Option (List ℕ)

abbrev pub path_view : PathSetup → Path
path_view p = record { config = p.config; source_channel = option_map string_bytes p.source_channel; counterparty = option_map string_bytes p.counterparty }

-- ---- the ends of the channel

abbrev pub source_of : Option Channel → Option ChannelEnd
source_of channel = option_map (λ (c : Channel). c.source) channel

-- the other end (ICS 4: the counterparty), where it is named
abbrev pub counterparty_of : Option Channel → Option ChannelEnd
counterparty_of channel = option_and_then (λ (c : Channel). c.counterparty) channel

-- ---- paths

abbrev pub path_ids : List Path → List (List ℕ)
path_ids paths = map (λ p. p.config.id) paths

abbrev pub path_keys : List (List ℕ)
path_keys =
    codes "id" ∷ codes "source" ∷ codes "dest" ∷ codes "order" ∷ codes "first" ∷ codes "forward" ∷ codes "back" ∷ codes "gas"
    ∷ codes "wait_ns" ∷ codes "port" ∷ codes "channel" ∷ codes "counterparty_port" ∷ codes "counterparty_channel" ∷ []

-- a path of these chains and clients, beside those before it; its messages may wait and its channel is named, as in a script of version 3
unfoldable pub path : List (List ℕ) → List ClientSetup → List Path → Section → Result Path Fault
path chains clients before s = do
  _ ← only path_keys s
  p ← path_config chains (client_ids clients) (path_ids before) s
  w ← waits_in Three s
  c ← channel_in Three s
  _ ← fits client_ends clients p s.path
  Ok (record {
    config = record p { waits = w; channel = c };
    source_channel = option_map end_text (source_of c);
    counterparty = option_map end_text (counterparty_of c);
  })
