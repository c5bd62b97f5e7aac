-- The channel of a path (ICS 4), whose ends are named by a port and a channel identifier (ICS 24).
use Rattle.std.specs.Prelude.{ℕ, Bool, ◌&&◌, nat_le, List, length, codes, Option, Some, None, is_none, Result, Ok, if◌then◌else◌}
use Rattle.std.specs.List.{list_all}
use Rattle.rb_script_types.specs.declared.channel.Channel.{Channel}
use Rattle.rb_script_types.specs.declared.channel.ChannelEnd.{ChannelEnd}
use Rattle.rb_script_types.specs.declared.version.Version.{Version}
use Rattle.rb_script_types.specs.declared.version.Version.TheVariants.{One, Two, Three, Four}
use Rattle.rb_script_toml.specs.Faults.{Fault, ◌>>=◌, check}
use Rattle.rb_script_toml.specs.Fields.{Field, Section, text, needs, optional}
use Rattle.rb_script_toml.specs.Identifiers.{is_identifier_byte}
use Rattle.rb_script_toml.specs.declared.fault.FaultName.TheVariants.{BadIdentifier}

-- whether a text is the identifier of a port or a channel: 1 to 128 characters of identifiers
abbrev pub is_end_id : List ℕ → Bool
is_end_id text = nat_le 1 (length text) && nat_le (length text) 128 && list_all is_identifier_byte text

unfoldable pub end_id : Field → Result (List ℕ) Fault
end_id f = do
  id ← text f
  _ ← check (is_end_id id) BadIdentifier f.path
  Ok id

-- whether neither of an end's two keys is there
abbrev pub is_unnamed : List ℕ → List ℕ → Section → Bool
is_unnamed port channel s = is_none (optional port s) && is_none (optional channel s)

-- an end; both keys are needed
unfoldable pub end_at : List ℕ → List ℕ → Section → Result ChannelEnd Fault
end_at port_key channel_key s = do
  port ← needs port_key end_id s
  channel ← needs channel_key end_id s
  Ok (record { port = port; channel = channel })

-- the other end of the channel (ICS 4: the counterparty), if a key of it is there
unfoldable pub counterparty : Section → Result (Option ChannelEnd) Fault
counterparty s =
    if is_unnamed (codes "counterparty_port") (codes "counterparty_channel") s then Ok None
    else (end_at (codes "counterparty_port") (codes "counterparty_channel") s >>= λ end. Ok (Some end))

-- the ends of the channel, both keys of each; none where no key of an end is there
unfoldable pub channel : Section → Result (Option Channel) Fault
channel s =
    if is_unnamed (codes "port") (codes "channel") s && is_unnamed (codes "counterparty_port") (codes "counterparty_channel") s then Ok None
    else (end_at (codes "port") (codes "channel") s >>= λ source. counterparty s >>= λ other. Ok (Some (record { source = source; counterparty = other })))

-- the channel of a path: from version 3 on
abbrev pub channel_in : Version → Section → Result (Option Channel) Fault
channel_in One s = Ok None
channel_in Two s = Ok None
channel_in Three s = channel s
channel_in Four s = channel s
