-- The ends of a path's channel (ICS 4).
use Rattle.std.specs.Prelude.{Option, option_and_then}
use Rattle.std.specs.Option.{option_map}
use Rattle.rb_script_types.specs.declared.channel.Channel.{Channel}
use Rattle.rb_script_types.specs.declared.channel.ChannelEnd.{ChannelEnd}
use Rattle.rb_packets.specs.declared.ends.Ends.{Ends}

-- both ends, if both are named
abbrev pub ends_in : Option Channel → Option Ends
ends_in channel = option_and_then (λ (c : Channel). option_map (λ (dest : ChannelEnd). record { source = c.source; dest = dest }) c.counterparty) channel
