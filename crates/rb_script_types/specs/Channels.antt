-- The ends of a channel (ICS 4).
use Rattle.std.specs.Prelude.{ℕ, List, ◌∷◌, ◌++◌}
use Rattle.rb_script_types.specs.declared.channel.ChannelEnd.{ChannelEnd}

-- an end as `port/channel`
abbrev pub end_text : ChannelEnd → List ℕ
end_text end = end.port ++ 47 ∷ end.channel
