use Rattle.std.proofs.Common.{◌≡◌, ◌++◌, drop, string_bytes}
use Rattle.std.specs.List.{enumerate_from, flat_map}
use Rattle.rb_script_types.specs.Config.{config_view}
use Rattle.rb_text_export.specs.Commands.{message_text}
use Rattle.rb_text_export.proofs.packet_commands.push_packets.Given as goal

-- what was written, and what is left
abbrev pub invariant-loop-place : goal.invariant-loop-place
invariant-loop-place l =
    string_bytes l.text ++ flat_map (message_text (config_view l.config) l.messages) (enumerate_from l.place (drop l.place l.messages))
    ≡ string_bytes l.fn.text ++ flat_map (message_text (config_view l.config) l.messages) (enumerate_from 0 l.messages)
