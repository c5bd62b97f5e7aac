use Rattle.std.proofs.Common.{◌≡◌, ◌++◌, drop, map, string_bytes}
use Rattle.std.specs.List.{enumerate_from, flat_map}
use Rattle.rb_script_types.specs.Config.{config_view}
use Rattle.rb_super_turn.specs.Views.{client_report_view}
use Rattle.rb_text_export.specs.Commands.{client_text}
use Rattle.rb_text_export.proofs.commands.push_clients.Given as goal

-- what was written, and what is left
abbrev pub invariant-loop-place : goal.invariant-loop-place
invariant-loop-place l =
    string_bytes l.text ++ flat_map (client_text (config_view l.config) l.turn) (enumerate_from l.place (map client_report_view (drop l.place l.clients)))
    ≡ string_bytes l.fn.text ++ flat_map (client_text (config_view l.config) l.turn) (enumerate_from 0 (map client_report_view l.clients))
