use Rattle.std.proofs.Common.{◌≡◌, ◌++◌, drop, string_bytes}
use Rattle.std.specs.List.{enumerate_from, flat_map}
use Rattle.rb_script_types.specs.Config.{config_view}
use Rattle.rb_text_export.specs.Commands.{host_window_text}
use Rattle.rb_text_export.proofs.commands.push_host_windows.Given as goal

-- what was written, and what is left
abbrev pub invariant-loop-host : goal.invariant-loop-host
invariant-loop-host l =
    string_bytes l.text ++ flat_map (host_window_text (config_view l.config).chains l.turn) (enumerate_from l.host (drop l.host l.windows))
    ≡ string_bytes l.fn.text ++ flat_map (host_window_text (config_view l.config).chains l.turn) (enumerate_from 0 l.windows)
