use Rattle.std.proofs.Common.{◌≡◌, ◌++◌, drop, map, string_bytes}
use Rattle.rb_super_turn.specs.Views.{turn_report_view}
use Rattle.rb_text_export.specs.Commands.{commands_text, turns_text}
use Rattle.rb_text_export.specs.Windows.{in_force_view, setting_view}
use Rattle.rb_text_export.proofs.commands.push_turns.Given as goal

-- what was written, and the turns that are left
abbrev pub invariant-loop-place : goal.invariant-loop-place
invariant-loop-place l =
    string_bytes l.text ++ turns_text (setting_view l.setting) l.wanted l.place (in_force_view l.in_force) (map turn_report_view (drop l.place l.turns))
    ≡ string_bytes l.fn.text ++ commands_text (setting_view l.setting) l.wanted (map turn_report_view l.turns)
