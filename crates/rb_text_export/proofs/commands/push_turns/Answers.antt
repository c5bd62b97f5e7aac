use Rattle.std.proofs.Common.{◌++◌, map, string_bytes}
use Rattle.rb_super_turn.specs.Views.{turn_report_view}
use Rattle.rb_text_export.proofs.Turns.{next_turn}
use Rattle.rb_text_export.specs.Commands.{commands_text}
use Rattle.rb_text_export.specs.Windows.{in_force_view, setting_view}
use Rattle.rb_text_export.proofs.commands.push_turns.Goals as goal

pub loop-place-preserved : goal.loop-place-preserved
loop-place-preserved c =
    let s = setting_view c.args.setting.now in
    next_turn s c.args.wanted c.args.turns.now c.loop-place.place c.index-turns-place.result (in_force_view c.loop-place.in_force) (in_force_view c.in_ok-now.now)
    (string_bytes c.loop-place.text) (string_bytes c.push_wanted.new.text) (string_bytes c.args.text.now ++ commands_text s c.args.wanted (map turn_report_view c.args.turns.now))
    c.loop-place-test.true c.index-turns-place.is c.in_ok-now.ensures c.in_ok-push_wanted.ensures c.loop-place.invariant
