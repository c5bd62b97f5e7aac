use Rattle.std.proofs.Common.{◌≡◌, ◌++◌, take, map, string_bytes}
use Rattle.std.specs.List.{flat_map}
use Rattle.rb_super_turn.specs.Views.{priced_view}
use Rattle.rb_text_report.specs.Report.{update_line}
use Rattle.rb_text_report.proofs.report.push_updates.Given as goal

abbrev pub invariant-loop-update : goal.invariant-loop-update
invariant-loop-update l = string_bytes l.text ≡ string_bytes l.fn.text ++ flat_map update_line (map priced_view (take l.update-index l.updates))
