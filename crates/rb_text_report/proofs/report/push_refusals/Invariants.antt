use Rattle.std.proofs.Common.{◌≡◌, ◌++◌, take, map, string_bytes}
use Rattle.std.specs.List.{flat_map}
use Rattle.rb_super_turn.specs.Views.{refused_view}
use Rattle.rb_text_report.specs.Report.{refused_line}
use Rattle.rb_text_report.proofs.report.push_refusals.Given as goal

abbrev pub invariant-loop-refused : goal.invariant-loop-refused
invariant-loop-refused l = string_bytes l.text ≡ string_bytes l.fn.text ++ flat_map refused_line (map refused_view (take l.refused-index l.refusals))
