use Rattle.std.proofs.Common.{◌≡◌, ◌++◌, take, string_bytes}
use Rattle.std.specs.List.{flat_map}
use Rattle.rb_text_report.specs.Report.{label_line}
use Rattle.rb_text_report.proofs.report.push_labels.Given as goal

abbrev pub invariant-loop-label : goal.invariant-loop-label
invariant-loop-label l = string_bytes l.text ≡ string_bytes l.fn.text ++ flat_map label_line (take l.label-index l.labels)
