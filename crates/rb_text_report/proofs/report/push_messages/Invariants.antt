use Rattle.std.proofs.Common.{◌≡◌, ◌++◌, take, string_bytes}
use Rattle.std.specs.List.{flat_map}
use Rattle.rb_text_report.specs.Report.{message_line}
use Rattle.rb_text_report.proofs.report.push_messages.Given as goal

abbrev pub invariant-loop-message : goal.invariant-loop-message
invariant-loop-message l = string_bytes l.text ≡ string_bytes l.fn.text ++ flat_map (message_line l.paths) (take l.message-index l.messages)
