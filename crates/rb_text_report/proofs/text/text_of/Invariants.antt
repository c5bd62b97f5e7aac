use Rattle.std.proofs.Common.{◌≡◌, take, string_bytes}
use Rattle.std.specs.List.{flat_map}
use Rattle.rb_text_report.specs.Lines.{line_text}
use Rattle.rb_text_report.proofs.text.text_of.Given as goal

abbrev pub invariant-loop-health : goal.invariant-loop-health
invariant-loop-health l = string_bytes l.text ≡ flat_map line_text (take l.health-index l.clients)
