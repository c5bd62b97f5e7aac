use Rattle.std.proofs.Common.{◌≡◌, ◌++◌, take, string_bytes}
use Rattle.std.specs.List.{flat_map}
use Rattle.rb_text_report.specs.Metrics.{head, client_text}
use Rattle.rb_text_report.proofs.metrics.metrics_of.Given as goal

abbrev pub invariant-loop-health : goal.invariant-loop-health
invariant-loop-health l = string_bytes l.text ≡ head ++ flat_map (client_text l.chains) (take l.health-index l.clients)
