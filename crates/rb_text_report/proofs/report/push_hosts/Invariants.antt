use Rattle.std.proofs.Common.{◌≡◌, ◌++◌, take, string_bytes}
use Rattle.std.specs.List.{flat_map}
use Rattle.rb_text_report.specs.Report.{host_line}
use Rattle.rb_text_report.proofs.report.push_hosts.Given as goal

abbrev pub invariant-loop-host : goal.invariant-loop-host
invariant-loop-host l = string_bytes l.text ≡ string_bytes l.fn.text ++ flat_map (host_line l.chains) (take l.host-index l.hosts)
