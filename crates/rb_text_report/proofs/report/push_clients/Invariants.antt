use Rattle.std.proofs.Common.{◌≡◌, ◌++◌, take, map, string_bytes}
use Rattle.std.specs.List.{flat_map}
use Rattle.rb_super_turn.specs.Views.{client_report_view}
use Rattle.rb_text_report.specs.Report.{client_text}
use Rattle.rb_text_report.proofs.report.push_clients.Given as goal

abbrev pub invariant-loop-client : goal.invariant-loop-client
invariant-loop-client l =
    string_bytes l.text ≡ string_bytes l.fn.text ++ flat_map (client_text l.version l.paths) (map client_report_view (take l.client-index l.clients))
