use Rattle.std.proofs.Common.{◌≡◌, ◌++◌, drop, map}
use Rattle.std.specs.List.{enumerate_from}
use Rattle.rb_super_turn.specs.Views.{turn_report_view}
use Rattle.rb_text_export.specs.Windows.{given_view, host_after}
use Rattle.rb_text_export.proofs.windows.hosts_after.Given as goal

-- what is there, and what is left
abbrev pub invariant-loop-host : goal.invariant-loop-host
invariant-loop-host l =
    l.hosts.items ++ map (host_after (turn_report_view l.turn) (given_view l.given)) (enumerate_from l.host (drop l.host l.before))
    ≡ map (host_after (turn_report_view l.turn) (given_view l.given)) (enumerate_from 0 l.before)
