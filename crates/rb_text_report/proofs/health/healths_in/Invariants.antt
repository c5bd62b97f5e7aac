use Rattle.std.proofs.Common.{◌≡◌, ◌++◌, drop, map}
use Rattle.std.specs.List.{enumerate_from}
use Rattle.rb_core.specs.Core.{state_in}
use Rattle.rb_text_report.specs.Health.{health_in}
use Rattle.rb_text_report.proofs.health.healths_in.Given as goal

-- the clients that are listed, and those that are left
abbrev pub invariant-loop-place : goal.invariant-loop-place
invariant-loop-place g l =
    l.healths.items ++ map (health_in (state_in l.core)) (enumerate_from l.place (drop l.place l.clients))
    ≡ map (health_in (state_in l.core)) (enumerate_from 0 l.clients)
