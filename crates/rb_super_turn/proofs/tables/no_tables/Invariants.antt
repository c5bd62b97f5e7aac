use Rattle.std.proofs.Common.{◌≡◌, None, replicate}
use Rattle.rb_super_turn.proofs.tables.no_tables.Given as goal

abbrev pub invariant-loop : goal.invariant-loop
invariant-loop g l = l.tables.items ≡ replicate l.counter None
