-- the gas of a path's messages (own choice)
use Rattle.std.specs.Prelude.{ℕ, ◌^◌, ◌≤◌}
use Rattle.rb_scan.specs.declared.message.Kind.{Kind}
use Rattle.rb_scan.specs.declared.message.Kind.TheVariants.{Receive, Acknowledge, Timeout}

pub record PathGas : Type 0 where
  pub receive : ℕ
  pub acknowledge : ℕ
  pub timeout : ℕ

-- each of the three is at most 10^9
abbrev pub IsPathGas : PathGas → Type 0
IsPathGas g = (g.receive ≤ 10 ^ 9) × (g.acknowledge ≤ 10 ^ 9) × (g.timeout ≤ 10 ^ 9)

-- the gas of a message of a kind
abbrev pub gas_for : PathGas → Kind → ℕ
gas_for g Receive = g.receive
gas_for g Acknowledge = g.acknowledge
gas_for g Timeout = g.timeout
