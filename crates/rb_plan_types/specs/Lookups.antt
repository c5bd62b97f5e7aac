-- What the planner asks of its look-ups.
use Rattle.std.specs.Prelude.{ℕ, ◌≤◌, ◌^◌, List, length, Contains}
use Rattle.std.specs.List.Sorted.{IsStrictlyIncreasing}
use Rattle.rb_step.specs.LightClient.{Client}

-- the known heights rise and are few, and what is stored and where a step leads is among them
pub record AreAllKnown (client : Client) (known : List ℕ) : Type 0 where
  pub rising : IsStrictlyIncreasing known
  pub few : length known ≤ 2 ^ 12
  pub stored : (h : ℕ) → Contains client.stored h → Contains known h
  pub steps : (t h : ℕ) → client.Accepts t h → Contains known h
