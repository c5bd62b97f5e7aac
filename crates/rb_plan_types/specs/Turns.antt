-- A client from turn to turn.
use Rattle.std.specs.Prelude.{◌≡◌, ℕ, ◌+◌, ◌-◌, ◌/◌, ◌<◌, ◌≤◌, nat_lt, min, max, Bool, false, not, ◌&&◌, IfSome, is_some, count_by}
use Rattle.std.specs.List.{range_with_len}
use Rattle.rb_plan_types.specs.declared.terms.Terms.{Terms}
use Rattle.rb_plan_types.specs.Refresh.{urgent_age, urgent_gain, is_urgent, is_due, needed_time}

-- what turns tell, numbered from 0: when the window ends, the time of the greatest height that the client can be brought to, and whether
-- an open batch holds the client
pub record Turns : Type 0 where
  pub until : ℕ → ℕ
  pub reach : ℕ → ℕ
  pub held : ℕ → Bool

-- a state of this time is live up to the end of a window
abbrev pub IsLive : Terms → ℕ → ℕ → Type 0
IsLive t stored until = until < stored + t.period

-- `stored` is the time of the newest stored state before each of so many turns, and after the last: a client that is neither held nor
-- expired is brought at least to what a refresh needs. Messages, asked heights and other relayers may bring it higher
pub record FollowsRule (t : Terms) (turns : ℕ) (x : Turns) (stored : ℕ → ℕ) : Type 0 where
  pub keeps : (k : ℕ) → k < turns → stored k ≤ stored (k + 1)
  pub refreshes : (k : ℕ) → k < turns → x.held k ≡ false → IsLive t (stored k) (x.until k)
      → IfSome (needed_time t (stored k) (x.reach k) (x.until k)) (λ time. time ≤ stored (k + 1))

-- what is stored before a turn expires by the end of the next turn's window
abbrev pub WouldExpire : Terms → Turns → (ℕ → ℕ) → ℕ → Type 0
WouldExpire t x stored k = stored k + t.period ≤ x.until (k + 1)

-- a turn can keep the client: the next one's window ends within a third of the period, no batch holds the client, and what is in reach is
-- live in the next turn, and for a hundredth of the refresh age more
pub record CanBeKept (t : Terms) (x : Turns) (k : ℕ) : Type 0 where
  pub near : x.until (k + 1) ≤ x.until k + t.period / 3
  pub free : x.held k ≡ false
  pub live : IsLive t (x.reach k) (x.until (k + 1) + urgent_gain t)

-- a turn has a refresh
abbrev pub is_refresh : Terms → Turns → (ℕ → ℕ) → ℕ → Bool
is_refresh t x stored k =
    not (x.held k) && nat_lt (x.until k) (stored k + t.period) && is_some (needed_time t (stored k) (x.reach k) (x.until k))

-- how many of so many turns have one
abbrev pub refreshes : Terms → Turns → (ℕ → ℕ) → ℕ → ℕ
refreshes t x stored turns = count_by (is_refresh t x stored) (range_with_len 0 turns)

-- known headers lag behind the windows by so much at most
abbrev pub LagsBy : ℕ → ℕ → Turns → Type 0
LagsBy lag turns x = (k : ℕ) → k < turns → x.until k ≤ x.reach k + lag

-- a turn has a refresh that isn't urgent
abbrev pub is_calm_refresh : Terms → Turns → (ℕ → ℕ) → ℕ → Bool
is_calm_refresh t x stored k =
    not (x.held k) && nat_lt (x.until k) (stored k + t.period)
    && not (is_urgent t (stored k) (x.until k)) && is_due t (stored k) (x.reach k) (x.until k)

-- how many of so many turns have one
abbrev pub calm_refreshes : Terms → Turns → (ℕ → ℕ) → ℕ → ℕ
calm_refreshes t x stored turns = count_by (is_calm_refresh t x stored) (range_with_len 0 turns)

-- each refresh makes the client newer by at least so much where headers lag by no more than `lag`: one that isn't urgent by the refresh age
-- without the lag, and by more than half of it whatever comes; an urgent one by the urgent age without the lag
abbrev pub calm_win : Terms → ℕ → ℕ
calm_win t lag = max (t.refresh / 2 + 1) (t.refresh - lag)

abbrev pub least_win : Terms → ℕ → ℕ
least_win t lag = min (calm_win t lag) (urgent_age t - lag)

-- no turn brings the client above its reach
abbrev pub IsWithinReach : ℕ → Turns → (ℕ → ℕ) → Type 0
IsWithinReach turns x stored = (k : ℕ) → k < turns → stored (k + 1) ≤ max (stored k) (x.reach k)

-- any other choice of updates, by any knowledge, that keeps the client live in each of so many turns
pub record IsKeptAlive (t : Terms) (turns : ℕ) (x : Turns) (stored : ℕ → ℕ) : Type 0 where
  pub within : IsWithinReach turns x stored
  pub live : (k : ℕ) → k < turns → IsLive t (stored k) (x.until k)

-- how many of so many turns have an update
abbrev pub updates : (ℕ → ℕ) → ℕ → ℕ
updates stored turns = count_by (λ k. nat_lt (stored k) (stored (k + 1))) (range_with_len 0 turns)
