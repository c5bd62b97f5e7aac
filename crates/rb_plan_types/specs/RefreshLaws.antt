-- Laws of refreshes, over every client and every run of turns.
use Rattle.std.specs.Prelude.{◌≡◌, ℕ, ◌+◌, ◌-◌, ◌*◌, ◌/◌, ◌<◌, ◌≤◌, true, Some, None, IfSome, is_some}
use Rattle.rb_plan_types.specs.declared.terms.Terms.{Terms}
use Rattle.rb_plan_types.specs.Refresh.{urgent_gain, needed_time, refresh_moment}
use Rattle.rb_plan_types.specs.Turns.{Turns, IsLive, FollowsRule, IsWithinReach, WouldExpire, CanBeKept, LagsBy, IsKeptAlive, calm_refreshes, refreshes, least_win, updates}

-- a client that is live in the first turn is live in every turn, if it can be kept in each turn after which it would expire: none other
-- matters
abbrev pub KeptAlive : Type 0
KeptAlive =
    (t : Terms) (turns : ℕ) (x : Turns) (stored : ℕ → ℕ) → 0 < t.refresh → FollowsRule t turns x stored
    → IsLive t (stored 0) (x.until 0)
    → ((k : ℕ) → k + 1 < turns → WouldExpire t x stored k → CanBeKept t x k)
    → (k : ℕ) → k < turns → IsLive t (stored k) (x.until k)

-- how far apart refreshes are, in the tracked chain's time, as the first newest state's time and what all of them win
pub record RefreshesAreSeldom : Type 0 where
  -- each that isn't urgent makes the client newer by more than half the refresh age
  pub calm : (t : Terms) (turns : ℕ) (x : Turns) (stored : ℕ → ℕ) → 0 < t.refresh → FollowsRule t turns x stored
      → stored 0 + (t.refresh / 2 + 1) * calm_refreshes t x stored turns ≤ stored turns
  -- and by the whole of it but for the lag, where headers lag by no more than this: so by nearly the whole where they come at once
  pub calm_where_nodes_lag : (t : Terms) (turns : ℕ) (x : Turns) (stored : ℕ → ℕ) (lag : ℕ) → 0 < t.refresh → FollowsRule t turns x stored
      → LagsBy lag turns x → stored 0 + (t.refresh - lag) * calm_refreshes t x stored turns ≤ stored turns
  -- each at all makes it newer by more than a hundredth of the refresh age, or of the period where that is less
  pub always : (t : Terms) (turns : ℕ) (x : Turns) (stored : ℕ → ℕ) → FollowsRule t turns x stored
      → stored 0 + (urgent_gain t + 1) * refreshes t x stored turns ≤ stored turns
  -- and where headers lag by no more than so much, as calm ones, or by two thirds of the period without the lag if that is less
  pub all : (t : Terms) (turns : ℕ) (x : Turns) (stored : ℕ → ℕ) (lag : ℕ) → FollowsRule t turns x stored → LagsBy lag turns x
      → stored 0 + least_win t lag * refreshes t x stored turns ≤ stored turns

-- beside any choice, by any knowledge, that keeps the client alive in the same turns from the same state on, where no header is later than
-- the window's end by more than `ahead`: with a refresh age of a third of the period about three for each of its updates where headers lag
-- little, and six at most where they lag by no more than half the period
abbrev pub FewBesideTheLeast : Type 0
FewBesideTheLeast =
    (t : Terms) (turns : ℕ) (x : Turns) (stored other : ℕ → ℕ) (ahead lag : ℕ) → FollowsRule t turns x stored → IsWithinReach turns x stored
    → ((k : ℕ) → k + 1 < turns → x.until k ≤ x.until (k + 1)) → ((k : ℕ) → k < turns → x.reach k ≤ x.until k + ahead) → LagsBy lag turns x
    → IsKeptAlive t turns x other → other 0 ≡ stored 0
    → least_win t lag * refreshes t x stored turns ≤ (updates other turns + 1) * (t.period + ahead)

-- by what is in reach now: a refresh is needed from its moment on, and not before; never where there is none
pub record NextRefresh : Type 0 where
  pub before : (t : Terms) (stored reach until moment : ℕ) → refresh_moment t stored reach ≡ Some moment → until < moment → needed_time t stored reach until ≡ None
  pub from_then_on : (t : Terms) (stored reach until moment : ℕ) → refresh_moment t stored reach ≡ Some moment → moment ≤ until
      → is_some (needed_time t stored reach until) ≡ true
  pub never : (t : Terms) (stored reach until : ℕ) → refresh_moment t stored reach ≡ None → needed_time t stored reach until ≡ None

-- what a refresh needs is newer than the newest stored state, and in reach
abbrev pub RefreshIsInReach : Type 0
RefreshIsInReach =
    (t : Terms) (stored reach until : ℕ) → IfSome (needed_time t stored reach until) (λ time. (stored < time) × (time ≤ reach))
