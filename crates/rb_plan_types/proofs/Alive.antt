-- The rule keeps a client live up to the next turn where its reach would, so it keeps it live in all turns.
use Rattle.std.proofs.Common.{◌≡◌, ℕ, zero, suc, ◌+◌, ◌<◌, ◌≤◌, ◌⊎◌, inl, inr, subst, arith}
use Rattle.std.specs.Prelude.{Some, IfSome}
use Rattle.std.proofs.lemmas.Bool.{cases_lt}
use Rattle.rb_plan_types.specs.declared.terms.Terms.{Terms}
use Rattle.rb_plan_types.specs.Refresh.{urgent_age, urgent_gain, needed_time}
use Rattle.rb_plan_types.specs.Turns.{Turns, IsLive, FollowsRule, WouldExpire, CanBeKept}

-- of an old state, one in reach is needed that is newer by so much
old_needs : (t : Terms) (stored reach until : ℕ) → 0 < t.refresh → stored + urgent_age t ≤ until → stored + urgent_gain t < reach → needed_time t stored reach until ≡ Some reach
old_needs t stored reach until some old newer = grind arith

module _ (t : Terms) (turns : ℕ) (x : Turns) (stored : ℕ → ℕ) (some : 0 < t.refresh) (rule : FollowsRule t turns x stored)
    (first : IsLive t (stored 0) (x.until 0)) (kept : (k : ℕ) → k + 1 < turns → WouldExpire t x stored k → CanBeKept t x k) where
  step : (k : ℕ) → k + 1 < turns → IsLive t (stored k) (x.until k) → IsLive t (stored (k + 1)) (x.until (k + 1))
  step k inside live = go (cases_lt (x.until (k + 1)) (stored k + t.period))
    where
      keeps : stored k ≤ stored (k + 1)
      keeps = rule.keeps k (omega (arith, inside))

      reaches : CanBeKept t x k → stored k + t.period ≤ x.until (k + 1) → stored k + urgent_gain t < x.reach k → x.reach k ≤ stored (k + 1)
      reaches can ends newer =
          let old : stored k + urgent_age t ≤ x.until k = omega (arith, can.near, ends) in
          subst (λ r. IfSome r (λ time. time ≤ stored (k + 1))) (old_needs t (stored k) (x.reach k) (x.until k) some old newer)
          (rule.refreshes k (omega (arith, inside)) can.free live)

      ends_case : CanBeKept t x k → stored k + t.period ≤ x.until (k + 1) → (stored k + urgent_gain t < x.reach k) ⊎ (x.reach k ≤ stored k + urgent_gain t)
          → IsLive t (stored (k + 1)) (x.until (k + 1))
      ends_case can ends (inl newer) = omega (arith, can.live, reaches can ends newer)
      ends_case can ends (inr none) = omega (arith, can.live, none, keeps)

      go : (x.until (k + 1) < stored k + t.period) ⊎ (stored k + t.period ≤ x.until (k + 1)) → IsLive t (stored (k + 1)) (x.until (k + 1))
      go (inl lives) = omega (arith, lives, keeps)
      go (inr ends) = ends_case (kept k inside ends) ends (cases_lt (stored k + urgent_gain t) (x.reach k))

  pub stays_live : (k : ℕ) → k < turns → IsLive t (stored k) (x.until k)
  stays_live zero inside = first
  stays_live (suc k) inside =
      let e : k + 1 ≡ suc k = omega arith in
      subst (λ j. IsLive t (stored j) (x.until j)) e (step k (omega (arith, inside)) (stays_live k (omega (arith, inside))))
