-- Refreshes that aren't urgent are more than half the refresh age apart, and each update of another choice wins the period at most.
use Rattle.std.proofs.Common.{◌≡◌, ℕ, zero, suc, ◌+◌, ◌-◌, ◌*◌, ◌/◌, ◌<◌, ◌≤◌, ◌⊎◌, Bool, true, false, not, ◌&&◌, min, max, cond, inl, inr, refl, subst, arith}
use Rattle.std.specs.Prelude.{Option, Some, None, IfSome, is_some, count_by, nat_lt, nat_le}
use Rattle.std.specs.List.{range_with_len}
use Rattle.std.proofs.lemmas.Bool.{cases_Bool, and_parts, not-true, ltb-true, ltb-false, leb-true, false≢true}
use Rattle.std.proofs.lemmas.List.Sums.{sum_by-cons}
use Rattle.std.proofs.Math.Nat.{mul-suc, suc-mul, mul-le-mul_right}
use Rattle.rb_plan_types.specs.declared.terms.Terms.{Terms}
use Rattle.rb_plan_types.specs.Refresh.{urgent_gain, is_due, is_urgent, needed_time}
use Rattle.rb_plan_types.specs.Turns.{Turns, IsLive, FollowsRule, IsWithinReach, IsKeptAlive, LagsBy, is_refresh, refreshes, is_calm_refresh, calm_refreshes, least_win, updates}

-- a count over so many numbers from one on is the first's and that of the others
count_here : (p : ℕ → Bool) (from n : ℕ) → p from ≡ true → count_by p (range_with_len from (suc n)) ≡ suc (count_by p (range_with_len (from + 1) n))
count_here p from n here = rw (sum_by-cons (λ k. cond (p k) 1 0) from (range_with_len (from + 1) n), here) (omega arith)

count_there : (p : ℕ → Bool) (from n : ℕ) → p from ≡ false → count_by p (range_with_len from (suc n)) ≡ count_by p (range_with_len (from + 1) n)
count_there p from n none = rw (sum_by-cons (λ k. cond (p k) 1 0) from (range_with_len (from + 1) n), none) (omega arith)

count_more : (p : ℕ → Bool) (n from : ℕ) → count_by p (range_with_len from n) ≤ count_by p (range_with_len from (suc n))
count_more p zero from = omega arith
count_more p (suc n) from = go (cases_Bool (p from)) (count_more p n (from + 1))
  where
    go : (p from ≡ true) ⊎ (p from ≡ false) → count_by p (range_with_len (from + 1) n) ≤ count_by p (range_with_len (from + 1) (suc n))
        → count_by p (range_with_len from (suc n)) ≤ count_by p (range_with_len from (suc (suc n)))
    go (inl here) rest = rw (count_here p from n here, count_here p from (suc n) here) (omega (arith, rest))
    go (inr none) rest = rw (count_there p from n none, count_there p from (suc n) none) rest

-- values that rise by so much at each number that is counted
rises_by : (p : ℕ → Bool) (value : ℕ → ℕ) (each turns : ℕ)
    → ((k : ℕ) → k < turns → value k ≤ value (k + 1)) → ((k : ℕ) → k < turns → p k ≡ true → value k + each ≤ value (k + 1))
    → (n from : ℕ) → from + n ≤ turns → value from + each * count_by p (range_with_len from n) ≤ value (from + n)
rises_by p value each turns keeps gains zero from inside =
    let e : from ≡ from + zero = omega arith in
    subst (λ k. value from + each * 0 ≤ value k) e (omega arith)
rises_by p value each turns keeps gains (suc n) from inside =
    let e : from + 1 + n ≡ from + suc n = omega arith in
    subst (λ k. value from + each * count_by p (range_with_len from (suc n)) ≤ value k) e
    (go (cases_Bool (p from)) (rises_by p value each turns keeps gains n (from + 1) (omega (arith, inside))))
  where
    go : (p from ≡ true) ⊎ (p from ≡ false) → value (from + 1) + each * count_by p (range_with_len (from + 1) n) ≤ value (from + 1 + n)
        → value from + each * count_by p (range_with_len from (suc n)) ≤ value (from + 1 + n)
    go (inl here) rest =
        rw (count_here p from n here) (omega (arith, rest, mul-suc each (count_by p (range_with_len (from + 1) n)), gains from (omega (arith, inside)) here))
    go (inr none) rest = rw (count_there p from n none) (omega (arith, rest, keeps from (omega (arith, inside))))

-- values that rise by at most so much at each number that is counted, and at no other
rises_at_most : (p : ℕ → Bool) (value : ℕ → ℕ) (each turns : ℕ)
    → ((k : ℕ) → k < turns → p k ≡ true → value (k + 1) ≤ value k + each) → ((k : ℕ) → k < turns → p k ≡ false → value (k + 1) ≤ value k)
    → (n from : ℕ) → from + n ≤ turns → value (from + n) ≤ value from + count_by p (range_with_len from n) * each
rises_at_most p value each turns wins keeps zero from inside =
    let e : from ≡ from + zero = omega arith in
    subst (λ k. value k ≤ value from + 0 * each) e (omega arith)
rises_at_most p value each turns wins keeps (suc n) from inside =
    let e : from + 1 + n ≡ from + suc n = omega arith in
    subst (λ k. value k ≤ value from + count_by p (range_with_len from (suc n)) * each) e
    (go (cases_Bool (p from)) (rises_at_most p value each turns wins keeps n (from + 1) (omega (arith, inside))))
  where
    go : (p from ≡ true) ⊎ (p from ≡ false) → value (from + 1 + n) ≤ value (from + 1) + count_by p (range_with_len (from + 1) n) * each
        → value (from + 1 + n) ≤ value from + count_by p (range_with_len from (suc n)) * each
    go (inl here) rest =
        rw (count_here p from n here) (omega (arith, rest, suc-mul (count_by p (range_with_len (from + 1) n)) each, wins from (omega (arith, inside)) here))
    go (inr none) rest = rw (count_there p from n none) (omega (arith, rest, keeps from (omega (arith, inside)) none))

-- ---- the rule's refreshes

-- what a refresh needs that is due and not urgent
calm_needs : (t : Terms) (stored reach until : ℕ) → 0 < t.refresh → is_urgent t stored until ≡ false → is_due t stored reach until ≡ true
    → needed_time t stored reach until ≡ Some (max (min (stored + t.refresh) reach) (reach - t.refresh))
calm_needs t stored reach until some calm due = grind arith

record IsCalm (t : Terms) (x : Turns) (stored : ℕ → ℕ) (k : ℕ) : Type 0 where
  pub free : x.held k ≡ false
  pub live : IsLive t (stored k) (x.until k)
  pub calm : is_urgent t (stored k) (x.until k) ≡ false
  pub due : is_due t (stored k) (x.reach k) (x.until k) ≡ true

calm_parts : (t : Terms) (x : Turns) (stored : ℕ → ℕ) (k : ℕ) → is_calm_refresh t x stored k ≡ true → IsCalm t x stored k
calm_parts t x stored k h =
    let all = and_parts (not (x.held k) && nat_lt (x.until k) (stored k + t.period) && not (is_urgent t (stored k) (x.until k)))
    (is_due t (stored k) (x.reach k) (x.until k)) h in
    let calm = and_parts (not (x.held k) && nat_lt (x.until k) (stored k + t.period)) (not (is_urgent t (stored k) (x.until k))) all.0 in
    let live = and_parts (not (x.held k)) (nat_lt (x.until k) (stored k + t.period)) calm.0 in
    record {
      free = not-true (x.held k) live.0;
      live = ltb-true (x.until k) (stored k + t.period) live.1;
      calm = not-true (is_urgent t (stored k) (x.until k)) calm.1;
      due = all.1;
    }

-- what is due is old, and newer by more than half the refresh age
due_parts : (t : Terms) (stored reach until : ℕ) → is_due t stored reach until ≡ true → (stored + t.refresh ≤ until) × (stored + t.refresh / 2 < reach)
due_parts t stored reach until h =
    let parts = and_parts (nat_le (stored + t.refresh) until) (nat_lt (stored + t.refresh / 2) reach) h in
    (leb-true (stored + t.refresh) until parts.0, ltb-true (stored + t.refresh / 2) reach parts.1)

-- calm refreshes win so much each, if what is due does
module _ (t : Terms) (turns : ℕ) (x : Turns) (stored : ℕ → ℕ) (each : ℕ) (some : 0 < t.refresh) (rule : FollowsRule t turns x stored)
    (wins : (k : ℕ) → k < turns → is_due t (stored k) (x.reach k) (x.until k) ≡ true
    → stored k + each ≤ max (min (stored k + t.refresh) (x.reach k)) (x.reach k - t.refresh)) where
  calm_gains : (k : ℕ) → k < turns → is_calm_refresh t x stored k ≡ true → stored k + each ≤ stored (k + 1)
  calm_gains k inside h =
      let is = calm_parts t x stored k h in
      let comes : max (min (stored k + t.refresh) (x.reach k)) (x.reach k - t.refresh) ≤ stored (k + 1) =
      subst (λ r. IfSome r (λ time. time ≤ stored (k + 1))) (calm_needs t (stored k) (x.reach k) (x.until k) some is.calm is.due)
      (rule.refreshes k inside is.free is.live) in
      omega (arith, comes, wins k inside is.due)

  calm_wins : stored 0 + each * calm_refreshes t x stored turns ≤ stored turns
  calm_wins =
      let e : 0 + turns ≡ turns = omega arith in
      subst (λ k. stored 0 + each * calm_refreshes t x stored turns ≤ stored k) e
      (rises_by (is_calm_refresh t x stored) stored each turns rule.keeps calm_gains turns 0 (omega arith))

pub calm_seldom : (t : Terms) (turns : ℕ) (x : Turns) (stored : ℕ → ℕ) → 0 < t.refresh → FollowsRule t turns x stored
    → stored 0 + (t.refresh / 2 + 1) * calm_refreshes t x stored turns ≤ stored turns
calm_seldom t turns x stored some rule = calm_wins t turns x stored (t.refresh / 2 + 1) some rule wins
  where
    wins : (k : ℕ) → k < turns → is_due t (stored k) (x.reach k) (x.until k) ≡ true
        → stored k + (t.refresh / 2 + 1) ≤ max (min (stored k + t.refresh) (x.reach k)) (x.reach k - t.refresh)
    wins k inside due = omega (arith, some, (due_parts t (stored k) (x.reach k) (x.until k) due).1)

pub calm_seldom_with_lag : (t : Terms) (turns : ℕ) (x : Turns) (stored : ℕ → ℕ) (lag : ℕ) → 0 < t.refresh → FollowsRule t turns x stored
    → LagsBy lag turns x → stored 0 + (t.refresh - lag) * calm_refreshes t x stored turns ≤ stored turns
calm_seldom_with_lag t turns x stored lag some rule lags = calm_wins t turns x stored (t.refresh - lag) some rule wins
  where
    wins : (k : ℕ) → k < turns → is_due t (stored k) (x.reach k) (x.until k) ≡ true
        → stored k + (t.refresh - lag) ≤ max (min (stored k + t.refresh) (x.reach k)) (x.reach k - t.refresh)
    wins k inside due =
        let parts = due_parts t (stored k) (x.reach k) (x.until k) due in
        omega (arith, some, lags k inside, parts.0, parts.1)

-- what a refresh needs, urgent or not: newer by more than a hundredth of the refresh age, and where headers lag by no more than this by more
needs_gain : (t : Terms) (stored reach until : ℕ) → IfSome (needed_time t stored reach until) (λ time. stored + (urgent_gain t + 1) ≤ time)
needs_gain t stored reach until = grind arith

needs_more : (t : Terms) (stored reach until lag : ℕ) → until ≤ reach + lag → IfSome (needed_time t stored reach until) (λ time. stored + least_win t lag ≤ time)
needs_more t stored reach until lag lags = grind arith

is_needed : (o : Option ℕ) → is_some o ≡ true → (time : ℕ) × (o ≡ Some time)
is_needed None h = absurd (false≢true h)
is_needed (Some time) h = (time, refl)

record IsNeeded (t : Terms) (x : Turns) (stored : ℕ → ℕ) (k : ℕ) : Type 0 where
  pub free : x.held k ≡ false
  pub live : IsLive t (stored k) (x.until k)
  pub some : is_some (needed_time t (stored k) (x.reach k) (x.until k)) ≡ true

refresh_parts : (t : Terms) (x : Turns) (stored : ℕ → ℕ) (k : ℕ) → is_refresh t x stored k ≡ true → IsNeeded t x stored k
refresh_parts t x stored k h =
    let free = and_parts (not (x.held k) && nat_lt (x.until k) (stored k + t.period)) (is_some (needed_time t (stored k) (x.reach k) (x.until k))) h in
    let live = and_parts (not (x.held k)) (nat_lt (x.until k) (stored k + t.period)) free.0 in
    record { free = not-true (x.held k) live.0; live = ltb-true (x.until k) (stored k + t.period) live.1; some = free.1 }

-- refreshes win so much each, if what they need does
module _ (t : Terms) (turns : ℕ) (x : Turns) (stored : ℕ → ℕ) (each : ℕ) (rule : FollowsRule t turns x stored)
    (needs : (k : ℕ) → k < turns → IfSome (needed_time t (stored k) (x.reach k) (x.until k)) (λ time. stored k + each ≤ time)) where
  gains : (k : ℕ) → k < turns → is_refresh t x stored k ≡ true → stored k + each ≤ stored (k + 1)
  gains k inside h =
      let is = refresh_parts t x stored k h in
      let need = is_needed (needed_time t (stored k) (x.reach k) (x.until k)) is.some in
      let least : stored k + each ≤ need.0 = subst (λ r. IfSome r (λ time. stored k + each ≤ time)) need.1 (needs k inside) in
      let most : need.0 ≤ stored (k + 1) = subst (λ r. IfSome r (λ time. time ≤ stored (k + 1))) need.1 (rule.refreshes k inside is.free is.live) in
      omega (arith, least, most)

  wins : stored 0 + each * refreshes t x stored turns ≤ stored turns
  wins =
      let e : 0 + turns ≡ turns = omega arith in
      subst (λ k. stored 0 + each * refreshes t x stored turns ≤ stored k) e
      (rises_by (is_refresh t x stored) stored each turns rule.keeps gains turns 0 (omega arith))

pub always_seldom : (t : Terms) (turns : ℕ) (x : Turns) (stored : ℕ → ℕ) → FollowsRule t turns x stored
    → stored 0 + (urgent_gain t + 1) * refreshes t x stored turns ≤ stored turns
always_seldom t turns x stored rule = wins t turns x stored (urgent_gain t + 1) rule (λ k _. needs_gain t (stored k) (x.reach k) (x.until k))

pub seldom : (t : Terms) (turns : ℕ) (x : Turns) (stored : ℕ → ℕ) (lag : ℕ) → FollowsRule t turns x stored → LagsBy lag turns x
    → stored 0 + least_win t lag * refreshes t x stored turns ≤ stored turns
seldom t turns x stored lag rule lags =
    wins t turns x stored (least_win t lag) rule (λ k inside. needs_more t (stored k) (x.reach k) (x.until k) lag (lags k inside))

-- ---- beside another choice

-- the rule's newest state is no later than headers are
no_later : (turns : ℕ) (x : Turns) (stored : ℕ → ℕ) (ahead : ℕ) → IsWithinReach turns x stored
    → ((k : ℕ) → k + 1 < turns → x.until k ≤ x.until (k + 1)) → ((k : ℕ) → k < turns → x.reach k ≤ x.until k + ahead)
    → (k : ℕ) → k < turns → stored (k + 1) ≤ max (stored 0) (x.until k + ahead)
no_later turns x stored ahead within rise known zero inside =
    let e : zero + 1 ≡ 1 = omega arith in
    omega (arith, within zero inside, known zero inside)
no_later turns x stored ahead within rise known (suc k) inside =
    let e : k + 1 ≡ suc k = omega arith in
    let before = no_later turns x stored ahead within rise known k (omega (arith, inside)) in
    let here : stored (suc k) ≤ max (stored 0) (x.until k + ahead) = subst (λ j. stored j ≤ max (stored 0) (x.until k + ahead)) e before in
    let later : x.until k ≤ x.until (suc k) = subst (λ j. x.until k ≤ x.until j) e (rise k (omega (arith, inside))) in
    omega (arith, within (suc k) inside, known (suc k) inside, here, later)

module _ (t : Terms) (turns : ℕ) (x : Turns) (other : ℕ → ℕ) (ahead : ℕ)
    (known : (k : ℕ) → k < turns → x.reach k ≤ x.until k + ahead) (is : IsKeptAlive t turns x other) where
  -- another choice's newest state is no later than its updates can bring it
  pub wins_at_most : (n : ℕ) → n ≤ turns → other n ≤ other 0 + updates other n * (t.period + ahead)
  wins_at_most n inside =
      let e : 0 + n ≡ n = omega arith in
      subst (λ k. other k ≤ other 0 + updates other n * (t.period + ahead)) e
      (rises_at_most (λ k. nat_lt (other k) (other (k + 1))) other (t.period + ahead) turns wins keeps n 0 (omega (arith, inside)))
    where
      wins : (k : ℕ) → k < turns → nat_lt (other k) (other (k + 1)) ≡ true → other (k + 1) ≤ other k + (t.period + ahead)
      wins k inside h = omega (arith, is.within k inside, is.live k inside, known k inside)

      keeps : (k : ℕ) → k < turns → nat_lt (other k) (other (k + 1)) ≡ false → other (k + 1) ≤ other k
      keeps k inside h = ltb-false (other k) (other (k + 1)) h

pub few : (t : Terms) (turns : ℕ) (x : Turns) (stored other : ℕ → ℕ) (ahead lag : ℕ) → FollowsRule t turns x stored → IsWithinReach turns x stored
    → ((k : ℕ) → k + 1 < turns → x.until k ≤ x.until (k + 1)) → ((k : ℕ) → k < turns → x.reach k ≤ x.until k + ahead) → LagsBy lag turns x
    → IsKeptAlive t turns x other → other 0 ≡ stored 0
    → least_win t lag * refreshes t x stored turns ≤ (updates other turns + 1) * (t.period + ahead)
few t zero x stored other ahead lag rule within rise known lags is same = omega arith
few t (suc p) x stored other ahead lag rule within rise known lags is same =
    let e : p + 1 ≡ suc p = omega arith in
    let inside : p < suc p = omega arith in
    let end : stored (suc p) ≤ max (stored 0) (x.until p + ahead) =
    subst (λ j. stored j ≤ max (stored 0) (x.until p + ahead)) e (no_later (suc p) x stored ahead within rise known p inside) in
    let q : (updates other (suc p) + 1) * (t.period + ahead) ≡ updates other (suc p) * (t.period + ahead) + (t.period + ahead) =
    subst (λ m. m * (t.period + ahead) ≡ updates other (suc p) * (t.period + ahead) + (t.period + ahead)) (omega arith) (suc-mul (updates other (suc p)) (t.period + ahead)) in
    ends (least_win t lag * refreshes t x stored (suc p)) (updates other p * (t.period + ahead)) (updates other (suc p) * (t.period + ahead))
    (stored 0) (stored (suc p)) (x.until p) (other 0) (other p) (t.period) ahead ((updates other (suc p) + 1) * (t.period + ahead))
    (seldom t (suc p) x stored lag rule lags) end q (wins_at_most t (suc p) x other ahead known is p (omega arith)) (is.live p inside) same
    (mul-le-mul_right (t.period + ahead) (count_more (λ k. nat_lt (other k) (other (k + 1))) p 0))
  where
    ends : (gained won wins first last until start newest period ahead all : ℕ) → first + gained ≤ last → last ≤ max first (until + ahead)
        → all ≡ wins + (period + ahead) → newest ≤ start + won → until < newest + period → start ≡ first → won ≤ wins → gained ≤ all
    ends gained won wins first last until start newest period ahead all a b c d e f g = omega arith
