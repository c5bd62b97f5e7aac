-- A client with other fees: which lists it accepts, and what they cost.
use Rattle.std.proofs.Common.{◌≡◌, ℕ, ◌+◌, ◌*◌, ◌<◌, ◌≤◌, ◌⊎◌, List, [], ◌∷◌, length, Option, Some, None, IsSomeAnd, sum_by, ap, sym, subst, ◌∙◌, refl, inl, inr, arith}
use Rattle.std.specs.Option.{option_map_or}
use Rattle.std.proofs.lemmas.Bool.{cases_lt}
use Rattle.std.proofs.Math.Nat.{mul-add, mul-le-mul_left}
use Rattle.std.proofs.lemmas.List.Sums.{sum_by-cons}
use Rattle.rb_base.specs.Fee.{Fees}
use Rattle.rb_script_types.specs.declared.goal.Goal.{Goal}
use Rattle.rb_base.specs.Options.{ClientOptions}
use Rattle.rb_step.specs.Carried.{carried_votes}
use Rattle.rb_step.specs.Fee.{fee_of, fee_at, size_of}
use Rattle.rb_step.specs.KnownStep.{step_at}
use Rattle.rb_step.specs.LightClient.{Update, Client, Runs, IsAcceptable, IsStoredAfter, total_fee}
use Rattle.rb_step.specs.StepRule.{Step}
use Rattle.rb_step.specs.View.{View, client_of}
use Rattle.rb_plan_types.specs.Goal.{Meets}
use Rattle.rb_plan_types.specs.Least.{IsLeast, IsUnreachable}
use Rattle.rb_explain_plan.specs.Fewest.{IsFewest, IsCheapestOfFewest}

-- the client's view with these fees
abbrev pub with_fees : View → Fees → View
with_fees v f = record v { fees = f }

module _ (v : View) (f g : Fees) where
  runs_same : (stored : List ℕ) (us : List Update) → Runs (client_of (with_fees v f)) stored us → Runs (client_of (with_fees v g)) stored us
  unfolding client_of
  runs_same stored [] h = tt
  runs_same stored (u ∷ us) h = (h.0, h.1, runs_same (u.height ∷ stored) us h.2)

  pub acceptable_same : (us : List Update) → IsAcceptable (client_of (with_fees v f)) us → IsAcceptable (client_of (with_fees v g)) us
  unfolding client_of
  acceptable_same us h = runs_same v.stored us h

  stored_same : (us : List Update) (h : ℕ) → IsStoredAfter (client_of (with_fees v f)) us h → IsStoredAfter (client_of (with_fees v g)) us h
  unfolding client_of
  stored_same [] h is = is
  stored_same (u ∷ us) h (inl e) = inl e
  stored_same (u ∷ us) h (inr is) = inr (stored_same us h is)

  pub meets_same : (goal : Goal) (us : List Update) → Meets (client_of (with_fees v f)) goal us → Meets (client_of (with_fees v g)) goal us
  unfolding client_of
  meets_same goal us (h, leaves, wants) = (h, (stored_same us h leaves.0, leaves.1), wants)

-- ---- where every update is free

abbrev pub free : Fees
free = record { base = 0; signature = 0; validator = 0 }

free_charge : (votes validators : ℕ) → 0 + 0 * votes + 0 * validators ≡ 0
free_charge votes validators = omega arith

free_step : (c : ClientOptions) (o : Option Step) → option_map_or (fee_of c free) o 0 ≡ 0
free_step c None = refl
free_step c (Some s) = free_charge (carried_votes c s.trusted_height s.next s.header s.own) (length s.own + size_of s.next)

pub free_total : (v : View) (us : List Update) → total_fee (client_of (with_fees v free)) us ≡ 0
unfolding client_of
free_total v [] = refl
free_total v (u ∷ us) =
    let fee : Update → ℕ = λ w. fee_at v.options free v.book w.trusted w.height in
    let one : fee u ≡ 0 = free_step v.options (step_at v.book u.trusted u.height) in
    let rest : sum_by fee us ≡ 0 = free_total v us in
    let whole : fee u + sum_by fee us ≡ 0 = omega arith in
    sum_by-cons fee u us ∙ whole

pub fewest_by_free : (v : View) (f : Fees) (goal : Goal) (us : List Update) → IsLeast (client_of (with_fees v free)) goal us → IsFewest (client_of (with_fees v f)) goal us
fewest_by_free v f goal us is = record {
  acceptable = acceptable_same v free f us is.acceptable;
  meets = meets_same v free f goal us is.meets;
  fewest = λ vs acceptable meets. go vs (acceptable_same v f free vs acceptable) (meets_same v f free goal vs meets) (cases_lt (length vs) (length us));
}
  where
    go : (vs : List Update) → IsAcceptable (client_of (with_fees v free)) vs → Meets (client_of (with_fees v free)) goal vs → (length vs < length us) ⊎ (length us ≤ length vs) → length us ≤ length vs
    go vs acceptable meets (inr le) = le
    go vs acceptable meets (inl lt) = absurd (is.least vs acceptable meets (inl (inr (free_total v vs ∙ sym (free_total v us), lt))))

pub unreachable_by : (v : View) (f g : Fees) (goal : Goal) → IsUnreachable (client_of (with_fees v f)) goal → IsUnreachable (client_of (with_fees v g)) goal
unreachable_by v f g goal is = λ us acceptable meets. is us (acceptable_same v g f us acceptable) (meets_same v g f goal us meets)

-- ---- where every update costs so much more

abbrev pub more_by : Fees → ℕ → Fees
more_by f k = record f { base = f.base + k }

shifted_charge : (base k votes validators : ℕ) → base + k + votes + validators ≡ base + votes + validators + k
shifted_charge base k votes validators = omega arith

shifted_step : (c : ClientOptions) (f : Fees) (k : ℕ) (o : Option Step) (P : Step → Type 0) → IsSomeAnd o P → option_map_or (fee_of c (more_by f k)) o 0 ≡ option_map_or (fee_of c f) o 0 + k
shifted_step c f k None P is = absurd is
shifted_step c f k (Some s) P is = shifted_charge f.base k (f.signature * carried_votes c s.trusted_height s.next s.header s.own) (f.validator * (length s.own + size_of s.next))

times_more : (k n : ℕ) → k * (n + 1) ≡ k * n + k
times_more k n = let apart : k * (n + 1) ≡ k * n + k * 1 = mul-add k n 1 in omega arith

no_more : (k : ℕ) → 0 ≡ 0 + k * 0
no_more k = omega arith

shifted_runs : (v : View) (k : ℕ) (stored : List ℕ) (us : List Update) → Runs (client_of v) stored us
    → total_fee (client_of (with_fees v (more_by v.fees k))) us ≡ total_fee (client_of v) us + k * length us
unfolding client_of
shifted_runs v k stored [] h = no_more k
shifted_runs v k stored (u ∷ us) h =
    let fee : Update → ℕ = λ w. fee_at v.options v.fees v.book w.trusted w.height in
    let more : Update → ℕ = λ w. fee_at v.options (more_by v.fees k) v.book w.trusted w.height in
    let one : more u ≡ fee u + k = shifted_step v.options v.fees k (step_at v.book u.trusted u.height) _ h.1 in
    let rest : sum_by more us ≡ sum_by fee us + k * length us = shifted_runs v k (u.height ∷ stored) us h.2 in
    let long : length (u ∷ us) ≡ length us + 1 = omega arith in
    let count : k * length (u ∷ us) ≡ k * length us + k = ap (λ n. k * n) long ∙ times_more k (length us) in
    let fees : sum_by fee (u ∷ us) ≡ fee u + sum_by fee us = sum_by-cons fee u us in
    let mores : sum_by more (u ∷ us) ≡ more u + sum_by more us = sum_by-cons more u us in
    let whole : sum_by more (u ∷ us) ≡ sum_by fee (u ∷ us) + k * length (u ∷ us) = omega arith in
    whole

pub shifted_total : (v : View) (k : ℕ) (us : List Update) → IsAcceptable (client_of v) us
    → total_fee (client_of (with_fees v (more_by v.fees k))) us ≡ total_fee (client_of v) us + k * length us
unfolding client_of
shifted_total v k us h = shifted_runs v k v.stored us h

-- a list costs at most so much, where one update costs at most a part of that
total_at_most : (c : Client) (most : ℕ) → ((t h : ℕ) → c.fee t h ≤ most) → (us : List Update) → total_fee c us ≤ most * length us
total_at_most c most small [] = omega arith
total_at_most c most small (u ∷ us) =
    let fee : Update → ℕ = λ w. c.fee w.trusted w.height in
    let one : fee u ≤ most = small u.trusted u.height in
    let rest : sum_by fee us ≤ most * length us = total_at_most c most small us in
    let long : length (u ∷ us) ≡ length us + 1 = omega arith in
    let count : most * length (u ∷ us) ≡ most * length us + most = ap (λ n. most * n) long ∙ times_more most (length us) in
    let fees : sum_by fee (u ∷ us) ≡ fee u + sum_by fee us = sum_by-cons fee u us in
    let whole : sum_by fee (u ∷ us) ≤ most * length (u ∷ us) = omega arith in
    whole

-- the least list there costs no more than another one
shifted_least : (v : View) (f : Fees) (goal : Goal) (us vs : List Update) → IsLeast (client_of (with_fees v f)) goal us → IsAcceptable (client_of v) vs → Meets (client_of v) goal vs
    → total_fee (client_of (with_fees v f)) us ≤ total_fee (client_of (with_fees v f)) vs
shifted_least v f goal us vs is acceptable meets = go (cases_lt (total_fee (client_of (with_fees v f)) vs) (total_fee (client_of (with_fees v f)) us))
  where
    go : (total_fee (client_of (with_fees v f)) vs < total_fee (client_of (with_fees v f)) us) ⊎ (total_fee (client_of (with_fees v f)) us ≤ total_fee (client_of (with_fees v f)) vs)
        → total_fee (client_of (with_fees v f)) us ≤ total_fee (client_of (with_fees v f)) vs
    go (inr le) = le
    go (inl lt) = absurd (is.least vs (acceptable_same v v.fees f vs acceptable) (meets_same v v.fees f goal vs meets) (inl (inl lt)))

times_le : (k m n : ℕ) → m + 1 ≤ n → k * m + k ≤ k * n
times_le k m n le = let more = times_more k m in let up : k * (m + 1) ≤ k * n = mul-le-mul_left k le in omega arith

-- a list with the fewest updates, and the cheapest of these
pub record IsCheapFewest (v : View) (goal : Goal) (us : List Update) : Type 0 where
  pub fewest : IsFewest (client_of v) goal us
  pub cheapest : IsCheapestOfFewest (client_of v) goal us

-- the least list where each update costs so much more
module _ (v : View) (goal : Goal) (k : ℕ) (us : List Update) (least : IsLeast (client_of (with_fees v (more_by v.fees k))) goal us) where
  own : IsAcceptable (client_of v) us
  own = acceptable_same v (more_by v.fees k) v.fees us least.acceptable

  meets : Meets (client_of v) goal us
  meets = meets_same v (more_by v.fees k) v.fees goal us least.meets

  -- it is no longer than a list that costs less than that in all
  as_few : (vs : List Update) → IsAcceptable (client_of v) vs → Meets (client_of v) goal vs → total_fee (client_of v) vs < k → length us ≤ length vs
  as_few vs acceptable met small = go (cases_lt (length vs) (length us))
    where
      go : (length vs < length us) ⊎ (length us ≤ length vs) → length us ≤ length vs
      go (inr le) = le
      go (inl lt) =
          let at_most = shifted_least v (more_by v.fees k) goal us vs least acceptable met in
          let of_us = shifted_total v k us own in
          let of_vs = shifted_total v k vs acceptable in
          let apart = times_le k (length vs) (length us) (omega arith) in
          absurd (omega (arith, at_most, of_us, of_vs, apart))

  -- and where it has the fewest updates, it is the cheapest of these
  cheapest_of : IsFewest (client_of v) goal us → IsCheapFewest v goal us
  cheapest_of fewest = record {
    fewest = fewest;
    cheapest = λ vs acceptable met le.
        let none = fewest.fewest vs acceptable met in
        let same : length vs ≡ length us = omega arith in
        let at_most = shifted_least v (more_by v.fees k) goal us vs least acceptable met in
        let of_us = shifted_total v k us own in
        let of_vs = shifted_total v k vs acceptable in
        let times : k * length vs ≡ k * length us = ap (λ n. k * n) same in
        omega (arith, at_most, of_us, of_vs, times);
  }

-- where that is more than the whole of some list with the fewest
past_few : (v : View) (goal : Goal) (few us : List Update) → IsFewest (client_of v) goal few → IsLeast (client_of (with_fees v (more_by v.fees (total_fee (client_of v) few + 1)))) goal us → IsCheapFewest v goal us
past_few v goal few us fewest least =
    let k = total_fee (client_of v) few + 1 in
    let here = as_few v goal k us least few fewest.acceptable fewest.meets (omega arith) in
    cheapest_of v goal k us least (record {
      acceptable = own v goal k us least;
      meets = meets v goal k us least;
      fewest = λ vs acceptable met. let none = fewest.fewest vs acceptable met in omega arith;
    })

pub by_few : (v : View) (goal : Goal) (few us : List Update) (more : ℕ) (given fees : Fees) → given ≡ v.fees → fees ≡ more_by given more → more ≡ total_fee (client_of v) few + 1
    → IsFewest (client_of v) goal few → IsLeast (client_of (with_fees v fees)) goal us → IsCheapFewest v goal us
by_few v goal few us more given fees given_is fees_are more_is fewest least =
    past_few v goal few us fewest
    (subst (λ (n : ℕ). IsLeast (client_of (with_fees v (more_by v.fees n))) goal us) more_is
    (subst (λ (f : Fees). IsLeast (client_of (with_fees v (more_by f more))) goal us) given_is
    (subst (λ (f : Fees). IsLeast (client_of (with_fees v f)) goal us) fees_are least)))

-- where that is more than any list that is no longer than some list that meets the goal
past_any : (v : View) (goal : Goal) (some us : List Update) (most : ℕ) → ((t h : ℕ) → (client_of v).fee t h ≤ most) → IsAcceptable (client_of v) some → Meets (client_of v) goal some
    → IsLeast (client_of (with_fees v (more_by v.fees (most * length some + 1)))) goal us → IsCheapFewest v goal us
past_any v goal some us most small acceptable met least =
    let k = most * length some + 1 in
    let whole = total_at_most (client_of v) most small some in
    let here = as_few v goal k us least some acceptable met (omega arith) in
    cheapest_of v goal k us least (record {
      acceptable = own v goal k us least;
      meets = meets v goal k us least;
      fewest = λ vs other other_met. go vs other other_met here (cases_lt (length some) (length vs));
    })
  where
    go : (vs : List Update) → IsAcceptable (client_of v) vs → Meets (client_of v) goal vs → length us ≤ length some → (length some < length vs) ⊎ (length vs ≤ length some) → length us ≤ length vs
    go vs other other_met here (inl lt) = omega arith
    go vs other other_met here (inr le) =
        let whole = total_at_most (client_of v) most small vs in
        let up : most * length vs ≤ most * length some = mul-le-mul_left most le in
        as_few v goal (most * length some + 1) us least vs other other_met (omega arith)

pub by_bound : (v : View) (goal : Goal) (some us : List Update) (most more : ℕ) (given fees : Fees) → given ≡ v.fees → fees ≡ more_by given more → more ≡ most * length some + 1
    → ((t h : ℕ) → (client_of v).fee t h ≤ most) → IsLeast (client_of v) goal some → IsLeast (client_of (with_fees v fees)) goal us → IsCheapFewest v goal us
by_bound v goal some us most more given fees given_is fees_are more_is small known least =
    past_any v goal some us most small known.acceptable known.meets
    (subst (λ (n : ℕ). IsLeast (client_of (with_fees v (more_by v.fees n))) goal us) more_is
    (subst (λ (f : Fees). IsLeast (client_of (with_fees v (more_by f more))) goal us) given_is
    (subst (λ (f : Fees). IsLeast (client_of (with_fees v f)) goal us) fees_are least)))

-- ---- a least list of at most one update

no_updates_before : (c : Client) (goal : Goal) (us : List Update) → IsLeast c goal us → length us ≡ 1 → IsAcceptable c [] → Meets c goal [] → ⊥
no_updates_before c goal us is one acceptable met = is.least [] acceptable met (inl (go (cases_lt 0 (total_fee c us))))
  where
    go : (0 < total_fee c us) ⊎ (total_fee c us ≤ 0) → (0 < total_fee c us) ⊎ ((0 ≡ total_fee c us) × (0 < length us))
    go (inl lt) = inl lt
    go (inr le) = inr (omega arith, omega arith)

itself_fewest : (c : Client) (goal : Goal) (us : List Update) → IsLeast c goal us → length us ≤ 1 → (vs : List Update) → IsAcceptable c vs → Meets c goal vs → length us ≤ length vs
itself_fewest c goal us is few (v ∷ vs) acceptable met = omega arith
itself_fewest c goal us is few [] acceptable met = go (cases_lt 0 (length us))
  where
    go : (0 < length us) ⊎ (length us ≤ 0) → length us ≤ 0
    go (inr le) = le
    go (inl lt) = absurd (no_updates_before c goal us is (omega arith) acceptable met)

pub least_is_cheapest : (c : Client) (goal : Goal) (us : List Update) → IsLeast c goal us → IsCheapestOfFewest c goal us
least_is_cheapest c goal us is = λ vs acceptable met _. go vs acceptable met (cases_lt (total_fee c vs) (total_fee c us))
  where
    go : (vs : List Update) → IsAcceptable c vs → Meets c goal vs → (total_fee c vs < total_fee c us) ⊎ (total_fee c us ≤ total_fee c vs) → total_fee c us ≤ total_fee c vs
    go vs acceptable met (inr le) = le
    go vs acceptable met (inl lt) = absurd (is.least vs acceptable met (inl (inl lt)))

-- ---- a least list that costs as much as any with fewer updates

pub by_fee : (v : View) (goal : Goal) (us : List Update) (most : ℕ) → ((t h : ℕ) → (client_of v).fee t h ≤ most) → most * length us ≤ total_fee (client_of v) us + most
    → IsLeast (client_of v) goal us → IsFewest (client_of v) goal us
by_fee v goal us most small dear is = record {
  acceptable = is.acceptable;
  meets = is.meets;
  fewest = λ vs acceptable met. go vs acceptable met (cases_lt (length vs) (length us));
}
  where
    before : (vs : List Update) → length vs < length us → total_fee (client_of v) vs ≤ total_fee (client_of v) us
        → (total_fee (client_of v) vs < total_fee (client_of v) us) ⊎ (total_fee (client_of v) us ≤ total_fee (client_of v) vs)
        → (total_fee (client_of v) vs < total_fee (client_of v) us) ⊎ ((total_fee (client_of v) vs ≡ total_fee (client_of v) us) × (length vs < length us))
    before vs lt le (inl less) = inl less
    before vs lt le (inr more) = inr (omega arith, lt)

    go : (vs : List Update) → IsAcceptable (client_of v) vs → Meets (client_of v) goal vs → (length vs < length us) ⊎ (length us ≤ length vs) → length us ≤ length vs
    go vs acceptable met (inr le) = le
    go vs acceptable met (inl lt) =
        let whole = total_at_most (client_of v) most small vs in
        let apart = times_le most (length vs) (length us) (omega arith) in
        absurd (is.least vs acceptable met (inl (before vs lt (omega (arith, whole, apart, dear)) (cases_lt (total_fee (client_of v) vs) (total_fee (client_of v) us)))))

pub itself : (v : View) (goal : Goal) (us : List Update) → IsLeast (client_of v) goal us → length us ≤ 1 → IsCheapFewest v goal us
itself v goal us is few = record {
  fewest = record { acceptable = is.acceptable; meets = is.meets; fewest = itself_fewest (client_of v) goal us is few };
  cheapest = least_is_cheapest (client_of v) goal us is;
}

-- what some list meets can be reached
pub can_be_met : (v : View) (goal : Goal) (us : List Update) → IsLeast (client_of v) goal us → IsUnreachable (client_of v) goal → ⊥
can_be_met v goal us is none = none us is.acceptable is.meets
