-- Lists of updates from the last one back, which is how the order reads them and how proofs go through them.
use Rattle.std.proofs.Common.{◌≡◌, ℕ, ◌⊎◌, List, [], ◌∷◌, reverse, inl, inr, sym, refl, subst, arith, zero, suc}
use Rattle.std.specs.List.{Contains}
use Rattle.std.proofs.lemmas.List.{reverse-reverse, length-reverse}
use Rattle.std.proofs.lemmas.List.Sorted.{IsPermutation-reverse, sum_by-IsPermutation}
use Rattle.rb_step.specs.LightClient.{Update, Client, Runs, IsAcceptable, IsStoredAfter, Leaves, IsOrderly}
use Rattle.rb_plan_types.specs.Order.{cost_of}
use Rattle.rb_plan_types.proofs.Costs.{same_cost}

-- the updates of the first list, one after the other, in front of the second
abbrev pub onto : List Update → List Update → List Update
onto [] later = later
onto (u ∷ us) later = onto us (u ∷ later)

pub onto-reverse : (us : List Update) → reverse us ≡ onto us []
onto-reverse us = go us []
  where
    go : (us vs : List Update) → mathlib.Core.List.reverse_aux us vs ≡ onto us vs
    go [] vs = refl
    go (u ∷ us) vs = go us (u ∷ vs)

pub Contains-cons_cases : {X : Type 0} (x : X) (xs : List X) (y : X) → Contains (x ∷ xs) y → (x ≡ y) ⊎ Contains xs y
Contains-cons_cases x xs y (zero, l, e) = inl e
Contains-cons_cases x xs y (suc k, l, e) = inr (k, omega arith, e)

pub Contains-cons_first : {X : Type 0} (x : X) (xs : List X) (y : X) → x ≡ y → Contains (x ∷ xs) y
Contains-cons_first x xs y e = (zero, omega arith, e)

pub Contains-cons_rest : {X : Type 0} (x : X) (xs : List X) (y : X) → Contains xs y → Contains (x ∷ xs) y
Contains-cons_rest x xs y (k, l, e) = (suc k, omega arith, e)

module _ (client : Client) where
  -- each update trusts what the earlier ones, which stand behind it, leave stored, and its step is accepted
  abbrev pub RunsBack : List Update → Type 0
  RunsBack [] = Unit {0}
  RunsBack (u ∷ earlier) = IsStoredAfter client earlier u.trusted × client.Accepts u.trusted u.height × RunsBack earlier

  -- an acceptable list, read from the last update back, that leaves the height stored and live
  pub record IsRoute (h : ℕ) (r : List Update) : Type 0 where
    pub runs : RunsBack r
    pub stored : IsStoredAfter client r h
    pub live : client.IsLive h

  abbrev stored_back : List Update → List ℕ
  stored_back [] = client.stored
  stored_back (u ∷ earlier) = u.height ∷ stored_back earlier

  stored_from_contains : (r : List Update) (h : ℕ) → Contains (stored_back r) h → IsStoredAfter client r h
  stored_from_contains [] h p = p
  stored_from_contains (u ∷ r) h p = go (Contains-cons_cases _ _ h p) (stored_from_contains r h)
    where
      go : (u.height ≡ h) ⊎ Contains (stored_back r) h → (Contains (stored_back r) h → IsStoredAfter client r h) → IsStoredAfter client (u ∷ r) h
      go (inl e) f = inl e
      go (inr q) f = inr (f q)

  contains_from_stored : (r : List Update) (h : ℕ) → IsStoredAfter client r h → Contains (stored_back r) h
  contains_from_stored [] h p = p
  contains_from_stored (u ∷ r) h (inl e) = Contains-cons_first _ _ h e
  contains_from_stored (u ∷ r) h (inr p) = Contains-cons_rest _ _ h (contains_from_stored r h p)

  back_from_runs : (us r : List Update) → RunsBack r → Runs client (stored_back r) us → RunsBack (onto us r)
  back_from_runs [] r a p = a
  back_from_runs (u ∷ us) r a p = back_from_runs us (u ∷ r) (stored_from_contains r u.trusted p.0, p.1, a) p.2

  back_rest : (us r : List Update) → RunsBack (onto us r) → RunsBack r
  back_rest [] r a = a
  back_rest (u ∷ us) r a = (back_rest us (u ∷ r) a).2

  runs_from_back : (us r : List Update) → RunsBack (onto us r) → Runs client (stored_back r) us
  runs_from_back [] r a = tt
  runs_from_back (u ∷ us) r a =
      let now : RunsBack (u ∷ r) = back_rest us (u ∷ r) a in
      (contains_from_stored r u.trusted now.0, now.1, runs_from_back us (u ∷ r) a)

  pub back_from_acceptable : (us : List Update) → IsAcceptable client us → RunsBack (reverse us)
  back_from_acceptable us p = subst RunsBack (sym (onto-reverse us)) (back_from_runs us [] tt p)

  pub acceptable_from_back : (us : List Update) → RunsBack (reverse us) → IsAcceptable client us
  acceptable_from_back us p = runs_from_back us [] (subst RunsBack (onto-reverse us) p)

  -- what was stored at the start is stored after any updates
  pub stored_at_start : (r : List Update) (h : ℕ) → Contains client.stored h → IsStoredAfter client r h
  stored_at_start [] h p = p
  stored_at_start (u ∷ r) h p = inr (stored_at_start r h p)

  stored_onto_rest : (us r : List Update) (h : ℕ) → IsStoredAfter client r h → IsStoredAfter client (onto us r) h
  stored_onto_rest [] r h p = p
  stored_onto_rest (u ∷ us) r h p = stored_onto_rest us (u ∷ r) h (inr p)

  stored_onto : (us r : List Update) (h : ℕ) → IsStoredAfter client us h → IsStoredAfter client (onto us r) h
  stored_onto [] r h p = stored_at_start r h p
  stored_onto (u ∷ us) r h (inl e) = stored_onto_rest us (u ∷ r) h (inl e)
  stored_onto (u ∷ us) r h (inr p) = stored_onto us (u ∷ r) h p

  pub stored_reverse : (us : List Update) (h : ℕ) → IsStoredAfter client us h → IsStoredAfter client (reverse us) h
  stored_reverse us h p = subst (λ r. IsStoredAfter client r h) (sym (onto-reverse us)) (stored_onto us [] h p)

  pub cost_of-reverse : (us : List Update) → cost_of client (reverse us) ≡ cost_of client us
  cost_of-reverse us =
      let fees : Update → ℕ = λ u. client.fee u.trusted u.height in
      same_cost (cost_of client (reverse us)) (cost_of client us) (sum_by-IsPermutation fees us (reverse us) (IsPermutation-reverse us)) (length-reverse us)

  -- an acceptable list that leaves the height stored and live, read back, and the other way round
  pub route_of : (us : List Update) (h : ℕ) → IsAcceptable client us → Leaves client us h → IsRoute h (reverse us)
  route_of us h a leaves = record { runs = back_from_acceptable us a; stored = stored_reverse us h leaves.0; live = leaves.1 }

  pub acceptable_route : (h : ℕ) (r : List Update) → IsRoute h r → IsAcceptable client (reverse r)
  acceptable_route h r route = acceptable_from_back (reverse r) (subst RunsBack (sym (reverse-reverse r)) route.runs)

  pub leaves_route : (h : ℕ) (r : List Update) → IsRoute h r → Leaves client (reverse r) h
  leaves_route h r route = (stored_reverse r h route.stored, route.live)

  module _ (orderly : IsOrderly client) where
    -- what comes before an update of a route is a route to the height that it trusts
    pub route_before : (u : Update) (r : List Update) → RunsBack (u ∷ r) → IsRoute u.trusted r
    route_before u r runs = record { runs = runs.2; stored = runs.0; live = orderly.trusts_live u.trusted u.height runs.1 }

    -- and with the update it is one to the update's height
    pub route_more : (u : Update) (r : List Update) → client.Accepts u.trusted u.height → IsRoute u.trusted r → IsRoute u.height (u ∷ r)
    route_more u r accepted route =
        record { runs = (route.stored, accepted, route.runs); stored = inl refl; live = orderly.stores_live u.trusted u.height accepted }
