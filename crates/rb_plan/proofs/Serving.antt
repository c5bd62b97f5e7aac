-- Offers serve for all labels below: records that name one set have the same steps to every header that isn't right above them.
use Rattle.std.proofs.Common.{◌≡◌, ◌↔◌, ℕ, ◌+◌, ◌<◌, ◌≤◌, ◌^◌, ◌⊎◌, List, [], ◌∷◌, ◌++◌, length, map, get_or, set, All, Bool, true, false, IsTrue, inl, inr, ap, sym, ◌∙◌, refl, subst, arith, Option, Some, None, IsSome, IsSomeAnd}
use Rattle.std.specs.Prelude.{IfSome, MatchOption}
use Rattle.std.specs.List.{Contains, find, insert, slice_get}
use Rattle.std.specs.List.Sorted.{IsPermutation}
use Rattle.std.specs.Option.{option_map, option_map_or}
use Rattle.std.proofs.lemmas.Bool.{cases_eq, cases_lt, false≢true}
use Rattle.std.proofs.lemmas.Option.{none-some, same_Some, slice_get-get_or, slice_get_within, get_or_from_slice_get}
use Rattle.std.proofs.lemmas.Slice.Eq.{bytes_eq-Decides}
use Rattle.std.specs.Str.{bytes_eq}
use Rattle.std.proofs.lemmas.List.{length-map, length-set, get_or-map, get_or_default, get_or-set_same, get_or-set_other}
use Rattle.std.proofs.lemmas.List.Elements.{All-push, All-set, All-weaker, All-contains, Contains-get_or, Contains-push, Contains-append_left}
use Rattle.std.proofs.lemmas.List.Kept.{AllPairs-from_increasing}
use Rattle.std.proofs.lemmas.List.Sorted.{All-permutation, Contains-permutation, IsPermutation-append_comm, IsPermutation-insert, IsPermutation-trans}
use Rattle.rb_base.specs.Window.{IsWithin}
use Rattle.rb_book.specs.Book.{Book, RecordAt, height_of, time_of, heights_of, is_at, set_of, record_at, header_at}
use Rattle.rb_book.specs.Header.{Record, Header}
use Rattle.rb_book.specs.Invariant.{IsBacked}
use Rattle.rb_graph.specs.StoredRow.{own_set}
use Rattle.rb_graph.specs.StepTable.{IsStepFee}
use Rattle.rb_graph.proofs.Headers.{backed_at}
use Rattle.rb_graph.proofs.RecordAt.{known_step}
use Rattle.rb_graph.proofs.Rising.{heights_up}
use Rattle.rb_graph.proofs.Members.{find-In, in_at}
use Rattle.rb_base.specs.Fraction.{Exceeds}
use Rattle.rb_base.specs.Fee.{charge_of}
use Rattle.rb_valset.specs.Validator.{Member}
use Rattle.rb_valset.specs.ValidatorSet.{total_of}
use Rattle.rb_step.specs.SignedPower.{signed_power}
use Rattle.rb_step.specs.Carried.{carried_votes}
use Rattle.rb_step.specs.Fee.{fee_of, fee_at, size_of}
use Rattle.rb_step.specs.KnownStep.{step_at}
use Rattle.rb_step.specs.StepRule.{Step, step_of, Accepts, AcceptsWithin}
use Rattle.rb_step.specs.LightClient.{Client, IsOrderly, IsSource}
use Rattle.rb_step.specs.View.{View, IsView, client_of}
use Rattle.rb_step.proofs.CarriedBy.{carried_same}
use Rattle.rb_plan_types.specs.declared.cost.Cost.{Cost}
use Rattle.rb_plan_types.specs.declared.labelling.Label.{Label}
use Rattle.rb_plan.specs.declared.offers.Offer.{Offer}
use Rattle.rb_plan_types.specs.Order.{IsCheaper, CostsAtMost, after_update, no_cost}
use Rattle.rb_plan_types.specs.Labelling.{Labels, IsLabelling, IsAttained, LeadsTo, label_of}
use Rattle.rb_plan_types.specs.Lookups.{AreAllKnown}
use Rattle.rb_plan_types.specs.Raised.{IsRaised}
use Rattle.rb_plan.specs.Offers.{IsOffer, NamesSame, Serves, IsTakenIn, IsAdded, IsServed, AreEnough, OffersLead, target_of}
use Rattle.rb_plan_types.proofs.Costs.{CostsAtMost-refl, CostsAtMost-trans, CostsAtMost-after, at_most_or_cheaper}
use Rattle.rb_plan_types.proofs.Lookups.{find-some, label_of-some, label_of-at, label_of-push_other, pairs_of_labelling}
use Rattle.rb_plan_types.proofs.Raise.{AreLabelsSoFar, labels_next, labels_labelling, with_label}
use Rattle.rb_plan_types.proofs.Values.{same_value}
use Rattle.rb_plan_types.proofs.Views.{step_has_header}

no_known : RecordAt
no_known = record { height = 0; record_of = record { time = 0; root = []; next = [] } }

-- what the table tells of a step is what the client says
abbrev pub TellsStep : Client → ℕ → ℕ → Option ℕ → Type 0
TellsStep client t h r = MatchOption r (client.Accepts t h → ⊥) (λ fee. client.Accepts t h × (fee ≡ client.fee t h))

pub step_told : (v : View) (t h : ℕ) (r : Option ℕ) → IsStepFee (target_of v h) t r → TellsStep (client_of v) t h r
unfolding client_of
step_told v t h None is = is
step_told v t h (Some fee) is = is

pub told_at : (v : View) (h : ℕ) (o : Offer) (r : Option ℕ) → IsOffer v.book o → IsSomeAnd (slice_get v.book.records o.place) (λ k. IsStepFee (target_of v h) k.height r) → TellsStep (client_of v) o.label.height h r
told_at v h o r offer told = by (slice_get v.book.records o.place) offer.placed told
  where
    by : (k : Option RecordAt) → IsSomeAnd k (λ k. k.height ≡ o.label.height) → IsSomeAnd k (λ k. IsStepFee (target_of v h) k.height r) → TellsStep (client_of v) o.label.height h r
    by None p q = absurd p
    by (Some k) p q = subst (λ (t : ℕ). TellsStep (client_of v) t h r) p (step_told v k.height h r q)

-- no step from the offer costs less than the least fee
pub least_at : (v : View) (h : ℕ) (o : Offer) (r : ℕ) → IsOffer v.book o → IsSomeAnd (slice_get v.book.records o.place) (λ k. r ≤ fee_at v.options v.fees v.book k.height h) → r ≤ (client_of v).fee o.label.height h
unfolding client_of
least_at v h o r offer = by (slice_get v.book.records o.place) offer.placed
  where
    by : (k : Option RecordAt) → IsSomeAnd k (λ k. k.height ≡ o.label.height) → IsSomeAnd k (λ k. r ≤ fee_at v.options v.fees v.book k.height h) → r ≤ fee_at v.options v.fees v.book o.label.height h
    by None placed told = absurd placed
    by (Some k) placed told = subst (λ n. r ≤ fee_at v.options v.fees v.book n h) placed told

pub offer_within : (book : Book) (o : Offer) → IsOffer book o → o.place < length book.records
offer_within book o offer = by (slice_get book.records o.place) refl offer.placed
  where
    by : (k : Option RecordAt) → slice_get book.records o.place ≡ k → IsSomeAnd k (λ k. k.height ≡ o.label.height) → o.place < length book.records
    by None e p = absurd p
    by (Some k) e p = slice_get_within book.records o.place k e

pub at_inside : {X : Type 0} (xs : List X) (at : ℕ) (P : X → Type 0) → IsSomeAnd (slice_get xs at) P → at < length xs
at_inside {X} xs at P is = by (slice_get xs at) refl is
  where
    by : (o : Option X) → slice_get xs at ≡ o → IsSomeAnd o P → at < length xs
    by None e p = absurd p
    by (Some x) e p = slice_get_within xs at x e

pub both_at : (xs : List Offer) (at : ℕ) (P Q : Offer → Type 0) → IsSomeAnd (slice_get xs at) P → IsSomeAnd (slice_get xs at) Q → (o : Offer) × (slice_get xs at ≡ Some o) × P o × Q o
both_at xs at P Q p q = by (slice_get xs at) refl p q
  where
    by : (o : Option Offer) → slice_get xs at ≡ o → IsSomeAnd o P → IsSomeAnd o Q → (o : Offer) × (slice_get xs at ≡ Some o) × P o × Q o
    by None e p q = absurd p
    by (Some x) e p q = (x, e, p, q)

pub same_bytes : (xs ys : List ℕ) → bytes_eq xs ys ≡ true → xs ≡ ys
same_bytes xs ys e = (bytes_eq-Decides xs ys).0 e

-- ---- offers taken in

serves_itself : (book : Book) (o : Offer) → Serves book o o
serves_itself book o = (λ k l k-at l-at. ap (λ (x : RecordAt). x.record_of.next) (same_Some k l (sym k-at ∙ l-at)), CostsAtMost-refl o.label.cost)

cheaper_at_most : (a b : Cost) → IsCheaper a b → CostsAtMost a b
cheaper_at_most a b (inl p) = inl p
cheaper_at_most a b (inr p) = inr (p.0, omega (arith, p.1))

module _ (book : Book) (before : List Offer) (new : Offer) where
  itself : (after : List Offer) → ((o : Offer) → Contains before o → Contains after o) → All (λ other. (o : Offer) × Contains after o × Serves book o other) before
  itself after keeps k d lt = let o = get_or before k d in (o, keeps o (Contains-get_or before k d lt), serves_itself book o)

  taken_push : IsTakenIn book before new (before ++ new ∷ [])
  taken_push = record {
    drawn = All-push (λ o. Contains before o ⊎ (new ≡ o)) before new (λ k d lt. inl (Contains-get_or before k d lt)) (inr refl);
    serve = itself (before ++ new ∷ []) (λ o there. Contains-append_left before (new ∷ []) o there);
    serves_new = (new, Contains-push before new, serves_itself book new);
  }

  -- the order of the offers doesn't matter
  taken_moved : (after after' : List Offer) → IsPermutation after after' → IsTakenIn book before new after → IsTakenIn book before new after'
  taken_moved after after' moved taken = record {
    drawn = All-permutation (λ o. Contains before o ⊎ (new ≡ o)) after after' moved taken.drawn;
    serve = All-weaker (λ other. (o : Offer) × Contains after o × Serves book o other) (λ other. (o : Offer) × Contains after' o × Serves book o other) move before taken.serve;
    serves_new = move new taken.serves_new;
  }
    where
      move : (other : Offer) → (o : Offer) × Contains after o × Serves book o other → (o : Offer) × Contains after' o × Serves book o other
      move other (o, there, serves) = (o, Contains-permutation after after' o moved there, serves)

  pub taken_insert : (i : ℕ) → IsTakenIn book before new (insert before i new)
  taken_insert i =
      taken_moved (before ++ new ∷ []) (insert before i new)
      (IsPermutation-trans (before ++ new ∷ []) (new ∷ before) (insert before i new) (IsPermutation-append_comm before (new ∷ [])) (IsPermutation-insert before i new)) taken_push

  module _ (at : ℕ) (o : Offer) (is : slice_get before at ≡ Some o) where
    inside : at < length before
    inside = slice_get_within before at o is

    pub taken_keep : NamesSame book o.place new.place → (IsCheaper new.label.cost o.label.cost → ⊥) → IsTakenIn book before new before
    taken_keep names dearer = record {
      drawn = λ k d lt. inl (Contains-get_or before k d lt);
      serve = itself before (λ o there. there);
      serves_new = (o, (at, inside, get_or_from_slice_get before at o o is), (names, by (at_most_or_cheaper o.label.cost new.label.cost)));
    }
      where
        by : CostsAtMost o.label.cost new.label.cost ⊎ IsCheaper new.label.cost o.label.cost → CostsAtMost o.label.cost new.label.cost
        by (inl p) = p
        by (inr p) = absurd (dearer p)

    pub taken_set : NamesSame book new.place o.place → IsCheaper new.label.cost o.label.cost → IsTakenIn book before new (set before at new)
    taken_set names cheaper = record {
      drawn = All-set (λ x. Contains before x ⊎ (new ≡ x)) before at new (inr refl) (λ k d lt. inl (Contains-get_or before k d lt));
      serve = serve;
      serves_new = (new, here, serves_itself book new);
    }
      where
        here : Contains (set before at new) new
        here = (at, omega (arith, inside, length-set before at new), get_or-set_same before at new new inside)

        serve : All (λ other. (o : Offer) × Contains (set before at new) o × Serves book o other) before
        serve k d lt = by (cases_eq k at)
          where
            by : (k ≡ at) ⊎ (k ≡ at → ⊥) → (x : Offer) × Contains (set before at new) x × Serves book x (get_or before k d)
            by (inl e) =
                let same : get_or before k d ≡ o = ap (λ (i : ℕ). get_or before i d) e ∙ get_or_from_slice_get before at o d is in
                (new, here, subst (λ (x : Offer). Serves book new x) (sym same) (names, cheaper_at_most new.label.cost o.label.cost cheaper))
            by (inr other) =
                (get_or before k d, (k, omega (arith, lt, length-set before at new), get_or-set_other before at k new (get_or before k d) other ∙ get_or_default before k (get_or before k d) d lt), serves_itself book (get_or before k d))

-- the last offer is taken in among the others, and one is added
pub added_after : (book : Book) (others : List Offer) (last new : Offer) (after : List Offer) → IsTakenIn book others last after → IsAdded book (others ++ last ∷ []) new (after ++ new ∷ [])
added_after book others last new after taken = record {
  drawn = All-push (λ o. Contains (others ++ last ∷ []) o ⊎ (new ≡ o)) after new (All-weaker (λ o. Contains others o ⊎ (last ≡ o)) (λ o. Contains (others ++ last ∷ []) o ⊎ (new ≡ o)) (λ o p. inl (old o p)) after taken.drawn) (inr refl);
  serve = All-push (λ other. (o : Offer) × Contains (after ++ new ∷ []) o × Contains (others ++ last ∷ []) o × Serves book o other) others last
      (All-weaker (λ other. (o : Offer) × Contains after o × Serves book o other) (λ other. (o : Offer) × Contains (after ++ new ∷ []) o × Contains (others ++ last ∷ []) o × Serves book o other) (λ other p. more other p) others taken.serve)
      (more last taken.serves_new);
  added = Contains-push after new;
}
  where
    old : (o : Offer) → Contains others o ⊎ (last ≡ o) → Contains (others ++ last ∷ []) o
    old o (inl there) = Contains-append_left others (last ∷ []) o there
    old o (inr e) = subst (Contains (others ++ last ∷ [])) e (Contains-push others last)

    more : (other : Offer) → (o : Offer) × Contains after o × Serves book o other → (o : Offer) × Contains (after ++ new ∷ []) o × Contains (others ++ last ∷ []) o × Serves book o other
    more other (o, there, serves) = (o, Contains-append_left after (new ∷ []) o there, old o (All-contains (λ o. Contains others o ⊎ (last ≡ o)) after o taken.drawn there), serves)

pub added_push : (book : Book) (before : List Offer) (new : Offer) → IsAdded book before new (before ++ new ∷ [])
added_push book before new = record {
  drawn = All-push (λ o. Contains before o ⊎ (new ≡ o)) before new (λ k d lt. inl (Contains-get_or before k d lt)) (inr refl);
  serve = λ k d lt. (let o = get_or before k d in (o, Contains-append_left before (new ∷ []) o (Contains-get_or before k d lt), Contains-get_or before k d lt, serves_itself book o));
  added = Contains-push before new;
}

-- ---- steps from records that name one set

module _ (v : View) (view : IsView v) where
  recorded : (p : ℕ) (k : RecordAt) → slice_get v.book.records p ≡ Some k → record_at v.book k.height ≡ Some k.record_of
  recorded p k at = ap (option_map (λ (k : RecordAt). k.record_of)) (find-In height_of k v.book.records (heights_up v.book view.book) (in_at v.book.records p k at))

  lasts_live : (p : ℕ) (k : RecordAt) → slice_get v.book.records p ≡ Some k → (v.window.until < k.record_of.time + v.options.period) ↔ (client_of v).IsLive k.height
  unfolding client_of
  lasts_live p k at = (λ lasts. rw (recorded p k at) lasts, λ live. rw (recorded p k at) at live)

  read_at : (p : ℕ) (k : RecordAt) → p < length v.book.records → k ≡ get_or v.book.records p k → slice_get v.book.records p ≡ Some k
  read_at p k inside is = slice_get-get_or v.book.records p k inside ∙ ap (λ (x : RecordAt). Some x) (sym is)

  -- where a record lasts, its height is stored and live if it is stored
  pub source_read : (p : ℕ) (k : RecordAt) → p < length v.book.records → k ≡ get_or v.book.records p k → (r : Record) → r ≡ k.record_of
      → (lasts : Bool) → (IsTrue lasts ↔ (v.window.until < r.time + v.options.period)) → lasts ≡ true
      → (stored : Bool) → (IsTrue stored ↔ Contains (client_of v).stored k.height)
      → IsSomeAnd (slice_get v.book.records p) (λ x. IsTrue stored ↔ IsSource (client_of v) x.height)
  source_read p k inside is r e lasts tells holds stored stands =
      let at = read_at p k inside is in
      let live : (client_of v).IsLive k.height = (lasts_live p k at).0 (subst (λ (x : Record). v.window.until < x.time + v.options.period) e (tells.0 holds)) in
      subst (λ (o : Option RecordAt). IsSomeAnd o (λ x. IsTrue stored ↔ IsSource (client_of v) x.height)) (sym at) (λ true. (stands.0 true, live), λ source. stands.1 source.0)

  -- where it doesn't, it isn't
  pub no_source_read : (p : ℕ) (k : RecordAt) → p < length v.book.records → k ≡ get_or v.book.records p k → (r : Record) → r ≡ k.record_of
      → (lasts : Bool) → (IsTrue lasts ↔ (v.window.until < r.time + v.options.period)) → lasts ≡ false
      → IsSomeAnd (slice_get v.book.records p) (λ x. IsTrue false ↔ IsSource (client_of v) x.height)
  no_source_read p k inside is r e lasts tells fails =
      let at = read_at p k inside is in
      subst (λ (o : Option RecordAt). IsSomeAnd o (λ x. IsTrue false ↔ IsSource (client_of v) x.height)) (sym at)
      (λ e'. absurd (false≢true e'), λ source. absurd (false≢true (sym fails ∙ tells.1 (subst (λ (x : Record). v.window.until < x.time + v.options.period) (sym e) ((lasts_live p k at).1 source.1)))))

  -- a higher record is later
  later : (p : ℕ) (k : RecordAt) (h : ℕ) (r : Record) → slice_get v.book.records p ≡ Some k → record_at v.book h ≡ Some r → k.height < h → k.record_of.time < r.time
  later p k h r at there low = by (find (is_at h) v.book.records) refl there
    where
      by : (o : Option RecordAt) → find (is_at h) v.book.records ≡ o → option_map (λ (k : RecordAt). k.record_of) o ≡ Some r → k.record_of.time < r.time
      by None e is = absurd (none-some r is)
      by (Some j) e is = at_places (find-some height_of v.book.records h j e)
        where
          at_places : Contains v.book.records j × (j.height ≡ h) → k.record_of.time < r.time
          at_places ((q, inside, read), same) = order (cases_lt p q)
            where
              k-within : p < length v.book.records
              k-within = slice_get_within v.book.records p k at

              k-read : get_or v.book.records p k ≡ k
              k-read = get_or_from_slice_get v.book.records p k k at

              kh : get_or (heights_of v.book) p 0 ≡ k.height
              kh = get_or-map height_of v.book.records p k 0 k-within ∙ ap height_of k-read

              jh : get_or (heights_of v.book) q 0 ≡ j.height
              jh = get_or-map height_of v.book.records q j 0 inside ∙ ap height_of read

              order : (p < q) ⊎ (q ≤ p) → k.record_of.time < r.time
              order (inl lt) =
                  let less = AllPairs-from_increasing (map time_of v.book.records) view.book.records.times p q 0 lt (omega (arith, inside, length-map v.book.records time_of)) in
                  let kt = get_or-map time_of v.book.records p k 0 k-within ∙ ap time_of k-read in
                  let jt = get_or-map time_of v.book.records q j 0 inside ∙ ap time_of read in
                  let rt : j.record_of.time ≡ r.time = ap (λ (r : Record). r.time) (same_Some j.record_of r is) in
                  omega (arith, less, kt, jt, rt)
              order (inr ge) = falls (cases_lt q p)
                where
                  falls : (q < p) ⊎ (p ≤ q) → k.record_of.time < r.time
                  falls (inl lt) =
                      let less = AllPairs-from_increasing (heights_of v.book) view.book.records.heights q p 0 lt (omega (arith, k-within, length-map v.book.records height_of)) in
                      absurd (omega (arith, less, kh, jh, low, same))
                  falls (inr le) =
                      let e : p ≡ q = omega arith in
                      let eh : get_or (heights_of v.book) p 0 ≡ get_or (heights_of v.book) q 0 = ap (λ (i : ℕ). get_or (heights_of v.book) i 0) e in
                      absurd (omega (arith, eh, kh, jh, low, same))

  abbrev step_from : RecordAt → Header → Step
  step_from k x = step_of k.height k.record_of (set_of v.book k.record_of.next) x (own_set v.book x)

  module _ (p q : ℕ) (k l : RecordAt) (k-at : slice_get v.book.records p ≡ Some k) (l-at : slice_get v.book.records q ≡ Some l) (names : k.record_of.next ≡ l.record_of.next)
      (h : ℕ) (k-low : k.height + 1 < h) (l-low : l.height + 1 < h) where
    module _ (x : Header) (found : header_at v.book h ≡ Some x) where
      backed : IsBacked v.book x
      backed = backed_at v.book h x view.book found

      height : x.height ≡ h
      height = (find-some (λ (x : Header). x.height) v.book.headers h x found).1

      k-step : step_at v.book k.height h ≡ Some (step_from k x)
      k-step = known_step v.book k.height h k.record_of x (recorded p k k-at) found backed

      l-step : step_at v.book l.height h ≡ Some (step_from l x)
      l-step = known_step v.book l.height h l.record_of x (recorded q l l-at) found backed

      next : set_of v.book l.record_of.next ≡ set_of v.book k.record_of.next
      next = ap (set_of v.book) (sym names)

      accepted_at : (m : ℕ) → IsWithin v.window m → v.window.until < k.record_of.time + v.options.period → Accepts v.options m (step_from l x) → Accepts v.options m (step_from k x)
      accepted_at m within live a = record {
        higher = omega (arith, height, k-low);
        not_expired = omega (arith, within, live);
        later = later p k x.height x.record_of k-at backed.recorded (omega (arith, height, k-low));
        not_from_future = a.not_from_future;
        next_known = subst (λ (o : Option (List Member)). IsSome o) next a.next_known;
        follows = λ adjacent. absurd (omega (arith, adjacent, height, k-low));
        trusted_signed = λ _. subst (λ (o : Option (List Member)). IfSome o (λ n. Exceeds (signed_power n (own_set v.book x) x) (total_of n) v.options.trust)) next (a.trusted_signed (λ adjacent. omega (arith, adjacent, height, l-low)));
        own_signed = a.own_signed;
      }

      same_fee : (client_of v).fee k.height h ≡ (client_of v).fee l.height h
      unfolding client_of
      same_fee =
          ap (λ (s : Option Step). option_map_or (fee_of v.options v.fees) s 0) k-step
          ∙ ap (λ (o : Option (List Member)). charge_of v.fees (carried_votes v.options k.height o x (own_set v.book x)) (length (own_set v.book x) + size_of o)) (sym next)
          ∙ ap (λ n. charge_of v.fees n (length (own_set v.book x) + size_of (set_of v.book l.record_of.next)))
          (carried_same v.options k.height l.height (set_of v.book l.record_of.next) x (own_set v.book x)
          (λ adjacent. omega (arith, adjacent, height, k-low)) (λ adjacent. omega (arith, adjacent, height, l-low)))
          ∙ sym (ap (λ (s : Option Step). option_map_or (fee_of v.options v.fees) s 0) l-step)

    same_step : (client_of v).IsLive k.height → (client_of v).Accepts l.height h → (client_of v).Accepts k.height h × ((client_of v).fee k.height h ≡ (client_of v).fee l.height h)
    unfolding client_of
    same_step live accepts = by (step_has_header v.book l.height h (AcceptsWithin v.options v.window) accepts)
      where
        by : (x : Header) × (header_at v.book h ≡ Some x) → (client_of v).Accepts k.height h × ((client_of v).fee k.height h ≡ (client_of v).fee l.height h)
        by (x, found) =
            let all : AcceptsWithin v.options v.window (step_from l x) = rw (l-step x found) at accepts in
            let lives : v.window.until < k.record_of.time + v.options.period = rw (recorded p k k-at) at live in
            (rw (k-step x found) (λ m within. accepted_at x found m within lives (all m within)), same_fee x found)

-- offers are enough for all heights above the known ones so far
abbrev pub AreEnoughAbove : Client → List ℕ → ℕ → Labels → List Offer → Type 0
AreEnoughAbove client known n label offers = (h : ℕ) → ((k d : ℕ) → k < n → get_or known k d < h) → AreEnough client label offers h

-- each offer is that of a record, and a label
abbrev pub AreOffers : Book → Labels → List Offer → Type 0
AreOffers book label offers = All (λ o. IsOffer book o × (label o.label.height ≡ Some o.label.cost)) offers

live_label : (client : Client) → IsOrderly client → (label : Labels) → IsAttained client label → (h : ℕ) (c : Cost) → label h ≡ Some c → client.IsLive h
live_label client orderly label attained h c is = by (attained h c is)
  where
    by : (IsSource client h × (c ≡ no_cost)) ⊎ ((t : ℕ) × LeadsTo client label t h c) → client.IsLive h
    by (inl source) = source.0.1
    by (inr (t, leads)) = orderly.stores_live t h leads.2

record_of_offer : (book : Book) (o : Offer) → IsOffer book o → (k : RecordAt) × (slice_get book.records o.place ≡ Some k) × (k.height ≡ o.label.height)
record_of_offer book o offer = by (slice_get book.records o.place) refl offer.placed
  where
    by : (k : Option RecordAt) → slice_get book.records o.place ≡ k → IsSomeAnd k (λ k. k.height ≡ o.label.height) → (k : RecordAt) × (slice_get book.records o.place ≡ Some k) × (k.height ≡ o.label.height)
    by None e p = absurd p
    by (Some k) e p = (k, e, p)

module _ (v : View) (view : IsView v) (orderly : IsOrderly (client_of v)) (label : Labels) (attained : IsAttained (client_of v) label) where
  -- an offer that serves for another one leads to each height that isn't right above
  pub step_served : (o other : Offer) (h : ℕ) → IsOffer v.book o → label o.label.height ≡ Some o.label.cost → IsOffer v.book other → Serves v.book o other
      → o.label.height + 1 < h → other.label.height + 1 < h → (client_of v).Accepts other.label.height h
      → (client_of v).Accepts o.label.height h
      × CostsAtMost (after_update o.label.cost ((client_of v).fee o.label.height h)) (after_update other.label.cost ((client_of v).fee other.label.height h))
  step_served o other h offer is offer' (names, most) low low' accepts = by (record_of_offer v.book o offer) (record_of_offer v.book other offer')
    where
      by : (k : RecordAt) × (slice_get v.book.records o.place ≡ Some k) × (k.height ≡ o.label.height) → (k : RecordAt) × (slice_get v.book.records other.place ≡ Some k) × (k.height ≡ other.label.height)
          → (client_of v).Accepts o.label.height h
          × CostsAtMost (after_update o.label.cost ((client_of v).fee o.label.height h)) (after_update other.label.cost ((client_of v).fee other.label.height h))
      by (k, k-at, k-is) (l, l-at, l-is) =
          let live : (client_of v).IsLive k.height = subst (client_of v).IsLive (sym k-is) (live_label (client_of v) orderly label attained o.label.height o.label.cost is) in
          let both = same_step v view o.place other.place k l k-at l-at (names k l k-at l-at) h (omega (arith, k-is, low)) (omega (arith, l-is, low')) live
          (subst (λ (t : ℕ). (client_of v).Accepts t h) (sym l-is) accepts) in
          let fee : (client_of v).fee o.label.height h ≡ (client_of v).fee other.label.height h =
          ap (λ (t : ℕ). (client_of v).fee t h) (sym k-is) ∙ both.1 ∙ ap (λ (t : ℕ). (client_of v).fee t h) l-is in (
            subst (λ (t : ℕ). (client_of v).Accepts t h) k-is both.0,
            subst (λ (f : ℕ). CostsAtMost (after_update o.label.cost ((client_of v).fee o.label.height h)) (after_update other.label.cost f)) fee (CostsAtMost-after o.label.cost other.label.cost _ most),
          )

-- the labels of the first n known heights, and offers that are enough for the heights above
pub record IsRaisedSoFar (v : View) (n : ℕ) (labels : List Label) (offers : List Offer) : Type 0 where
  pub so_far : AreLabelsSoFar (client_of v) (heights_of v.book) n labels
  pub placed : AreOffers v.book (label_of labels) offers
  pub enough : AreEnoughAbove (client_of v) (heights_of v.book) n (label_of labels) offers

module _ (v : View) (view : IsView v) (orderly : IsOrderly (client_of v)) (are : AreAllKnown (client_of v) (heights_of v.book)) where
  module _ (n h : ℕ) (labels : List Label) (offers : List Offer) (inside : n < length (heights_of v.book)) (read : h ≡ get_or (heights_of v.book) n h) (raised : IsRaisedSoFar v n labels offers) where
    -- what the offers lead to is what all labels lead to
    pub by_offers : (cost : Option Cost) → OffersLead (client_of v) offers h (λ label. IsRaised (client_of v) label h cost) → IsRaised (client_of v) (label_of labels) h cost
    by_offers cost lead =
        lead (label_of labels)
        (All-weaker (λ o. IsOffer v.book o × (label_of labels o.label.height ≡ Some o.label.cost)) (λ o. label_of labels o.label.height ≡ Some o.label.cost) (λ o p. p.1) offers raised.placed)
        (raised.enough h earlier)
      where
        earlier : (k d : ℕ) → k < n → get_or (heights_of v.book) k d < h
        earlier k d lt =
            let p : get_or (heights_of v.book) k d < get_or (heights_of v.book) n d = AllPairs-from_increasing (heights_of v.book) are.rising k n d lt inside in
            let same : get_or (heights_of v.book) n d ≡ h = get_or_default (heights_of v.book) n d h inside ∙ sym read in
            omega arith

    pub raised_skip : IsRaised (client_of v) (label_of labels) h None → IsRaisedSoFar v (n + 1) labels offers
    raised_skip is = record {
      so_far = labels_next (client_of v) orderly (heights_of v.book) are n h labels inside read raised.so_far None is;
      placed = raised.placed;
      enough = λ h above. raised.enough h (λ k d lt. above k d (omega arith));
    }

    module _ (b : Cost) (after : List Offer) (is : IsRaised (client_of v) (label_of labels) h (Some b))
        (added : IsAdded v.book offers (record { place = n; label = record { height = h; cost = b } }) after) where
      abbrev new : Label
      new = record { height = h; cost = b }

      abbrev offer : Offer
      offer = record { place = n; label = record { height = h; cost = b } }

      labels_after : AreLabelsSoFar (client_of v) (heights_of v.book) (n + 1) (with_label labels h (Some b))
      labels_after = labels_next (client_of v) orderly (heights_of v.book) are n h labels inside read raised.so_far (Some b) is

      labelling : IsLabelling (labels ++ new ∷ [])
      labelling = labels_labelling (client_of v) orderly (heights_of v.book) are (n + 1) (labels ++ new ∷ []) (omega (arith, inside)) labels_after

      low : (t : ℕ) (c : Cost) → label_of labels t ≡ Some c → t < h
      low t c e =
          let (l, there, eh, ec) = label_of-some labels t c e in
          let p : l.height < get_or (heights_of v.book) n h = raised.so_far.below l there n h (omega arith) inside in
          omega (arith, p, sym read, eh)

      keeps : (t : ℕ) (c : Cost) → label_of labels t ≡ Some c → label_of (labels ++ new ∷ []) t ≡ Some c
      keeps t c e = let p : t < h = low t c e in label_of-push_other labels new t (λ same. let q : t ≡ h = same in omega (arith, p, q)) ∙ e

      at_new : label_of (labels ++ new ∷ []) h ≡ Some b
      at_new = label_of-at (labels ++ new ∷ []) new (pairs_of_labelling (labels ++ new ∷ []) labelling) (Contains-push labels new)

      records : length (heights_of v.book) ≡ length v.book.records
      records = length-map v.book.records height_of

      is_offer : IsOffer v.book (record { place = n; label = record { height = h; cost = b } })
      is_offer =
          let small = All-contains (λ (l : Label). (l.cost.fee < 2 ^ 63) × (l.cost.count < 2 ^ 63)) (labels ++ new ∷ []) new labelling.small (Contains-push labels new) in
          let there = slice_get-get_or v.book.records n no_known (omega (arith, inside, records)) in
          record {
            placed = subst (λ (o : Option RecordAt). IsSomeAnd o (λ k. k.height ≡ h)) (sym there) (sym (read ∙ get_or-map height_of v.book.records n no_known h (omega (arith, inside, records))));
            fee = small.0;
            count = small.1;
          }

      placed_after : AreOffers v.book (label_of (labels ++ new ∷ [])) after
      placed_after = All-weaker (λ o. Contains offers o ⊎ (offer ≡ o)) (λ o. IsOffer v.book o × (label_of (labels ++ new ∷ []) o.label.height ≡ Some o.label.cost)) (λ o p. by o p) after added.drawn
        where
          by : (o : Offer) → Contains offers o ⊎ (offer ≡ o) → IsOffer v.book o × (label_of (labels ++ new ∷ []) o.label.height ≡ Some o.label.cost)
          by o (inl there) = (let p = All-contains (λ o. IsOffer v.book o × (label_of labels o.label.height ≡ Some o.label.cost)) offers o raised.placed there in (p.0, keeps o.label.height o.label.cost p.1))
          by o (inr e) = subst (λ (o : Offer). IsOffer v.book o × (label_of (labels ++ new ∷ []) o.label.height ≡ Some o.label.cost)) e (is_offer, at_new)

      enough_after : AreEnoughAbove (client_of v) (heights_of v.book) (n + 1) (label_of (labels ++ new ∷ [])) after
      enough_after x above t c labelled accepts = by (cases_eq t h)
        where
          high : h < x
          high = let p : get_or (heights_of v.book) n h < x = above n h (omega arith) in omega (arith, p, sym read)

          through : (o : Offer) → Contains offers o → (client_of v).Accepts o.label.height x → CostsAtMost (after_update o.label.cost ((client_of v).fee o.label.height x)) (after_update c ((client_of v).fee t x))
              → IsServed (client_of v) after t c x
          through o there leads most =
              let (s, s-after, s-before, serves) = All-contains (λ other. (o : Offer) × Contains after o × Contains offers o × Serves v.book o other) offers o added.serve there in
              let p = All-contains (λ o. IsOffer v.book o × (label_of labels o.label.height ≡ Some o.label.cost)) offers o raised.placed there in
              let q = All-contains (λ o. IsOffer v.book o × (label_of labels o.label.height ≡ Some o.label.cost)) offers s raised.placed s-before in
              let step = step_served v view orderly (label_of labels) raised.so_far.attained s o x q.0 q.1 p.0 serves
              (omega (arith, low s.label.height s.label.cost q.1, high)) (omega (arith, low o.label.height o.label.cost p.1, high)) leads in
              (s, s-after, step.0, CostsAtMost-trans _ _ _ step.1 most)

          by : (t ≡ h) ⊎ (t ≡ h → ⊥) → IsServed (client_of v) after t c x
          by (inl e) =
              let same : c ≡ b = same_value (label_of (labels ++ new ∷ []) h) c b (ap (label_of (labels ++ new ∷ [])) (sym e) ∙ labelled) at_new in (
                offer,
                added.added,
                subst (λ (k : ℕ). (client_of v).Accepts k x) e accepts,
                subst (λ (k : ℕ). CostsAtMost (after_update b ((client_of v).fee h x)) (after_update c ((client_of v).fee k x))) (sym e)
                    (subst (λ (d : Cost). CostsAtMost (after_update b ((client_of v).fee h x)) (after_update d ((client_of v).fee h x))) (sym same) (CostsAtMost-refl _)),
              )
          by (inr other) =
              let old : label_of labels t ≡ Some c = sym (label_of-push_other labels new t other) ∙ labelled in
              let (o, there, leads, most) = raised.enough x (λ k d lt. above k d (omega arith)) t c old accepts in
              through o there leads most

      pub raised_more : IsRaisedSoFar v (n + 1) (labels ++ record { height = h; cost = b } ∷ []) after
      raised_more = record { so_far = labels_after; placed = placed_after; enough = enough_after }
