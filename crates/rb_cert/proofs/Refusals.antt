-- A step that isn't adjacent is refused where the step from a live record that names the same next set is.
use Rattle.std.proofs.Common.{◌≡◌, ℕ, ◌+◌, ◌<◌, ◌⊎◌, ◌↔◌, Bool, List, inl, inr, length, find, position, ap, sym, ◌∙◌, refl, subst, arith, Option, Some, None, slice_get, get_or}
use Rattle.std.specs.List.{position_or_len, Contains}
use Rattle.std.specs.Option.{IsSomeAnd, IfSome, IsSome, option_map}
use Rattle.std.proofs.lemmas.Bool.{cases_lt, cond-true, cond-false, lt-ltb, le-ltb}
use Rattle.std.proofs.lemmas.List.Elements.{All-contains}
use Rattle.std.proofs.lemmas.List.Folds.{find_at}
use Rattle.std.proofs.lemmas.Option.{none-some, same_Some, get_or_from_slice_get, slice_get_within}
use Rattle.rb_base.specs.Fraction.{Exceeds}
use Rattle.rb_valset.specs.Validator.{Member}
use Rattle.rb_valset.specs.ValidatorSet.{total_of}
use Rattle.rb_book.specs.Book.{RecordAt, Book, height_of, time_of, header_height, is_at, has_hash, record_at, header_at, set_of}
use Rattle.rb_book.specs.Header.{Record, Header}
use Rattle.rb_book.specs.Invariant.{IsBacked}
use Rattle.rb_step.specs.KnownStep.{◌>>=◌, step_at}
use Rattle.rb_step.specs.SignedPower.{signed_power}
use Rattle.rb_step.specs.StepRule.{Step, step_of, Accepts, AcceptsWithin}
use Rattle.rb_step.specs.View.{View, IsView, client_of}
use Rattle.rb_plan_types.proofs.Lookups.{find-at, find-some, pairs_from_increasing}
use Rattle.rb_cert.specs.Places.{IsMarked}
use Rattle.rb_cert.specs.Refused.{IsJudgedBy, AreRefused}
use Rattle.rb_step.proofs.Orderly.{bind_some}
use Rattle.rb_cert.proofs.RecordAt.{records_rise}
use Rattle.rb_cert.proofs.Rising.{at_place, lower_before}

pub bind_is : {A B : Type 0} (o : Option A) (f : A → Option B) (x : A) → o ≡ Some x → (o >>= f) ≡ f x
bind_is {A} o f x e = ap (λ (p : Option A). p >>= f) e

-- what a search finds stands at the place that it finds
pub found_at : {X : Type 0} (p : X → Bool) (xs : List X) (i : ℕ) → position p xs ≡ Some i → find p xs ≡ slice_get xs i
found_at p xs i at =
    elim (cases_lt (position_or_len p xs) (length xs)) [
      | inl less ↦ (let here : position p xs ≡ Some (position_or_len p xs) = cond-true _ _ _ (lt-ltb _ _ less) in find_at p xs ∙ ap (slice_get xs) (same_Some (position_or_len p xs) i (sym here ∙ at)))
      | inr past ↦ (let none : position p xs ≡ None = cond-false _ _ _ (le-ltb _ _ past) in absurd (none-some i (sym none ∙ at)))
    ]

same_found : {X : Type 0} (p q : X → Bool) (xs : List X) (i : ℕ) → position p xs ≡ Some i → position q xs ≡ Some i → find p xs ≡ find q xs
same_found p q xs i at at' = found_at p xs i at ∙ sym (found_at q xs i at')

-- the record that a look-up finds
record AreSame (b : Book) (h : ℕ) (r : Record) (m : RecordAt) : Type 0 where
  there : Contains b.records m
  height : m.height ≡ h
  entry : m.record_of ≡ r

known_at : (b : Book) (h : ℕ) (r : Record) → record_at b h ≡ Some r → (m : RecordAt) × AreSame b h r m
known_at b h r is = go (find (is_at h) b.records) refl
  where
    go : (o : Option RecordAt) → find (is_at h) b.records ≡ o → (m : RecordAt) × AreSame b h r m
    go None e = absurd (none-some r (sym (ap (option_map (λ (k : RecordAt). k.record_of)) e) ∙ is))
    go (Some m) e =
        let found : Contains b.records m × (height_of m ≡ h) = find-some height_of b.records h m e in
        (m, record { there = found.0; height = found.1; entry = same_Some m.record_of r (sym (ap (option_map (λ (k : RecordAt). k.record_of)) e) ∙ is) })

module _ (v : View) (view : IsView v) where
  pub record_is : (k : RecordAt) → Contains v.book.records k → record_at v.book k.height ≡ Some k.record_of
  record_is k there = ap (option_map (λ (x : RecordAt). x.record_of)) (find-at height_of v.book.records k k.height (records_rise v view) there refl)

  times_rise : (k n : RecordAt) → Contains v.book.records k → Contains v.book.records n → k.height < n.height → time_of k < time_of n
  times_rise k n k_there n_there lower = go (at_place v.book.records k k_there) (at_place v.book.records n n_there)
    where
      go : (i : ℕ) × (slice_get v.book.records i ≡ Some k) → (j : ℕ) × (slice_get v.book.records j ≡ Some n) → time_of k < time_of n
      go (i, at) (j, at') =
          let before : i < j = lower_before height_of v.book.records (records_rise v view) j i n k at' at lower in
          let up : time_of (get_or v.book.records i k) < time_of (get_or v.book.records j k) = pairs_from_increasing time_of v.book.records view.book.records.times i j k before (slice_get_within v.book.records j n at') in
          let first : time_of (get_or v.book.records i k) ≡ time_of k = ap time_of (get_or_from_slice_get v.book.records i k k at) in
          let second : time_of (get_or v.book.records j k) ≡ time_of n = ap time_of (get_or_from_slice_get v.book.records j n k at') in
          omega (arith, up, first, second)

  -- a header is later than each lower record
  header_later : (k : RecordAt) (header : Header) → Contains v.book.records k → Contains v.book.headers header → k.height < header.height → time_of k < header.record_of.time
  header_later k header k_there there lower =
      let backed : IsBacked v.book header = All-contains (IsBacked v.book) v.book.headers header view.book.backed there in
      let own : (m : RecordAt) × AreSame v.book header.height header.record_of m = known_at v.book header.height header.record_of backed.recorded in
      let up : time_of k < time_of own.0 = times_rise k own.0 k_there own.1.there (subst (λ (n : ℕ). k.height < n) (sym own.1.height) lower) in
      subst (λ (r : Record). time_of k < r.time) own.1.entry up

  -- the step from the live record, by the same votes
  accepted_live : (k n : RecordAt) (h set m : ℕ) (header : Header) (own : List Member) → header.height ≡ h → k.height < h → IsJudgedBy v k h set → IsJudgedBy v n h set
      → time_of k < header.record_of.time → m < time_of k + v.options.period
      → Accepts v.options m (step_of n.height n.record_of (set_of v.book n.record_of.next) header own)
      → Accepts v.options m (step_of k.height k.record_of (set_of v.book k.record_of.next) header own)
  accepted_live k n h set m header own at lower k_by n_by earlier live a =
      let next : set_of v.book n.record_of.next ≡ set_of v.book k.record_of.next = same_found (has_hash n.record_of.next) (has_hash k.record_of.next) v.book.sets set n_by.place k_by.place in
      record {
        higher = omega (arith, at, lower);
        not_expired = live;
        later = earlier;
        not_from_future = a.not_from_future;
        next_known = subst (λ (o : Option (List Member)). IsSome o) next a.next_known;
        follows = λ adjacent. absurd (k_by.not_adjacent (sym adjacent ∙ at));
        trusted_signed = λ _. subst (λ (o : Option (List Member)). IfSome o (λ s. Exceeds (signed_power s own header) (total_of s) v.options.trust)) next (a.trusted_signed (λ adjacent. n_by.not_adjacent (sym adjacent ∙ at)));
        own_signed = a.own_signed;
      }

  pub accepted_like : (k n : RecordAt) (h set : ℕ) → Contains v.book.records k → Contains v.book.records n → (client_of v).IsLive k.height → k.height < h → IsJudgedBy v k h set → IsJudgedBy v n h set
      → (client_of v).Accepts n.height h → (client_of v).Accepts k.height h
  unfolding client_of step_at
  accepted_like k n h set k_there n_there live lower k_by n_by accepted = go (step_at v.book n.height h) refl accepted
    where
      time : v.window.until < time_of k + v.options.period
      time = subst (λ (o : Option Record). IsSomeAnd o (λ r. v.window.until < r.time + v.options.period)) (record_is k k_there) live

      go : (o : Option Step) → step_at v.book n.height h ≡ o → IsSomeAnd o (AcceptsWithin v.options v.window) → IsSomeAnd (step_at v.book k.height h) (AcceptsWithin v.options v.window)
      go None e never = absurd never
      go (Some s) e throughout =
          let first = bind_some (record_at v.book n.height) _ s e in
          let second = bind_some (header_at v.book h) _ s first.2 in
          let third = bind_some (set_of v.book second.0.set_hash) _ s second.2 in
          let header = second.0 in
          let own = third.0 in
          let trusted : first.0 ≡ n.record_of = same_Some first.0 n.record_of (sym first.1 ∙ record_is n n_there) in
          let found : Contains v.book.headers header × (header_height header ≡ h) = find-some header_height v.book.headers h header second.1 in
          let earlier : time_of k < header.record_of.time = header_later k header k_there found.0 (subst (λ (t : ℕ). k.height < t) (sym found.1) lower) in
          let of_n : s ≡ step_of n.height n.record_of (set_of v.book n.record_of.next) header own =
          same_Some s (step_of n.height first.0 (set_of v.book first.0.next) header own) (sym third.2) ∙ ap (λ (r : Record). step_of n.height r (set_of v.book r.next) header own) trusted in
          let of_k : step_at v.book k.height h ≡ Some (step_of k.height k.record_of (set_of v.book k.record_of.next) header own) =
          bind_is (record_at v.book k.height) _ k.record_of (record_is k k_there) ∙ bind_is (header_at v.book h) _ header second.1 ∙ bind_is (set_of v.book header.set_hash) _ own third.1 in
          subst (λ (o : Option Step). IsSomeAnd o (AcceptsWithin v.options v.window)) (sym of_k)
          (λ m within. accepted_live k n h set m header own found.1 lower k_by n_by earlier (omega (arith, time, within)) (subst (Accepts v.options m) of_n (throughout m within)))

  -- one more set by which the step from a live record was refused
  pub refused_more : (k : RecordAt) (h set : ℕ) (words marked : List ℕ) → Contains v.book.records k → (client_of v).IsLive k.height → k.height < h → IsJudgedBy v k h set → ¬ (client_of v).Accepts k.height h
      → ((p : ℕ) → IsMarked marked p ↔ (IsMarked words p ⊎ (p ≡ set))) → AreRefused words v h → AreRefused marked v h
  refused_more k h set words marked k_there live lower k_by refused more so_far n other n_there n_by mark accepted = go ((more other).0 mark)
    where
      go : IsMarked words other ⊎ (other ≡ set) → ⊥
      go (inl before) = so_far n other n_there n_by before accepted
      go (inr same) = refused (accepted_like k n h set k_there n_there live lower k_by (subst (IsJudgedBy v n h) same n_by) accepted)
