-- Each refusal of a book is the one whose condition holds in its own words.
use Rattle.std.proofs.Common.{◌≡◌, ◌≢◌, ℕ, zero, suc, ◌+◌, ◌<◌, ◌≤◌, ◌==◌, ◌&&◌, nat_lt, nat_le, Bool, true, false, cond, List, ◌∷◌, Option, Some, None, is_some, length, get_or, count_by, refl, sym, ap, subst, ◌∙◌, inl, inr, arith}
use Rattle.std.specs.Prelude.{◌⊎◌, IsSomeAnd}
use Rattle.std.specs.List.{All, AllPairs, find, position, position_or_len, slice_get}
use Rattle.std.specs.Option.{option_map}
use Rattle.std.proofs.lemmas.Bool.{false≢true, true≢false, cases_lt, lt-ltb, le-ltb, lt-leb, ltb-true, ltb-false, leb-true, leb-false, eqb-true, eqb-false, eq-eqb, ne_eqb}
use Rattle.std.proofs.lemmas.List.Folds.{list_any_none}
use Rattle.std.proofs.lemmas.List.Sums.{passes_at_first, fails_before_first, position_or_len_is}
use Rattle.std.proofs.lemmas.Option.{same_Some, slice_get-get_or, slice_get_within, get_or_from_slice_get, slice_get_cases}
use Rattle.rb_valset.specs.Validator.{Member}
use Rattle.rb_valset.specs.ValidatorSet.{set_hash, same_set}
use Rattle.rb_valset.specs.Same.{same_set-Decides}
use Rattle.rb_book.specs.declared.error.BookError.{BookError}
use Rattle.rb_book.specs.declared.error.BookError.TheVariants.{UnknownSet, WrongVerdictCount, BadVote, Conflict, TimeOrder, Full, HashClash, NoMemory}
use Rattle.rb_book.specs.declared.vote.Vote.{Vote}
use Rattle.rb_book.specs.declared.vote.Vote.TheVariants.{Commit, Nil, Absent, Bad}
use Rattle.rb_book.specs.Header.{Record, Header, is_bad, same_record, same_header}
use Rattle.rb_book.specs.Book.{RecordAt, Book, height_of, time_of, is_at, is_below, set_of, record_at, header_at, address_count, max_sets, max_addresses}
use Rattle.rb_book.specs.Invariant.{IsBook}
use Rattle.rb_book.specs.Intake.{unless, unless_none, breaker, set_refusal_beside, set_refusal, record_refusal_beside, record_refusal, header_refusal_beside, header_refusal_under, header_refusal}
use Rattle.rb_book.specs.Laws.{IsWellSigned}
use Rattle.rb_book.specs.Conditions.{IsInOrder, BreaksBelow, BreaksAbove, IsBreaker, IsFirstBad, SetAnswer, RecordAnswer, IsAsItsRecord, HeaderAnswer, RefusalIsByConditions}
use Rattle.rb_book.specs.Same.{same_record-Decides, same_header-Decides}
use Rattle.rb_book.proofs.Lists.{find-first, found_holds, found_passes, none_at, is_some-position}
use Rattle.rb_book.proofs.Rising.{Up-from_increasing, pairs_from_up}
use Rattle.rb_book.proofs.Breakers.{IsBetween, IsBetween-new, broken_below, broken_above, unbroken, early_before, late_after}
use Rattle.rb_book.proofs.Kept.{named, option_map_none}
use Rattle.rb_book.proofs.Additions.{accepts_what_fits}

unless_failed : (b : Bool) (e : BookError) (rest : Option BookError) → b ≡ false → unless b e rest ≡ Some e
unless_failed b e rest f = ap (λ x. unless x e rest) f

unless_passed : (b : Bool) (e : BookError) (rest : Option BookError) → b ≡ true → unless b e rest ≡ rest
unless_passed b e rest t = ap (λ x. unless x e rest) t

unless_number : (o : Option ℕ) (f : ℕ → BookError) (rest : Option BookError) (n : ℕ) → o ≡ Some n → unless_none o f rest ≡ Some (f n)
unless_number o f rest n is = ap (λ x. unless_none x f rest) is

unless_no_number : (o : Option ℕ) (f : ℕ → BookError) (rest : Option BookError) → o ≡ None → unless_none o f rest ≡ rest
unless_no_number o f rest is = ap (λ x. unless_none x f rest) is

-- a test that decides an equation fails where that doesn't hold
fails : (b : Bool) {P : Type 0} → (b ≡ true → P) → ¬ P → b ≡ false
fails true says wrong = absurd (wrong (says refl))
fails false says wrong = refl

denied : (b : Bool) {P : Type 0} → (P → b ≡ true) → b ≡ false → ¬ P
denied b says f p = absurd (true≢false (sym (says p) ∙ f))

no_value : {X : Type 0} (o : Option X) → is_some o ≡ false → o ≡ None
no_value None e = refl
no_value (Some x) e = absurd (true≢false e)

no_bad : (p : Vote → Bool) (votes : List Vote) → All (λ v. p v ≡ false) votes → position p votes ≡ None
no_bad p votes good = no_value (position p votes) (is_some-position p votes ∙ list_any_none p votes good)

-- ---- the record that is known at a height
known_at : (b : Book) (q : ℕ) (P : RecordAt → Type 0) (Q : Record → Type 0) → All P b.records → IsSomeAnd (record_at b q) Q
    → (k : RecordAt) × P k × (height_of k ≡ q) × Q k.record_of
known_at b q P Q all there = by (find (is_at q) b.records) refl there
  where
    by : (o : Option RecordAt) → find (is_at q) b.records ≡ o → IsSomeAnd (option_map (λ (k : RecordAt). k.record_of) o) Q → (k : RecordAt) × P k × (height_of k ≡ q) × Q k.record_of
    by None e is = absurd is
    by (Some k) e is = (k, found_holds P (is_at q) b.records k all e, eqb-true (height_of k) q (found_passes (is_at q) b.records k e), is)

module _ (b : Book) (i : IsBook b) where
  heights_up : AllPairs (λ x y. height_of x < height_of y) b.records
  heights_up = pairs_from_up (λ x y. height_of x < height_of y) b.records (Up-from_increasing height_of b.records i.records.heights)

  at_height : (j : ℕ) (x : RecordAt) (Q : Record → Type 0) → slice_get b.records j ≡ Some x → Q x.record_of → IsSomeAnd (record_at b (height_of x)) Q
  at_height j x Q at q =
      let found = find-first (is_at (height_of x)) b.records j x at (eq-eqb (height_of x) (height_of x) refl) (λ k d lt.
      ne_eqb (height_of (get_or b.records k d)) (height_of x) (λ same.
      let less = heights_up k j d lt (slice_get_within b.records j x at) in
      let here = ap height_of (get_or_from_slice_get b.records j x d at) in
      omega (arith, less, here, same))) in
      subst (λ (o : Option RecordAt). IsSomeAnd (option_map (λ (k : RecordAt). k.record_of) o) Q) (sym found) q

  -- ---- the order of times
  module _ (height time : ℕ) where
    abbrev Told : Option ℕ → Type 0
    Told None = IsInOrder b height time
    Told (Some n) = IsBreaker b height time n

    module _ (place : ℕ) (new : IsBetween b.records height place) where
      abbrev Early : Type 0
      Early = (k : ℕ) (d : RecordAt) → k < place → time_of (get_or b.records k d) < time

      all_below : Early → All (λ k. height_of k < height → time_of k < time) b.records
      all_below early k d lt low =
          elim (cases_lt k place) [
            | inl before ↦ early k d before
            | inr after ↦ absurd (let up = new.higher k d after lt in omega (arith, up, low))
          ]

      below_told : (j : ℕ) (x : RecordAt) → j + 1 ≡ place → slice_get b.records j ≡ Some x → time ≤ time_of x → Told (Some (height_of x))
      below_told j x next at late =
          let lower : height_of x < height = let down = new.lower j x (omega arith) in let here = ap height_of (get_or_from_slice_get b.records j x x at) in omega (arith, down, here) in
          inl (record {
            lower = lower;
            late = at_height j x (λ r. time ≤ r.time) at late;
            between = λ k d lt over under.
                let here = ap height_of (get_or_from_slice_get b.records j x d at) in
                elim (cases_lt k place) [
                  | inl before ↦ elim (cases_lt k j) [
                    | inl less ↦ absurd (let up = heights_up k j d less (slice_get_within b.records j x at) in omega (arith, up, here, over))
                    | inr more ↦ absurd (let same : k ≡ j = omega (arith, before, more, next) in let one = ap (λ (n : ℕ). height_of (get_or b.records n d)) same in omega (arith, one, here, over))
                  ]
                  | inr after ↦ absurd (let up = new.higher k d after lt in omega (arith, up, under))
                ];
          })

      above_told : (x : RecordAt) → Early → slice_get b.records place ≡ Some x → time_of x ≤ time → Told (Some (height_of x))
      above_told x early at soon =
          let within = slice_get_within b.records place x at in
          let higher : height < height_of x = let up = new.higher place x (omega arith) within in let here = ap height_of (get_or_from_slice_get b.records place x x at) in omega (arith, up, here) in
          inr (record {
            below = all_below early;
            higher = higher;
            early = at_height place x (λ r. r.time ≤ time) at soon;
            between = λ k d lt over under.
                let here = ap height_of (get_or_from_slice_get b.records place x d at) in
                elim (cases_lt k place) [
                  | inl before ↦ absurd (let down = new.lower k d before in omega (arith, down, over))
                  | inr after ↦ elim (cases_lt place k) [
                    | inl more ↦ absurd (let up = heights_up place k d more lt in omega (arith, up, here, under))
                    | inr less ↦ absurd (let same : k ≡ place = omega (arith, after, less) in let one = ap (λ (n : ℕ). height_of (get_or b.records n d)) same in omega (arith, one, here, under))
                  ]
                ];
          })

      none_told : Early → ((k : ℕ) (d : RecordAt) → place ≤ k → k < length b.records → time < time_of (get_or b.records k d)) → Told None
      none_told early late = record {
        below = all_below early;
        above = λ k d lt high.
            elim (cases_lt k place) [
              | inl before ↦ absurd (let down = new.lower k d before in omega (arith, down, high))
              | inr after ↦ late k d after lt
            ];
      }

      above : Early → Told (breaker b.records height time)
      above early =
          elim (slice_get_cases b.records place).1 [
            | inl there ↦
                let x : RecordAt = there.0 in
                elim (cases_lt time (time_of x)) [
                  | inl late ↦
                      let after = late_after b.records place x time i.records there.2 late in
                      subst Told (sym (unbroken b.records height time place new early after)) (none_told early after)
                  | inr soon ↦ subst Told (sym (broken_above b.records height time place new x early there.2 soon)) (above_told x early there.2 soon)
                ]
            | inr past ↦
                let after : (k : ℕ) (d : RecordAt) → place ≤ k → k < length b.records → time < time_of (get_or b.records k d) = λ k d le lt. absurd (omega (arith, past.0, le, lt)) in
                subst Told (sym (unbroken b.records height time place new early after)) (none_told early after)
          ]

    told_at : (place : ℕ) → IsBetween b.records height place → Told (breaker b.records height time)
    told_at zero new = above zero new (λ k d lt. absurd (omega (arith, lt)))
    told_at (suc j) new =
        let within = new.within in
        elim (slice_get_cases b.records j).1 [
          | inl there ↦
              let x : RecordAt = there.0 in
              elim (cases_lt (time_of x) time) [
                | inl soon ↦ above (suc j) new (λ k d lt. early_before b.records j x time i.records there.2 soon k d (omega (arith, lt)))
                | inr late ↦ subst Told (sym (broken_below b.records height time (suc j) new j x (omega arith) there.2 late)) (below_told (suc j) new j x (omega arith) there.2 late)
              ]
          | inr past ↦ absurd (omega (arith, within, past.0))
        ]

    pub breaker_told : record_at b height ≡ None → Told (breaker b.records height time)
    breaker_told none =
        told_at (count_by (is_below height) b.records)
        (IsBetween-new b.records height (count_by (is_below height) b.records) i.records.heights
        (record { absent = option_map_none (λ (k : RecordAt). k.record_of) (find (is_at height) b.records) none; after = refl }))

    -- one height breaks the order, or none does
    not_both : (n : ℕ) → IsInOrder b height time → ¬ IsBreaker b height time n
    not_both n order (inl x) =
        let k = known_at b n (λ k. height_of k < height → time_of k < time) (λ r. time ≤ r.time) order.below x.late in
        absurd (let soon = k.1 (omega (arith, k.2, x.lower)) in omega (arith, soon, k.3))
    not_both n order (inr x) =
        let k = known_at b n (λ k. height < height_of k → time < time_of k) (λ r. r.time ≤ time) order.above x.early in
        absurd (let late = k.1 (omega (arith, k.2, x.higher)) in omega (arith, late, k.3))

    no_lower : (n m : ℕ) → BreaksBelow b height time n → BreaksBelow b height time m → ¬ (n < m)
    no_lower n m x y less =
        let k = known_at b m (λ k. n < height_of k → height_of k < height → time_of k < time) (λ r. time ≤ r.time) x.between y.late in
        absurd (let soon = k.1 (omega (arith, k.2, less)) (omega (arith, k.2, y.lower)) in omega (arith, soon, k.3))

    no_higher : (n m : ℕ) → BreaksAbove b height time n → BreaksAbove b height time m → ¬ (n < m)
    no_higher n m x y less =
        let k = known_at b n (λ k. height < height_of k → height_of k < m → time < time_of k) (λ r. r.time ≤ time) y.between x.early in
        absurd (let late = k.1 (omega (arith, k.2, x.higher)) (omega (arith, k.2, less)) in omega (arith, late, k.3))

    one_side : (n m : ℕ) → BreaksBelow b height time n → ¬ BreaksAbove b height time m
    one_side n m x y =
        let k = known_at b n (λ k. height_of k < height → time_of k < time) (λ r. time ≤ r.time) y.below x.late in
        absurd (let soon = k.1 (omega (arith, k.2, x.lower)) in omega (arith, soon, k.3))

    same_by : (n m : ℕ) → ¬ (n < m) → ¬ (m < n) → n ≡ m
    same_by n m a c = omega (arith, a, c)

    one_breaker : (n m : ℕ) → IsBreaker b height time n → IsBreaker b height time m → n ≡ m
    one_breaker n m (inl x) (inl y) = same_by n m (no_lower n m x y) (no_lower m n y x)
    one_breaker n m (inr x) (inr y) = same_by n m (no_higher n m x y) (no_higher m n y x)
    one_breaker n m (inl x) (inr y) = absurd (one_side n m x y)
    one_breaker n m (inr x) (inl y) = absurd (one_side m n y x)

    by_order : (o : Option ℕ) → Told o → IsInOrder b height time → o ≡ None
    by_order None told order = refl
    by_order (Some n) told order = absurd (not_both n order told)

    by_breaker : (o : Option ℕ) (n : ℕ) → Told o → IsBreaker b height time n → o ≡ Some n
    by_breaker None n told is = absurd (not_both n told is)
    by_breaker (Some m) n told is = ap (λ (x : ℕ). Some x) (one_breaker m n told is)

  -- ---- sets
  module _ (set : List Member) where
    abbrev own_hash : Option (List Member)
    own_hash = set_of b (set_hash set)

    set_told : SetAnswer (set_refusal b set) b set
    set_told = by own_hash refl
      where
        beside : (known : List Member) (t : Bool) → same_set known set ≡ t → own_hash ≡ Some known → SetAnswer (unless t HashClash None) b set
        beside known true e at = inl (at ∙ ap (λ (s : List Member). Some s) ((same_set-Decides known set).0 e))
        beside known false e at = subst (λ (o : Option (List Member)). IsSomeAnd o (λ k. k ≢ set)) (sym at) (denied (same_set known set) (same_set-Decides known set).1 e)

        room : (x y : Bool) → nat_lt (length b.sets) max_sets ≡ x → nat_le (address_count (set ∷ b.sets)) max_addresses ≡ y → own_hash ≡ None → SetAnswer (unless (x && y) Full None) b set
        room true true e f at = inr (at, record { room = ltb-true _ _ e; addresses = leb-true _ _ f })
        room true false e f at = (at, inr (leb-false _ _ f))
        room false y e f at = (at, inl (ltb-false _ _ e))

        by : (o : Option (List Member)) → own_hash ≡ o → SetAnswer (set_refusal_beside o b set) b set
        by (Some known) at = beside known (same_set known set) refl at
        by None at = room (nat_lt (length b.sets) max_sets) (nat_le (address_count (set ∷ b.sets)) max_addresses) refl refl at

    set_made : (answer : Option BookError) → SetAnswer answer b set → set_refusal b set ≡ answer
    set_made None is = ((accepts_what_fits b).0 set).1 is
    set_made (Some HashClash) is = by own_hash is
      where
        by : (o : Option (List Member)) → IsSomeAnd o (λ k. k ≢ set) → set_refusal_beside o b set ≡ Some HashClash
        by None never = absurd never
        by (Some known) other = unless_failed (same_set known set) HashClash None (fails (same_set known set) (same_set-Decides known set).0 other)
    set_made (Some Full) is =
        ap (λ (o : Option (List Member)). set_refusal_beside o b set) is.0 ∙ unless_failed _ Full None (by is.1)
      where
        and_first : (x y : Bool) → x ≡ false → (x && y) ≡ false
        and_first x y e = ap (λ c. c && y) e

        and_second : (x y : Bool) → y ≡ false → (x && y) ≡ false
        and_second true y e = e
        and_second false y e = refl

        by : (max_sets ≤ length b.sets) ⊎ (max_addresses < address_count (set ∷ b.sets)) → (nat_lt (length b.sets) max_sets && nat_le (address_count (set ∷ b.sets)) max_addresses) ≡ false
        by (inl full) = and_first _ _ (le-ltb _ _ full)
        by (inr many) = and_second _ _ (lt-leb _ _ many)
    set_made (Some UnknownSet) is = absurd is
    set_made (Some WrongVerdictCount) is = absurd is
    set_made (Some (BadVote n)) is = absurd is
    set_made (Some (Conflict q)) is = absurd is
    set_made (Some (TimeOrder q)) is = absurd is
    set_made (Some NoMemory) is = absurd is

  -- ---- records
  module _ (height : ℕ) (r : Record) where
    record_told : RecordAnswer (record_refusal b height r) b height r
    record_told = by (record_at b height) refl
      where
        beside : (known : Record) (t : Bool) → same_record known r ≡ t → record_at b height ≡ Some known → RecordAnswer (unless t (Conflict height) None) b height r
        beside known true e at = inl (at ∙ ap (λ (x : Record). Some x) ((same_record-Decides known r).0 e))
        beside known false e at = (refl, subst (λ (o : Option Record). IsSomeAnd o (λ k. k ≢ r)) (sym at) (denied (same_record known r) (same_record-Decides known r).1 e))

        room : (t : Bool) → nat_lt (length b.records) b.limit ≡ t → record_at b height ≡ None → IsInOrder b height r.time → RecordAnswer (unless t Full None) b height r
        room true e at order = inr (at, record { room = ltb-true _ _ e; below = order.below; above = order.above })
        room false e at order = (at, order, ltb-false _ _ e)

        order : (o : Option ℕ) → Told height r.time o → record_at b height ≡ None → RecordAnswer (unless_none o TimeOrder (unless (nat_lt (length b.records) b.limit) Full None)) b height r
        order None told at = room (nat_lt (length b.records) b.limit) refl at told
        order (Some n) told at = (at, told)

        by : (o : Option Record) → record_at b height ≡ o → RecordAnswer (record_refusal_beside o b height r) b height r
        by (Some known) at = beside known (same_record known r) refl at
        by None at = order (breaker b.records height r.time) (breaker_told height r.time at) at

    new_record : record_at b height ≡ None → record_refusal b height r ≡ unless_none (breaker b.records height r.time) TimeOrder (unless (nat_lt (length b.records) b.limit) Full None)
    new_record at = ap (λ (o : Option Record). record_refusal_beside o b height r) at

    record_made : (answer : Option BookError) → RecordAnswer answer b height r → record_refusal b height r ≡ answer
    record_made None is = ((accepts_what_fits b).1 height r).1 is
    record_made (Some (Conflict q)) is = by (record_at b height) is.1
      where
        by : (o : Option Record) → IsSomeAnd o (λ k. k ≢ r) → record_refusal_beside o b height r ≡ Some (Conflict q)
        by None never = absurd never
        by (Some known) other =
            unless_failed (same_record known r) (Conflict height) None (fails (same_record known r) (same_record-Decides known r).0 other)
            ∙ ap (λ (x : ℕ). Some (Conflict x)) (sym is.0)
    record_made (Some (TimeOrder q)) is =
        new_record is.0
        ∙ unless_number (breaker b.records height r.time) TimeOrder _ q (by_breaker height r.time (breaker b.records height r.time) q (breaker_told height r.time is.0) is.1)
    record_made (Some Full) is =
        new_record is.0
        ∙ unless_no_number (breaker b.records height r.time) TimeOrder _ (by_order height r.time (breaker b.records height r.time) (breaker_told height r.time is.0) is.1)
        ∙ unless_failed _ Full None (le-ltb _ _ is.2)
    record_made (Some UnknownSet) is = absurd is
    record_made (Some WrongVerdictCount) is = absurd is
    record_made (Some (BadVote n)) is = absurd is
    record_made (Some HashClash) is = absurd is
    record_made (Some NoMemory) is = absurd is

  -- ---- headers
  module _ (h : Header) where
    bad_is : (v : Vote) → is_bad v ≡ true → v ≡ Bad
    bad_is Commit e = absurd (false≢true e)
    bad_is Nil e = absurd (false≢true e)
    bad_is Absent e = absurd (false≢true e)
    bad_is Bad e = refl

    first_told : (n : ℕ) → position is_bad h.votes ≡ Some n → IsFirstBad h.votes n
    first_told n e = by (cases_lt at (length h.votes))
      where
        at : ℕ
        at = position_or_len is_bad h.votes

        by : (at < length h.votes) ⊎ (length h.votes ≤ at) → IsFirstBad h.votes n
        by (inr past) = absurd (let none = ap (λ (t : Bool). cond t (Some at) None) (le-ltb at (length h.votes) past) in cc)
        by (inl within) =
            let here : ◌≡◌ {A = Option ℕ} (Some at) (Some n) = sym (ap (λ (t : Bool). cond t (Some at) None) (lt-ltb at (length h.votes) within)) ∙ e in
            let same : at ≡ n = same_Some at n here in
            subst (IsFirstBad h.votes) same (record {
              bad = slice_get-get_or h.votes at Bad within ∙ ap (λ (v : Vote). Some v) (bad_is (get_or h.votes at Bad) (passes_at_first is_bad h.votes Bad within));
              first = λ k lt there.
                  let good = fails_before_first is_bad h.votes k Bad lt in
                  let is = ap is_bad (get_or_from_slice_get h.votes k Bad Bad there) in
                  absurd (false≢true (sym good ∙ is));
            })

    is_first : (n : ℕ) → IsFirstBad h.votes n → position is_bad h.votes ≡ Some n
    is_first n is =
        let within = slice_get_within h.votes n Bad is.bad in
        let at : position_or_len is_bad h.votes ≡ n = position_or_len_is is_bad h.votes n Bad (omega (arith, within)) (λ k lt. good k lt) (λ _. ap is_bad (get_or_from_slice_get h.votes n Bad Bad is.bad)) in
        ap (λ (k : ℕ). cond (nat_lt k (length h.votes)) (Some k) None) at ∙ ap (λ (t : Bool). cond t (Some n) None) (lt-ltb n (length h.votes) within)
      where
        good_by : (k : ℕ) (t : Bool) → k < n → is_bad (get_or h.votes k Bad) ≡ t → t ≡ false
        good_by k true lt e = absurd (is.first k lt (slice_get-get_or h.votes k Bad (omega (arith, lt, slice_get_within h.votes n Bad is.bad)) ∙ ap (λ (v : Vote). Some v) (bad_is (get_or h.votes k Bad) e)))
        good_by k false lt e = refl

        good : (k : ℕ) → k < n → is_bad (get_or h.votes k Bad) ≡ false
        good k lt = good_by k (is_bad (get_or h.votes k Bad)) lt refl

    from_record : (answer : Option BookError) → IsWellSigned b h → header_at b h.height ≡ None → RecordAnswer answer b h.height h.record_of → HeaderAnswer answer b h
    from_record None signed new is = (signed, inr (new, is))
    from_record (Some (Conflict q)) signed new is = (signed, inr (new, is))
    from_record (Some (TimeOrder q)) signed new is = (signed, (new, is))
    from_record (Some Full) signed new is = (signed, (new, is))
    from_record (Some UnknownSet) signed new is = absurd is
    from_record (Some WrongVerdictCount) signed new is = absurd is
    from_record (Some (BadVote n)) signed new is = absurd is
    from_record (Some HashClash) signed new is = absurd is
    from_record (Some NoMemory) signed new is = absurd is

    header_told : HeaderAnswer (header_refusal b h) b h
    header_told = under (set_of b h.set_hash) refl
      where
        beside : (known : Header) (t : Bool) → same_header known h ≡ t → header_at b h.height ≡ Some known → IsWellSigned b h → HeaderAnswer (unless t (Conflict h.height) None) b h
        beside known true e at signed = (signed, inl (at ∙ ap (λ (x : Header). Some x) ((same_header-Decides known h).0 e)))
        beside known false e at signed =
            (signed, inl (refl, subst (λ (o : Option Header). IsSomeAnd o (λ k. k ≢ h)) (sym at) (denied (same_header known h) (same_header-Decides known h).1 e)))

        placed : (o : Option Header) → header_at b h.height ≡ o → IsWellSigned b h → HeaderAnswer (header_refusal_beside o b h) b h
        placed (Some known) at signed = beside known (same_header known h) refl at signed
        placed None at signed = from_record (record_refusal b h.height h.record_of) signed at (record_told h.height h.record_of)

        voted : (own : List Member) (o : Option ℕ) → position is_bad h.votes ≡ o → set_of b h.set_hash ≡ Some own → length h.votes ≡ length own
            → HeaderAnswer (unless_none o BadVote (header_refusal_beside (header_at b h.height) b h)) b h
        voted own (Some n) bad at count =
            (subst (λ (o : Option (List Member)). IsSomeAnd o (λ s. length h.votes ≡ length s)) (sym at) count, first_told n bad)
        voted own None bad at count =
            placed (header_at b h.height) refl (record {
              own = (own, at, record { hash = named b h.set_hash own at; votes = count });
              good = none_at is_bad h.votes bad;
            })

        counted : (own : List Member) (t : Bool) → (length h.votes == length own) ≡ t → set_of b h.set_hash ≡ Some own
            → HeaderAnswer (unless t WrongVerdictCount (unless_none (position is_bad h.votes) BadVote (header_refusal_beside (header_at b h.height) b h))) b h
        counted own true e at = voted own (position is_bad h.votes) refl at (eqb-true _ _ e)
        counted own false e at = subst (λ (o : Option (List Member)). IsSomeAnd o (λ s. length h.votes ≢ length s)) (sym at) (eqb-false _ _ e)

        under : (o : Option (List Member)) → set_of b h.set_hash ≡ o → HeaderAnswer (header_refusal_under o b h) b h
        under None at = at
        under (Some own) at = counted own (length h.votes == length own) refl at

    signed_is : IsWellSigned b h → header_refusal b h ≡ header_refusal_beside (header_at b h.height) b h
    signed_is signed =
        ap (λ (o : Option (List Member)). header_refusal_under o b h) signed.own.1
        ∙ unless_passed _ WrongVerdictCount _ (eq-eqb (length h.votes) (length signed.own.0) signed.own.2.votes)
        ∙ unless_no_number _ BadVote _ (no_bad is_bad h.votes signed.good)

    by_record : (answer : Option BookError) → IsWellSigned b h → header_at b h.height ≡ None → RecordAnswer answer b h.height h.record_of → header_refusal b h ≡ answer
    by_record answer signed new is =
        signed_is signed ∙ ap (λ (o : Option Header). header_refusal_beside o b h) new ∙ record_made h.height h.record_of answer is

    header_made : (answer : Option BookError) → HeaderAnswer answer b h → header_refusal b h ≡ answer
    header_made (Some UnknownSet) is = ap (λ (o : Option (List Member)). header_refusal_under o b h) is
    header_made (Some WrongVerdictCount) is = by (set_of b h.set_hash) is
      where
        by : (o : Option (List Member)) → IsSomeAnd o (λ s. length h.votes ≢ length s) → header_refusal_under o b h ≡ Some WrongVerdictCount
        by None never = absurd never
        by (Some own) other = unless_failed _ WrongVerdictCount _ (ne_eqb (length h.votes) (length own) other)
    header_made (Some (BadVote n)) is = by (set_of b h.set_hash) is.0
      where
        by : (o : Option (List Member)) → IsSomeAnd o (λ s. length h.votes ≡ length s) → header_refusal_under o b h ≡ Some (BadVote n)
        by None never = absurd never
        by (Some own) same = unless_passed _ WrongVerdictCount _ (eq-eqb (length h.votes) (length own) same) ∙ unless_number _ BadVote _ n (is_first n is.1)
    header_made (Some (Conflict q)) is = by is.1
      where
        other : (o : Option Header) → q ≡ h.height → IsSomeAnd o (λ k. k ≢ h) → header_refusal_beside o b h ≡ Some (Conflict q)
        other None at never = absurd never
        other (Some known) at ne =
            unless_failed (same_header known h) (Conflict h.height) None (fails (same_header known h) (same_header-Decides known h).0 ne)
            ∙ ap (λ (x : ℕ). Some (Conflict x)) (sym at)

        by : ((q ≡ h.height) × IsSomeAnd (header_at b h.height) (λ k. k ≢ h)) ⊎ IsAsItsRecord (Some (Conflict q)) b h → header_refusal b h ≡ Some (Conflict q)
        by (inl clash) = signed_is is.0 ∙ other (header_at b h.height) clash.0 clash.1
        by (inr rec) = by_record (Some (Conflict q)) is.0 rec.0 rec.1
    header_made (Some (TimeOrder q)) is = by_record (Some (TimeOrder q)) is.0 is.1.0 is.1.1
    header_made (Some Full) is = by_record (Some Full) is.0 is.1.0 is.1.1
    header_made None is = by is.1
      where
        by : (header_at b h.height ≡ Some h) ⊎ IsAsItsRecord None b h → header_refusal b h ≡ None
        by (inl known) = ((accepts_what_fits b).2 h).1 (is.0, inl known)
        by (inr rec) = by_record None is.0 rec.0 rec.1
    header_made (Some HashClash) is = absurd is
    header_made (Some NoMemory) is = absurd is

pub refusal_is_by_conditions : RefusalIsByConditions
refusal_is_by_conditions b i = (
  λ set answer. (λ e. subst (λ (o : Option BookError). SetAnswer o b set) e (set_told b i set), set_made b i set answer),
  λ height r answer. (λ e. subst (λ (o : Option BookError). RecordAnswer o b height r) e (record_told b i height r), record_made b i height r answer),
  λ h answer. (λ e. subst (λ (o : Option BookError). HeaderAnswer o b h) e (header_told b i h), header_made b i h answer),
)
