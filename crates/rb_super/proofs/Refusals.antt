-- A light store, and what is left of it, refuse the same from a height on, if neither is full.
use Rattle.std.proofs.Common.{◌≡◌, ℕ, ◌<◌, ◌≤◌, ◌⊎◌, ◌==◌, ◌&&◌, nat_lt, nat_le, Bool, true, false, List, [], ◌++◌, length, map, reverse, Option, Some, None, inl, inr, refl, sym, ap, ◌∙◌, subst, arith}
use Rattle.std.specs.List.{All, find, position, slice_get}
use Rattle.std.specs.List.Sorted.{IsStrictlyIncreasing}
use Rattle.std.specs.Option.{IsSomeAnd, option_map, option_or}
use Rattle.std.proofs.lemmas.Bool.{eqb-false, true≢false, lt-ltb, le-ltb, leb-false, lt-leb, and_cases, and_left, and_right}
use Rattle.std.proofs.lemmas.List.{reverse-append}
use Rattle.std.proofs.lemmas.List.Elements.{All-weaker}
use Rattle.std.proofs.lemmas.List.Folds.{find-append}
use Rattle.rb_valset.specs.Validator.{Member}
use Rattle.rb_book.specs.declared.error.BookError.{BookError}
use Rattle.rb_book.specs.declared.error.BookError.TheVariants.{WrongVerdictCount, BadVote, TimeOrder, Full}
use Rattle.rb_book.specs.Header.{Record, Header, is_bad}
use Rattle.rb_book.specs.Book.{Book, RecordAt, height_of, time_of, is_at, set_of, record_at, header_at}
use Rattle.rb_book.specs.Intake.{unless, unless_none, breaks_below, breaks_above, breaker, record_refusal_beside, record_refusal, header_refusal_beside, header_refusal_under, header_refusal}
use Rattle.rb_book.specs.Invariant.{Rises}
use Rattle.rb_book.proofs.Kept.{option_map_none}
use Rattle.rb_book.proofs.Lists.{none_passes, find-reverse_none, reverse_fails}
use Rattle.rb_super.specs.Left.{IsBookLeft}
use Rattle.rb_super.proofs.Books.{record_here, header_here}
use Rattle.rb_super.proofs.LeftLists.{find_left, before_first, first_of_all}

-- a refusal, unless it is for want of room
abbrev pub if_room : Option BookError → Option BookError
if_room None = None
if_room (Some Full) = None
if_room (Some e) = Some e

-- the two are the same but for want of room
abbrev pub IsSameFreely : Option BookError → Option BookError → Type 0
IsSameFreely after before = if_room after ≡ if_room before

same_unless : (p : Bool) (e : BookError) (after before : Option BookError) → IsSameFreely after before → IsSameFreely (unless p e after) (unless p e before)
same_unless true e after before same = same
same_unless false e after before same = refl

same_unless_none : (o : Option ℕ) (e : ℕ → BookError) (after before : Option BookError) → IsSameFreely after before → IsSameFreely (unless_none o e after) (unless_none o e before)
same_unless_none None e after before same = same
same_unless_none (Some n) e after before same = refl

same_room : (after before : Bool) → IsSameFreely (unless after Full None) (unless before Full None)
same_room true true = refl
same_room true false = refl
same_room false true = refl
same_room false false = refl

behind : {X : Type 0} (o p : Option X) → (o ≡ None → p ≡ None) → option_or o p ≡ o
behind None p none = none refl
behind (Some x) p none = refl

abbrev IsTimed : List RecordAt → Type 0
IsTimed xs = IsStrictlyIncreasing (map time_of xs)

module _ (m : ℕ) (b c : Book) (left : IsBookLeft m b c) (rises : Rises b.records) where
  -- where the record at the height is not after a time, none below it is
  not_below : (h time : ℕ) → m ≤ h → find (is_at h) c.records ≡ None → IsSomeAnd (slice_get c.records 0) (λ (k : RecordAt). height_of k ≡ m)
      → find (breaks_below h time) (reverse c.records) ≡ None → find (breaks_below h time) (reverse left.records.gone) ≡ None
  not_below h time le unknown first none = go (slice_get c.records 0) refl first
    where
      go : (o : Option RecordAt) → slice_get c.records 0 ≡ o → IsSomeAnd o (λ (k : RecordAt). height_of k ≡ m) → find (breaks_below h time) (reverse left.records.gone) ≡ None
      go None e at = absurd at
      go (Some k) e at =
          find-reverse_none (breaks_below h time) left.records.gone
          (All-weaker (λ x. time_of x < time_of k) (λ x. breaks_below h time x ≡ false) early left.records.gone
          (before_first time_of left.records.gone c.records k (subst (λ (xs : List RecordAt). IsTimed xs) left.records.parts rises.times) e))
        where
          at_first : (P : RecordAt → Type 0) → All P c.records → P k
          at_first P all = first_of_all P c.records k all e

          apart : m < h
          apart =
              let differs : (height_of k == h) ≡ false = at_first (λ x. is_at h x ≡ false) (none_passes (is_at h) c.records unknown) in
              let no : height_of k ≡ h → ⊥ = eqb-false (height_of k) h differs in
              let other : m ≡ h → ⊥ = λ x. no (at ∙ x) in
              omega arith

          later : time_of k < time
          later =
              let fails : (nat_lt (height_of k) h && nat_le time (time_of k)) ≡ false = at_first (λ x. breaks_below h time x ≡ false) (reverse_fails (breaks_below h time) c.records none) in
              let below : nat_lt (height_of k) h ≡ true = lt-ltb (height_of k) h (subst (λ x. x < h) (sym at) apart) in
              decide (and_cases (nat_lt (height_of k) h) (nat_le time (time_of k)) fails) below
            where
              decide : (nat_lt (height_of k) h ≡ false) ⊎ (nat_le time (time_of k) ≡ false) → nat_lt (height_of k) h ≡ true → time_of k < time
              decide (inl fails) under = absurd (true≢false (sym under ∙ fails))
              decide (inr fails) under = leb-false time (time_of k) fails

          early : (x : RecordAt) → time_of x < time_of k → breaks_below h time x ≡ false
          early x lt = and_right (nat_lt (height_of x) h) (nat_le time (time_of x)) (lt-leb time (time_of x) (let l = later in omega arith))

  same_below : (h time : ℕ) → m ≤ h → find (is_at h) c.records ≡ None → find (breaks_below h time) (reverse b.records) ≡ find (breaks_below h time) (reverse c.records)
  same_below h time le unknown = go left.first
    where
      whole : find (breaks_below h time) (reverse b.records) ≡ option_or (find (breaks_below h time) (reverse c.records)) (find (breaks_below h time) (reverse left.records.gone))
      whole =
          ap (λ (xs : List RecordAt). find (breaks_below h time) (reverse xs)) left.records.parts
          ∙ ap (find (breaks_below h time)) (reverse-append left.records.gone c.records)
          ∙ find-append (breaks_below h time) (reverse c.records) (reverse left.records.gone)

      go : (left.records.gone ≡ []) ⊎ IsSomeAnd (slice_get c.records 0) (λ (k : RecordAt). height_of k ≡ m) → find (breaks_below h time) (reverse b.records) ≡ find (breaks_below h time) (reverse c.records)
      go (inl none) = ap (λ (xs : List RecordAt). find (breaks_below h time) (reverse xs)) (left.records.parts ∙ ap (λ (xs : List RecordAt). xs ++ c.records) none)
      go (inr first) = whole ∙ behind _ _ (not_below h time le unknown first)

  same_above : (h time : ℕ) → m ≤ h → find (breaks_above h time) b.records ≡ find (breaks_above h time) c.records
  same_above h time le =
      find_left height_of m b.records c.records left.records (breaks_above h time)
      (λ k lt. and_left (nat_lt h (height_of k)) (nat_le (time_of k) time) (le-ltb h (height_of k) (omega arith)))

  same_breaker : (h time : ℕ) → m ≤ h → find (is_at h) c.records ≡ None → breaker b.records h time ≡ breaker c.records h time
  same_breaker h time le unknown = λ i. option_map height_of (option_or (same_below h time le unknown i) (same_above h time le i))

  pub record_refused : (h : ℕ) (r : Record) → m ≤ h → IsSameFreely (record_refusal c h r) (record_refusal b h r)
  record_refused h r le = go (record_at c h) refl (record_here m b c left h le)
    where
      go : (o : Option Record) → record_at c h ≡ o → record_at b h ≡ record_at c h → IsSameFreely (record_refusal c h r) (record_refusal b h r)
      go (Some known) e same =
          subst (λ (x : Option Record). IsSameFreely (record_refusal c h r) (record_refusal_beside x b h r)) (sym (same ∙ e))
          (subst (λ (x : Option Record). IsSameFreely (record_refusal_beside x c h r) (record_refusal_beside (Some known) b h r)) (sym e) refl)
      go None e same =
          subst (λ (x : Option Record). IsSameFreely (record_refusal c h r) (record_refusal_beside x b h r)) (sym (same ∙ e))
          (subst (λ (x : Option Record). IsSameFreely (record_refusal_beside x c h r) (record_refusal_beside None b h r)) (sym e) unknown)
        where
          unknown : IsSameFreely (record_refusal_beside None c h r) (record_refusal_beside None b h r)
          unknown =
              subst (λ (x : Option ℕ). IsSameFreely (record_refusal_beside None c h r) (unless_none x TimeOrder (unless (nat_lt (length b.records) b.limit) Full None)))
              (sym (same_breaker h r.time le (option_map_none (λ (k : RecordAt). k.record_of) (find (is_at h) c.records) e)))
              (same_unless_none (breaker c.records h r.time) TimeOrder (unless (nat_lt (length c.records) c.limit) Full None) (unless (nat_lt (length b.records) b.limit) Full None)
              (same_room (nat_lt (length c.records) c.limit) (nat_lt (length b.records) b.limit)))

  beside : (h : Header) → m ≤ h.height → IsSameFreely (header_refusal_beside (header_at c h.height) c h) (header_refusal_beside (header_at b h.height) b h)
  beside h le = go (header_at c h.height) (header_at b h.height) (header_here m b c left h.height le)
    where
      go : (o p : Option Header) → p ≡ o → IsSameFreely (header_refusal_beside o c h) (header_refusal_beside p b h)
      go None p e = subst (λ (x : Option Header). IsSameFreely (header_refusal_beside None c h) (header_refusal_beside x b h)) (sym e) (record_refused h.height h.record_of le)
      go (Some known) p e = subst (λ (x : Option Header). IsSameFreely (header_refusal_beside (Some known) c h) (header_refusal_beside x b h)) (sym e) refl

  pub header_refused : (h : Header) → m ≤ h.height → set_of b h.set_hash ≡ set_of c h.set_hash → IsSameFreely (header_refusal c h) (header_refusal b h)
  header_refused h le own = go (set_of c h.set_hash) (set_of b h.set_hash) own
    where
      go : (o p : Option (List Member)) → p ≡ o → IsSameFreely (header_refusal_under o c h) (header_refusal_under p b h)
      go None p e = subst (λ (x : Option (List Member)). IsSameFreely (header_refusal_under None c h) (header_refusal_under x b h)) (sym e) refl
      go (Some set) p e =
          subst (λ (x : Option (List Member)). IsSameFreely (header_refusal_under (Some set) c h) (header_refusal_under x b h)) (sym e)
          (same_unless (length h.votes == length set) WrongVerdictCount _ _ (same_unless_none (position is_bad h.votes) BadVote _ _ (beside h le)))
