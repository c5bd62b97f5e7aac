-- What is kept of a header once its book knows one more record or set.
use Rattle.std.proofs.Common.{◌≡◌, ◌≢◌, ℕ, suc, ◌<◌, ◌≤◌, Bool, true, false, cond, nat_lt, ◌&&◌, ◌||◌, List, [], ◌∷◌, Option, Some, None, is_some, length, get_or, map, count_by, refl, sym, ap, subst, ◌∙◌, inl, inr, arith}
use Rattle.std.specs.Prelude.{unwrap_or}
use Rattle.std.specs.List.{insert, remove, position, find, list_any, AllByRecursion}
use Rattle.std.specs.Option.{option_map}
use Rattle.std.proofs.lemmas.Bool.{cases_lt, cases_order, lt-ltb, le-ltb, cases_Bool, true≢false}
use Rattle.std.proofs.lemmas.List.{get_or-map, get_or_default, length-map}
use Rattle.std.proofs.lemmas.List.Edits.{length-insert}
use Rattle.std.proofs.lemmas.List.Sums.{count_by-le-length}
use Rattle.std.proofs.lemmas.List.Quantifiers.{position-Some}
use Rattle.std.proofs.lemmas.Slice.Eq.{bytes_eq-Decides}
use Rattle.rb_base.specs.Fraction.{two_thirds}
use Rattle.rb_valset.specs.Validator.{Member}
use Rattle.rb_valset.specs.ValidatorSet.{set_hash, total_of}
use Rattle.rb_book.specs.declared.error.BookError.{BookError}
use Rattle.rb_book.specs.declared.error.BookError.TheVariants.{UnknownSet, WrongVerdictCount, BadVote, Conflict, TimeOrder, Full, HashClash, NoMemory}
use Rattle.rb_book.specs.Header.{Record, Header, IsSignedBy, same_record}
use Rattle.rb_book.specs.Book.{Book, RecordAt, height_of, is_below, has_hash, set_of, record_at, header_at, header_is_below, is_before, max_sets}
use Rattle.rb_book.specs.Invariant.{IsBook, IsBacked}
use Rattle.rb_book.specs.Intake.{unless, unless_none, breaker, IsRefusal, header_refusal, record_refusal, record_refusal_beside, with_record, with_set, with_header, after_record, after_header, after_set}
use Rattle.rb_book.proofs.Additions.{stays_a_book}
use Rattle.rb_book.proofs.Kept.{fine, header_record_accepted, set_elsewhere}
use Rattle.rb_book.proofs.Lists.{none_at}
use Rattle.rb_book.proofs.Positions.{before_strict, position_none}
use Rattle.rb_step.specs.SignedPower.{signed_power}
use Rattle.rb_step.specs.Answer.{exceeds}
use Rattle.rb_graph.specs.StoredRow.{own_set, first_naming, is_lower, next_place, next_places, stored_power, stored_row_of, StoredRow}
use Rattle.rb_graph.proofs.Rising.{Up, heights_up}
use Rattle.rb_graph.proofs.OwnSet.{own_known}
use Rattle.rb_graph.proofs.Inserted.{map-insert, any-insert, map-same, map-set, position-insert_here, position-insert_other, removed-insert}
use Rattle.rb_graph.specs.Moved.{moved}

-- ---- a header that is accepted

pub own_new : (b : Book) (h : Header) → header_refusal b h ≡ None → (set_of b h.set_hash ≡ Some (own_set b h)) × IsSignedBy h (own_set b h)
own_new b h accepted =
    let (set, is, signed) = (fine b h accepted).0.own in
    let same : set ≡ own_set b h = sym (ap (λ (o : Option (List Member)). unwrap_or o []) is) in
    (is ∙ ap (λ (s : List Member). Some s) same, subst (IsSignedBy h) same signed)

-- ---- the lowest that passes

and_none : (a : Bool) → (a && false) ≡ false
and_none true = refl
and_none false = refl

none_lower : {X : Type 0} (f : X → ℕ) (p : X → Bool) (n m : ℕ) (xs : List X) → AllByRecursion (λ y. m < f y) xs → n ≤ m → list_any (λ x. p x && nat_lt (f x) n) xs ≡ false
none_lower f p n m [] up le = refl
none_lower f p n m (x ∷ xs) up le =
    ap (λ (b : Bool). (p x && b) || list_any (λ y. p y && nat_lt (f y) n) xs) (le-ltb (f x) n (omega (arith, up.0)))
    ∙ ap (λ (b : Bool). b || list_any (λ y. p y && nat_lt (f y) n) xs) (and_none (p x))
    ∙ none_lower f p n m xs up.1 le

-- the first that passes is below a bound where some one that passes is
pub lower_any : {X : Type 0} (f : X → ℕ) (p : X → Bool) (n : ℕ) (xs : List X) → Up f xs → is_lower (option_map f (find p xs)) n ≡ list_any (λ x. p x && nat_lt (f x) n) xs
lower_any f p n [] up = refl
lower_any {X} f p n (x ∷ xs) up = by (p x) refl (lower_any f p n xs up.1)
  where
    first : (f x < n) → nat_lt (f x) n ≡ (nat_lt (f x) n || list_any (λ y. p y && nat_lt (f y) n) xs)
    first lt = lt-ltb (f x) n lt ∙ sym (ap (λ (b : Bool). b || list_any (λ y. p y && nat_lt (f y) n) xs) (lt-ltb (f x) n lt))

    last : (n ≤ f x) → nat_lt (f x) n ≡ (nat_lt (f x) n || list_any (λ y. p y && nat_lt (f y) n) xs)
    last le =
        le-ltb (f x) n le
        ∙ sym (ap (λ (b : Bool). b || list_any (λ y. p y && nat_lt (f y) n) xs) (le-ltb (f x) n le) ∙ none_lower f p n (f x) xs up.0 le)

    by : (b : Bool) → p x ≡ b → is_lower (option_map f (find p xs)) n ≡ list_any (λ y. p y && nat_lt (f y) n) xs → is_lower (option_map f (find p (x ∷ xs))) n ≡ list_any (λ y. p y && nat_lt (f y) n) (x ∷ xs)
    by true e rest =
        ap (λ (c : Bool). is_lower (option_map f (cond c (Some x) (find p xs))) n) e
        ∙ elim (cases_lt (f x) n) [ inl lt ↦ first lt | inr ge ↦ last ge ]
        ∙ sym (ap (λ (c : Bool). (c && nat_lt (f x) n) || list_any (λ y. p y && nat_lt (f y) n) xs) e)
    by false e rest =
        ap (λ (c : Bool). is_lower (option_map f (cond c (Some x) (find p xs))) n) e
        ∙ rest
        ∙ sym (ap (λ (c : Bool). (c && nat_lt (f x) n) || list_any (λ y. p y && nat_lt (f y) n) xs) e)

-- an option is known by the bounds that it is below
same_lower : (o p : Option ℕ) → ((n : ℕ) → is_lower o n ≡ is_lower p n) → o ≡ p
same_lower None None same = refl
same_lower None (Some y) same = absurd (true≢false (sym (same (suc y) ∙ lt-ltb y (suc y) (omega arith))))
same_lower (Some x) None same = absurd (true≢false (sym (lt-ltb x (suc x) (omega arith)) ∙ same (suc x)))
same_lower (Some x) (Some y) same = elim (cases_order x y) [
  | inl e ↦ ap (λ (n : ℕ). Some n) e
  | inr q ↦ elim q [
    | inl less ↦ absurd (true≢false (sym (lt-ltb x y less) ∙ same y ∙ le-ltb y y (omega arith)))
    | inr more ↦ absurd (true≢false (sym (lt-ltb y x more) ∙ sym (same x) ∙ le-ltb x x (omega arith)))
  ]
]

-- a lower bound hides a higher one
lower_hides : (low high n : ℕ) → low ≤ high → (nat_lt high n || nat_lt low n) ≡ nat_lt low n
lower_hides low high n le = elim (cases_lt high n) [
  | inl lt ↦ (λ i. lt-ltb high n lt i || nat_lt low n) ∙ sym (lt-ltb low n (omega (arith, le, lt)))
  | inr ge ↦ ap (λ (b : Bool). b || nat_lt low n) (le-ltb high n ge)
]

higher_hides : (low high n : ℕ) → low ≤ high → (nat_lt low n || nat_lt high n) ≡ nat_lt low n
higher_hides low high n le = elim (cases_lt low n) [
  | inl lt ↦ (λ i. lt-ltb low n lt i || nat_lt high n) ∙ sym (lt-ltb low n lt)
  | inr ge ↦ (λ i. le-ltb low n ge i || le-ltb high n (omega (arith, le, ge)) i) ∙ sym (le-ltb low n ge)
]

or_none : (b : Bool) → (b || false) ≡ b
or_none true = refl
or_none false = refl

-- ---- one more record

either : {X : Type 0} (a b : Bool) (x y : X) → cond (a || b) x y ≡ cond a x (cond b x y)
either true b x y = refl
either false b x y = refl

module _ (b : Book) (height : ℕ) (r : Record) (book : IsBook b) (after : IsBook (with_record b height r)) where
  named_after : (set : List Member) (n : ℕ) → is_lower (first_naming (with_record b height r) set) n ≡ ((has_hash r.next set && nat_lt height n) || is_lower (first_naming b set) n)
  named_after set n =
      let k : RecordAt = record { height = height; record_of = r } in
      let p : RecordAt → Bool = λ x. has_hash x.record_of.next set in
      lower_any height_of p n (insert b.records (count_by (is_below height) b.records) k) (heights_up (with_record b height r) after)
      ∙ any-insert (λ (x : RecordAt). p x && nat_lt (height_of x) n) b.records (count_by (is_below height) b.records) k
      ∙ ap (λ (c : Bool). (has_hash r.next set && nat_lt height n) || c) (sym (lower_any height_of p n b.records (heights_up b book)))

  -- where a set is first named from then on
  first_unnamed : (set : List Member) → has_hash r.next set ≡ false → first_naming b set ≡ first_naming (with_record b height r) set
  first_unnamed set other = same_lower (first_naming b set) (first_naming (with_record b height r) set) (λ n. sym (
      named_after set n ∙ ap (λ (c : Bool). (c && nat_lt height n) || is_lower (first_naming b set) n) other))

  first_named : (set : List Member) (o : Option ℕ) (n : ℕ) → has_hash r.next set ≡ true → first_naming b set ≡ o → is_lower (first_naming (with_record b height r) set) n ≡ (nat_lt height n || is_lower o n)
  first_named set o n named is =
      named_after set n
      ∙ ap (λ (c : Bool). (c && nat_lt height n) || is_lower (first_naming b set) n) named
      ∙ ap (λ (p : Option ℕ). nat_lt height n || is_lower p n) is

  first_lower : (set : List Member) (low : ℕ) → has_hash r.next set ≡ true → first_naming b set ≡ Some low → low ≤ height → first_naming b set ≡ first_naming (with_record b height r) set
  first_lower set low named is le = is ∙ same_lower (Some low) (first_naming (with_record b height r) set) (λ n. sym (
      first_named set (Some low) n named is ∙ lower_hides low height n le))

  first_higher : (set : List Member) (o : Option ℕ) → has_hash r.next set ≡ true → first_naming b set ≡ o → ((low : ℕ) → o ≡ Some low → height ≤ low) → Some height ≡ first_naming (with_record b height r) set
  first_higher set None named is above = same_lower (Some height) (first_naming (with_record b height r) set) (λ n. sym (
      first_named set None n named is ∙ or_none (nat_lt height n)))
  first_higher set (Some low) named is above = same_lower (Some height) (first_naming (with_record b height r) set) (λ n. sym (
      first_named set (Some low) n named is ∙ higher_hides height low n (above low refl)))

  power_after : (h : Header) (set : List Member) → stored_power (with_record b height r) h set ≡ cond (has_hash r.next set && nat_lt height h.height) (Some (signed_power set (own_set b h) h)) (stored_power b h set)
  unfolding stored_power
  power_after h set =
      ap (λ (c : Bool). cond c (Some (signed_power set (own_set b h) h)) None) (named_after set h.height)
      ∙ either (has_hash r.next set && nat_lt height h.height) (is_lower (first_naming b set) h.height) (Some (signed_power set (own_set b h) h)) None

  power_not_named : (h : Header) (set : List Member) → has_hash r.next set ≡ false → stored_power b h set ≡ stored_power (with_record b height r) h set
  power_not_named h set other =
      sym (power_after h set ∙ ap (λ (c : Bool). cond (c && nat_lt height h.height) (Some (signed_power set (own_set b h) h)) (stored_power b h set)) other)

  row_of_powers : (h : Header) → map (stored_power b h) b.sets ≡ map (stored_power (with_record b height r) h) b.sets → stored_row_of b h ≡ stored_row_of (with_record b height r) h
  unfolding stored_row_of
  row_of_powers h same = λ i. record {
    size = length (own_set b h);
    is_signed = exceeds (signed_power (own_set b h) (own_set b h) h) (total_of (own_set b h)) two_thirds;
    signed = same i;
  }

  -- no set is first named elsewhere
  row_as_before : (h : Header) → map (first_naming b) b.sets ≡ map (first_naming (with_record b height r)) b.sets → stored_row_of b h ≡ stored_row_of (with_record b height r) h
  unfolding stored_power
  row_as_before h same =
      row_of_powers h (map-same (stored_power b h) (stored_power (with_record b height r) h) b.sets (λ k d lt.
      let set = get_or b.sets k d in
      let first : first_naming b set ≡ first_naming (with_record b height r) set =
      sym (get_or-map (first_naming b) b.sets k d None lt) ∙ ap (λ (l : List (Option ℕ)). get_or l k None) same ∙ get_or-map (first_naming (with_record b height r)) b.sets k d None lt in
      ap (λ (o : Option ℕ). cond (is_lower o h.height) (Some (signed_power set (own_set b h) h)) None) first))

  pub rows_as_before : (rows : List StoredRow) → map (first_naming b) b.sets ≡ map (first_naming (with_record b height r)) b.sets → rows ≡ map (stored_row_of b) b.headers → rows ≡ map (stored_row_of (with_record b height r)) b.headers
  rows_as_before rows same is = is ∙ map-same (stored_row_of b) (stored_row_of (with_record b height r)) b.headers (λ k d lt. row_as_before (get_or b.headers k d) same)

  pub lowest_unnamed : (lowest : List (Option ℕ)) → position (has_hash r.next) b.sets ≡ None → lowest ≡ map (first_naming b) b.sets → lowest ≡ map (first_naming (with_record b height r)) b.sets
  lowest_unnamed lowest none is = is ∙ map-same (first_naming b) (first_naming (with_record b height r)) b.sets (λ k d lt.
      first_unnamed (get_or b.sets k d) (none_at (has_hash r.next) b.sets none k d lt))

  -- a header that isn't above the record
  pub row_below : (h : Header) → h.height ≤ height → stored_row_of b h ≡ stored_row_of (with_record b height r) h
  row_below h le =
      row_of_powers h (map-same (stored_power b h) (stored_power (with_record b height r) h) b.sets (λ k d lt.
      let set = get_or b.sets k d in
      sym (power_after h set
      ∙ ap (λ (c : Bool). cond (has_hash r.next set && c) (Some (signed_power set (own_set b h) h)) (stored_power b h set)) (le-ltb height h.height le)
      ∙ ap (λ (c : Bool). cond c (Some (signed_power set (own_set b h) h)) (stored_power b h set)) (and_none (has_hash r.next set)))))

  pub stays_below : (h : Header) (row : StoredRow) → row ≡ stored_row_of b h → h.height ≤ height → row ≡ stored_row_of (with_record b height r) h
  stays_below h row is le = is ∙ row_below h le

  -- no set is named
  pub row_unnamed : (h : Header) → position (has_hash r.next) b.sets ≡ None → stored_row_of b h ≡ stored_row_of (with_record b height r) h
  row_unnamed h none =
      row_of_powers h (map-same (stored_power b h) (stored_power (with_record b height r) h) b.sets (λ k d lt.
      power_not_named h (get_or b.sets k d) (none_at (has_hash r.next) b.sets none k d lt)))

  -- the set at a place is named, and no other
  module _ (s : ℕ) (place : position (has_hash r.next) b.sets ≡ Some s) where
    pub place_within : s < length b.sets
    place_within = (position-Some (has_hash r.next) b.sets s [] place).0

    named : (d : List Member) → has_hash r.next (get_or b.sets s d) ≡ true
    named d = (position-Some (has_hash r.next) b.sets s d place).1

    one_place : (t : ℕ) (d : List Member) → t < length b.sets → has_hash r.next (get_or b.sets t d) ≡ true → t ≡ s
    one_place t d lt has =
        let same : set_hash (get_or b.sets t d) ≡ set_hash (get_or b.sets s d) = (bytes_eq-Decides _ _).0 has ∙ sym ((bytes_eq-Decides _ _).0 (named d)) in
        elim (cases_order t s) [
          | inl e ↦ e
          | inr q ↦ elim q [
            | inl less ↦ absurd (before_strict (get_or b.sets t d) (subst (λ (hash : List ℕ). is_before hash (get_or b.sets t d) ≡ true) (sym same) (book.hashes t s d less place_within)))
            | inr more ↦ absurd (before_strict (get_or b.sets s d) (subst (λ (hash : List ℕ). is_before hash (get_or b.sets s d) ≡ true) same (book.hashes s t d more lt)))
          ]
        ]

    not_named : (t : ℕ) (d : List Member) → t < length b.sets → t ≢ s → has_hash r.next (get_or b.sets t d) ≡ false
    not_named t d lt other = elim (cases_Bool (has_hash r.next (get_or b.sets t d))) [
      | inl has ↦ absurd (other (one_place t d lt has))
      | inr isnt ↦ isnt
    ]

    -- where the sets are first named
    pub place_in_lowest : (lowest : List (Option ℕ)) → lowest ≡ map (first_naming b) b.sets → s < length lowest
    place_in_lowest lowest is = omega (arith, ap (λ (l : List (Option ℕ)). length l) is, length-map b.sets (first_naming b), place_within)

    first_at : (lowest : List (Option ℕ)) (o : Option ℕ) → lowest ≡ map (first_naming b) b.sets → o ≡ get_or lowest s o → first_naming b (get_or b.sets s []) ≡ o
    first_at lowest o is at = sym (at ∙ ap (λ (l : List (Option ℕ)). get_or l s o) is ∙ get_or-map (first_naming b) b.sets s [] o place_within)

    pub lowest_lower : (lowest : List (Option ℕ)) (o : Option ℕ) (low : ℕ) → lowest ≡ map (first_naming b) b.sets → o ≡ get_or lowest s o → o ≡ Some low → low < height → lowest ≡ map (first_naming (with_record b height r)) b.sets
    lowest_lower lowest o low is at some lt = is ∙ map-same (first_naming b) (first_naming (with_record b height r)) b.sets by
      where
        by : (t : ℕ) (d : List Member) → t < length b.sets → first_naming b (get_or b.sets t d) ≡ first_naming (with_record b height r) (get_or b.sets t d)
        by t d within = elim (cases_Bool (has_hash r.next (get_or b.sets t d))) [
          | inl has ↦
              let e : t ≡ s = one_place t d within has in
              let there : get_or b.sets s [] ≡ get_or b.sets t d = ap (λ (n : ℕ). get_or b.sets n []) (sym e) ∙ get_or_default b.sets t [] d within in
              first_lower (get_or b.sets t d) low has (ap (first_naming b) (sym there) ∙ first_at lowest o is at ∙ some) (omega (arith, lt))
          | inr isnt ↦ first_unnamed (get_or b.sets t d) isnt
        ]

    pub lowest_higher : (lowest : List (Option ℕ)) (o : Option ℕ) → lowest ≡ map (first_naming b) b.sets → o ≡ get_or lowest s o → ((low : ℕ) → o ≡ Some low → height ≤ low) → Rattle.std.proofs.Common.set lowest s (Some height) ≡ map (first_naming (with_record b height r)) b.sets
    lowest_higher lowest o is at above =
        ap (λ (l : List (Option ℕ)). Rattle.std.proofs.Common.set l s (Some height)) is
        ∙ map-set (first_naming b) (first_naming (with_record b height r)) b.sets s [] (Some height) place_within
        (first_higher (get_or b.sets s []) o (named []) (first_at lowest o is at) above)
        (λ t d lt other. first_unnamed (get_or b.sets t d) (not_named t d lt other))

    pub lowest_first : (lowest : List (Option ℕ)) (o : Option ℕ) → lowest ≡ map (first_naming b) b.sets → o ≡ get_or lowest s o → o ≡ None → Rattle.std.proofs.Common.set lowest s (Some height) ≡ map (first_naming (with_record b height r)) b.sets
    lowest_first lowest o is at none = lowest_higher lowest o is at (λ low q.
        let e : ◌≡◌ {A = Option ℕ} None (Some low) = sym none ∙ q in absurd (cc))

    pub lowest_above : (lowest : List (Option ℕ)) (o : Option ℕ) (low : ℕ) → lowest ≡ map (first_naming b) b.sets → o ≡ get_or lowest s o → o ≡ Some low → height ≤ low → Rattle.std.proofs.Common.set lowest s (Some height) ≡ map (first_naming (with_record b height r)) b.sets
    lowest_above lowest o low is at some le = lowest_higher lowest o is at (λ k q.
        let e : ◌≡◌ {A = Option ℕ} (Some low) (Some k) = sym some ∙ q in
        let same : low ≡ k = (cc) in
        omega (arith, le, same))

    power_named : (h : Header) (d : List Member) → height < h.height → stored_power (with_record b height r) h (get_or b.sets s d) ≡ Some (signed_power (get_or b.sets s d) (own_set b h) h)
    power_named h d lt =
        power_after h (get_or b.sets s d)
        ∙ ap (λ (c : Bool). cond (c && nat_lt height h.height) (Some (signed_power (get_or b.sets s d) (own_set b h) h)) (stored_power b h (get_or b.sets s d))) (named d)
        ∙ ap (λ (c : Bool). cond c (Some (signed_power (get_or b.sets s d) (own_set b h) h)) (stored_power b h (get_or b.sets s d))) (lt-ltb height h.height lt)

    -- its signed power is kept from then on
    pub row_named : (h : Header) (row : StoredRow) (set : List Member) (power : ℕ) → height < h.height → row ≡ stored_row_of b h → set ≡ get_or b.sets s set → power ≡ signed_power set (own_set b h) h
        → ◌≡◌ {A = StoredRow} (record { size = row.size; is_signed = row.is_signed; signed = Rattle.std.proofs.Common.set row.signed s (Some power) }) (stored_row_of (with_record b height r) h)
    unfolding stored_row_of
    row_named h row set power above is at sum =
        let here : Some power ≡ stored_power (with_record b height r) h (get_or b.sets s set) =
        ap (λ (n : ℕ). Some n) (sum ∙ ap (λ (t : List Member). signed_power t (own_set b h) h) at) ∙ sym (power_named h set above) in
        let all = map-set (stored_power b h) (stored_power (with_record b height r) h) b.sets s set (Some power) place_within here
        (λ t d lt other. power_not_named h (get_or b.sets t d) (not_named t d lt other)) in
        λ i. record {
          size = (ap (λ (k : StoredRow). k.size) is) i;
          is_signed = (ap (λ (k : StoredRow). k.is_signed) is) i;
          signed = (ap (λ (k : StoredRow). Rattle.std.proofs.Common.set k.signed s (Some power)) is ∙ all) i;
        }

    old_power : (h : Header) (d : List Member) → is_some (stored_power b h (get_or b.sets s d)) ≡ true → stored_power b h (get_or b.sets s d) ≡ Some (signed_power (get_or b.sets s d) (own_set b h) h)
    unfolding stored_power
    old_power h d e = by (is_lower (first_naming b (get_or b.sets s d)) h.height) e
      where
        by : (c : Bool) → is_some (cond c (Some (signed_power (get_or b.sets s d) (own_set b h) h)) None) ≡ true → cond c (Some (signed_power (get_or b.sets s d) (own_set b h) h)) None ≡ Some (signed_power (get_or b.sets s d) (own_set b h) h)
        by true q = refl
        by false q = absurd (true≢false (sym q))

    -- or was kept before
    pub row_known : (h : Header) (row : StoredRow) → height < h.height → row ≡ stored_row_of b h → is_some (get_or row.signed s None) ≡ true → stored_row_of b h ≡ stored_row_of (with_record b height r) h
    unfolding stored_row_of
    row_known h row above is kept =
        row_of_powers h (map-same (stored_power b h) (stored_power (with_record b height r) h) b.sets (λ t d lt. by t d lt))
      where
        by : (t : ℕ) (d : List Member) → t < length b.sets → stored_power b h (get_or b.sets t d) ≡ stored_power (with_record b height r) h (get_or b.sets t d)
        by t d lt = elim (cases_Bool (has_hash r.next (get_or b.sets t d))) [
          | inl has ↦
              let e : t ≡ s = one_place t d lt has in
              let at : get_or row.signed s None ≡ stored_power b h (get_or b.sets s d) = ap (λ (k : StoredRow). get_or k.signed s None) is ∙ get_or-map (stored_power b h) b.sets s d None place_within in
              let old = old_power h d (sym (ap (λ (o : Option ℕ). is_some o) at) ∙ kept) in
              subst (λ (n : ℕ). stored_power b h (get_or b.sets n d) ≡ stored_power (with_record b height r) h (get_or b.sets n d)) (sym e) (old ∙ sym (power_named h d above))
          | inr isnt ↦ power_not_named h (get_or b.sets t d) isnt
        ]

    pub stays_known : (h : Header) (row : StoredRow) → row ≡ stored_row_of b h → height < h.height → is_some (get_or row.signed s None) ≡ true → row ≡ stored_row_of (with_record b height r) h
    stays_known h row is above kept = is ∙ row_known h row above is kept

    -- each row has a signed power or none for each set
    pub place_in_row : (h : Header) (row : StoredRow) → row ≡ stored_row_of b h → s < length row.signed
    unfolding stored_row_of
    place_in_row h row is = omega (arith, ap (λ (k : StoredRow). length k.signed) is, length-map b.sets (stored_power b h), place_within)

-- ---- one more set

module _ (b : Book) (set : List Member) (new : set_of b (set_hash set) ≡ None) where
  other_hash : (h : Header) → IsBacked b h → has_hash h.set_hash set ≡ false
  other_hash h backed = elim (cases_Bool (has_hash h.set_hash set)) [
    | inl same ↦
        let e : set_hash set ≡ h.set_hash = (bytes_eq-Decides _ _).0 same in
        let none : ◌≡◌ {A = Option (List Member)} None (Some (own_set b h)) = sym new ∙ ap (set_of b) e ∙ own_known b h backed in
        absurd (cc)
    | inr other ↦ other
  ]

  own_after : (h : Header) → IsBacked b h → own_set (with_set b set) h ≡ own_set b h
  own_after h backed = ap (λ (o : Option (List Member)). unwrap_or o []) (set_elsewhere b set h.set_hash (other_hash h backed))

  -- the row with one more signed power
  pub row_with_set : (h : Header) (row : StoredRow) (at : ℕ) (power : Option ℕ) → IsBacked b h → row ≡ stored_row_of b h → at ≡ count_by (is_before (set_hash set)) b.sets → power ≡ stored_power b h set
      → ◌≡◌ {A = StoredRow} (record { size = row.size; is_signed = row.is_signed; signed = insert row.signed at power }) (stored_row_of (with_set b set) h)
  unfolding stored_row_of stored_power
  row_with_set h row at power backed is there sum =
      let own : own_set b h ≡ own_set (with_set b set) h = sym (own_after h backed) in
      let place = count_by (is_before (set_hash set)) b.sets in
      let more : insert (map (stored_power b h) b.sets) place (stored_power b h set) ≡ map (stored_power b h) (insert b.sets place set) = sym (map-insert (stored_power b h) b.sets place set) in
      let first : insert row.signed at power ≡ insert (map (stored_power b h) b.sets) place (stored_power b h set) = λ i. insert ((is i).signed) (there i) (sum i) in
      λ i. record {
        size = (ap (λ (k : StoredRow). k.size) is ∙ ap (λ (o : List Member). length o) own) i;
        is_signed = (ap (λ (k : StoredRow). k.is_signed) is ∙ ap (λ (o : List Member). exceeds (signed_power o o h) (total_of o) two_thirds) own) i;
        signed = (first ∙ more ∙ ap (λ (o : List Member). map (λ (t : List Member). cond (is_lower (first_naming b t) h.height) (Some (signed_power t o h)) None) (insert b.sets place set)) own) i;
      }

  -- the row without it
  pub row_without_set : (h : Header) (row : StoredRow) (at : ℕ) → IsBacked b h → row ≡ stored_row_of (with_set b set) h → at ≡ count_by (is_before (set_hash set)) b.sets
      → ◌≡◌ {A = StoredRow} (record { size = row.size; is_signed = row.is_signed; signed = remove row.signed at }) (stored_row_of b h)
  unfolding stored_row_of
  row_without_set h row at backed is there =
      let place = count_by (is_before (set_hash set)) b.sets in
      let whole : row ≡ record { size = (stored_row_of b h).size; is_signed = (stored_row_of b h).is_signed; signed = insert (stored_row_of b h).signed place (stored_power b h set) } =
      is ∙ sym (row_with_set h (stored_row_of b h) place (stored_power b h set) backed refl refl refl) in
      let fits : place ≤ length (map (stored_power b h) b.sets) = omega (arith, count_by-le-length (is_before (set_hash set)) b.sets, length-map b.sets (stored_power b h)) in
      λ i. record {
        size = (ap (λ (k : StoredRow). k.size) whole) i;
        is_signed = (ap (λ (k : StoredRow). k.is_signed) whole) i;
        signed = ((λ j. remove ((whole j).signed) (there j)) ∙ removed-insert (map (stored_power b h) b.sets) place (stored_power b h set) fits) i;
      }

  -- where the set's place is
  place_fits : count_by (is_before (set_hash set)) b.sets ≤ length b.sets
  place_fits = count_by-le-length (is_before (set_hash set)) b.sets

  -- and in a row
  pub place_fits_row : (h : Header) (row : StoredRow) (at : ℕ) → row ≡ stored_row_of b h → at ≡ count_by (is_before (set_hash set)) b.sets → at ≤ length row.signed
  unfolding stored_row_of
  place_fits_row h row at is there = omega (arith, there, place_fits, ap (λ (k : StoredRow). length k.signed) is, length-map b.sets (stored_power b h))

  -- and before the end of a row that has the set's
  pub place_before_row : (h : Header) (row : StoredRow) (at : ℕ) → row ≡ stored_row_of (with_set b set) h → at ≡ count_by (is_before (set_hash set)) b.sets → at < length row.signed
  unfolding stored_row_of
  place_before_row h row at is there = omega (
    arith,
    there,
    place_fits,
    ap (λ (k : StoredRow). length k.signed) is,
    length-map (insert b.sets (count_by (is_before (set_hash set)) b.sets) set) (stored_power (with_set b set) h),
    length-insert b.sets (count_by (is_before (set_hash set)) b.sets) set place_fits,
  )

  no_set : position (has_hash (set_hash set)) b.sets ≡ None
  no_set = position_none (λ (s t : List Member). is_before (set_hash t) s ≡ true) before_strict (has_hash (set_hash set)) b.sets new

  -- the place of a record's next set
  pub next_named : (k : RecordAt) → has_hash k.record_of.next set ≡ true → next_place (with_set b set) k ≡ Some (count_by (is_before (set_hash set)) b.sets)
  next_named k has =
      let same : set_hash set ≡ k.record_of.next = (bytes_eq-Decides _ _).0 has in
      position-insert_here (has_hash k.record_of.next) b.sets (count_by (is_before (set_hash set)) b.sets) set place_fits has
      (none_at (has_hash k.record_of.next) b.sets (subst (λ (hash : List ℕ). position (has_hash hash) b.sets ≡ None) same no_set))

  pub next_other : (k : RecordAt) (next : Option ℕ) → has_hash k.record_of.next set ≡ false → next ≡ next_place b k → option_map (moved (count_by (is_before (set_hash set)) b.sets)) next ≡ next_place (with_set b set) k
  next_other k next other is =
      ap (option_map (moved (count_by (is_before (set_hash set)) b.sets))) is
      ∙ sym (position-insert_other (has_hash k.record_of.next) b.sets (count_by (is_before (set_hash set)) b.sets) set place_fits other)

-- the place of a next set is no high number
pub next_few : (b : Book) (k : RecordAt) (next : Option ℕ) (place : ℕ) → IsBook b → next ≡ next_place b k → next ≡ Some place → place ≤ max_sets
next_few b k next place book is at = omega (arith, (position-Some (has_hash k.record_of.next) b.sets place [] (sym is ∙ at)).0, book.few_sets)

-- ---- a record that is known already, or is new

pub record_stays : (b : Book) (height : ℕ) (r : Record) → is_some (record_at b height) ≡ true → b ≡ after_record b height r
record_stays b height r known = sym (ap (λ (t : Bool). cond t b (with_record b height r)) known)

pub record_comes : (b : Book) (height : ℕ) (r : Record) → is_some (record_at b height) ≡ false → with_record b height r ≡ after_record b height r
record_comes b height r new = sym (ap (λ (t : Bool). cond t b (with_record b height r)) new)

pub some_map : {X Y : Type 0} (f : X → Y) (o : Option X) → is_some (option_map f o) ≡ is_some o
some_map f None = refl
some_map f (Some x) = refl

pub none_from : {X : Type 0} (o : Option X) → is_some o ≡ false → o ≡ None
none_from None e = refl
none_from (Some x) e = absurd (true≢false e)

pub record_makes_a_book : (b : Book) (height : ℕ) (r : Record) → IsBook b → record_refusal b height r ≡ None → is_some (record_at b height) ≡ false → IsBook (with_record b height r)
record_makes_a_book b height r book accepted new = subst IsBook (sym (record_comes b height r new)) ((stays_a_book b book).1 height r accepted)

-- the places of next sets, with those of a new record
pub places_with_record : (b : Book) (height place : ℕ) (r : Record) (next : Option ℕ) (places : List (Option ℕ)) → place ≡ count_by (is_below height) b.records → places ≡ next_places b → next ≡ position (has_hash r.next) b.sets
    → insert places place next ≡ next_places (with_record b height r)
places_with_record b height place r next places at is named =
    (λ i. insert (is i) (at i) (named i)) ∙ sym (map-insert (next_place b) b.records (count_by (is_below height) b.records) (record { height = height; record_of = r }))

-- the rows, where the record names no known set
pub rows_unnamed : (b : Book) (height : ℕ) (r : Record) (rows : List StoredRow) → IsBook b → IsBook (with_record b height r) → position (has_hash r.next) b.sets ≡ None → rows ≡ map (stored_row_of b) b.headers
    → rows ≡ map (stored_row_of (with_record b height r)) b.headers
rows_unnamed b height r rows book after none is = is ∙ map-same (stored_row_of b) (stored_row_of (with_record b height r)) b.headers (λ k d lt. row_unnamed b height r book after (get_or b.headers k d) none)

-- ---- one more set

pub lowest_with_set : (b : Book) (set : List Member) (lowest : List (Option ℕ)) (first : Option ℕ) (place : ℕ) → lowest ≡ map (first_naming b) b.sets → first ≡ first_naming b set → place ≡ count_by (is_before (set_hash set)) b.sets
    → insert lowest place first ≡ map (first_naming (with_set b set)) (with_set b set).sets
lowest_with_set b set lowest first place is at there =
    (λ i. insert (is i) (there i) (at i)) ∙ sym (map-insert (first_naming b) b.sets (count_by (is_before (set_hash set)) b.sets) set)

pub set_comes : (b : Book) (set : List Member) → set_of b (set_hash set) ≡ None → with_set b set ≡ after_set b set
set_comes b set new = sym (ap (λ (o : Option (List Member)). cond (is_some o) b (with_set b set)) new)

-- ---- one more header

pub headers_stay : (b : Book) (height : ℕ) (r : Record) → (after_record b height r).headers ≡ b.headers
headers_stay b height r = by (is_some (record_at b height)) refl
  where
    by : (t : Bool) → is_some (record_at b height) ≡ t → (after_record b height r).headers ≡ b.headers
    by true e = ap (λ (x : Book). x.headers) (sym (record_stays b height r e))
    by false e = ap (λ (x : Book). x.headers) (sym (record_comes b height r e))

pub sets_stay : (b : Book) (height : ℕ) (r : Record) → b.sets ≡ (after_record b height r).sets
sets_stay b height r = by (is_some (record_at b height)) refl
  where
    by : (t : Bool) → is_some (record_at b height) ≡ t → b.sets ≡ (after_record b height r).sets
    by true e = ap (λ (x : Book). x.sets) (record_stays b height r e)
    by false e = ap (λ (x : Book). x.sets) (record_comes b height r e)

-- its own record brings no cell to its row
row_beside_record : (b : Book) (height : ℕ) (r : Record) (h : Header) → IsBook b → record_refusal b height r ≡ None → h.height ≤ height → stored_row_of b h ≡ stored_row_of (after_record b height r) h
row_beside_record b height r h book accepted le = by (is_some (record_at b height)) refl
  where
    by : (t : Bool) → is_some (record_at b height) ≡ t → stored_row_of b h ≡ stored_row_of (after_record b height r) h
    by true e = ap (λ (x : Book). stored_row_of x h) (record_stays b height r e)
    by false e = row_below b height r book (record_makes_a_book b height r book accepted e) h le ∙ ap (λ (x : Book). stored_row_of x h) (record_comes b height r e)

module _ (b : Book) (h : Header) (accepted : header_refusal b h ≡ None) (unknown : header_at b h.height ≡ None) where
  with_header_is_after : with_header (after_record b h.height h.record_of) h ≡ after_header b h
  with_header_is_after = sym (ap (λ (o : Option Header). cond (is_some o) b (with_header (after_record b h.height h.record_of) h)) unknown)

  pub places_with_header : (places : List (Option ℕ)) → places ≡ next_places (after_record b h.height h.record_of) → places ≡ next_places (after_header b h)
  places_with_header places is = is ∙ ap next_places with_header_is_after

  pub sets_with_header : b.sets ≡ (after_header b h).sets
  sets_with_header = sets_stay b h.height h.record_of ∙ ap (λ (x : Book). x.sets) with_header_is_after

  pub lowest_with_header : (lowest : List (Option ℕ)) → lowest ≡ map (first_naming (after_record b h.height h.record_of)) b.sets → lowest ≡ map (first_naming (after_header b h)) (after_header b h).sets
  lowest_with_header lowest is =
      is
      ∙ ap (map (first_naming (after_record b h.height h.record_of))) (sets_stay b h.height h.record_of)
      ∙ ap (λ (x : Book). map (first_naming x) x.sets) with_header_is_after

  pub rows_with_header : (rows : List StoredRow) (place : ℕ) (row : StoredRow) → IsBook b → rows ≡ map (stored_row_of (after_record b h.height h.record_of)) b.headers
      → place ≡ count_by (header_is_below h.height) b.headers → row ≡ stored_row_of b h → insert rows place row ≡ map (stored_row_of (after_header b h)) (after_header b h).headers
  unfolding stored_row_of stored_power
  rows_with_header rows place row book are there is =
      let m : Book = after_record b h.height h.record_of in
      let same : row ≡ stored_row_of m h = is ∙ row_beside_record b h.height h.record_of h book (header_record_accepted b h unknown accepted) (omega arith) in
      let stay : b.headers ≡ m.headers = sym (headers_stay b h.height h.record_of) in
      (λ i. insert (are i) (there i) (same i))
      ∙ sym (map-insert (stored_row_of m) b.headers (count_by (header_is_below h.height) b.headers) h)
      ∙ ap (λ (hs : List Header). map (stored_row_of m) (insert hs (count_by (header_is_below h.height) hs) h)) stay
      ∙ ap (λ (x : Book). map (stored_row_of x) x.headers) with_header_is_after

-- ---- refusals

record_by : (o : Option Record) (b : Book) (height : ℕ) (r : Record) → record_refusal_beside o b height r ≡ Some NoMemory → ⊥
record_by (Some known) b height r q = by (same_record known r) q
  where
    by : (t : Bool) → unless t (Conflict height) None ≡ Some NoMemory → ⊥
    by true q = absurd (cc)
    by false q = absurd (cc)
record_by None b height r q = by (breaker b.records height r.time) (nat_lt (length b.records) b.limit) q
  where
    by : (o : Option ℕ) (t : Bool) → unless_none o TimeOrder (unless t Full None) ≡ Some NoMemory → ⊥
    by None true q = absurd (cc)
    by None false q = absurd (cc)
    by (Some n) t q = absurd (cc)

-- a refusal of the book is one of the table
pub record_refused : (b : Book) (height : ℕ) (r : Record) (e : BookError) → record_refusal b height r ≡ Some e → IsRefusal e (record_refusal b height r)
record_refused b height r e q = by e q
  where
    by : (e : BookError) → record_refusal b height r ≡ Some e → IsRefusal e (record_refusal b height r)
    by NoMemory q = absurd (record_by (record_at b height) b height r q)
    by UnknownSet q = q
    by WrongVerdictCount q = q
    by (BadVote n) q = q
    by (Conflict n) q = q
    by (TimeOrder n) q = q
    by Full q = q
    by HashClash q = q
