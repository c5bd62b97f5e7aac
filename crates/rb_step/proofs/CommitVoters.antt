-- a header's commit voters, with their places and their powers
use Rattle.std.proofs.Common.{◌≡◌, ◌≢◌, ℕ, zero, suc, ◌+◌, ◌<◌, ◌≤◌, Bool, true, false, cond, ◌||◌, List, [], ◌∷◌, Option, Some, None, length, get_or, drop, map, filter, find, sum_by, refl, sym, ap, ◌∙◌, subst, inl, inr, arith}
use Rattle.std.specs.Prelude.{AllPairs}
use Rattle.std.specs.List.{All, zip}
use Rattle.std.specs.Option.{option_map_or}
use Rattle.std.specs.Ordering.{nat_cmp, is_lt, ordering_then}
use Rattle.std.specs.Str.{bytes_eq}
use Rattle.std.proofs.lemmas.Bool.{cond_both, cond-true, cond-false, cases_Bool, false_from_ne_true}
use Rattle.std.specs.Cmp.{IsTotalOrder}
use Rattle.std.proofs.lemmas.Cmp.{ranked, by_ranked, nat_cmp_total, nat_list_cmp_total, on_total, then_total, back_total}
use Rattle.std.proofs.lemmas.List.{drop_more, drop_all}
use Rattle.std.proofs.lemmas.List.Elements.{All-nil, All-cons, All-head, All-tail, All-weaker, recursion_from_All}
use Rattle.std.proofs.lemmas.List.Sorted.{ranks_by, sorted_far}
use Rattle.std.proofs.lemmas.List.Sums.{sum_by-cons}
use Rattle.std.proofs.lemmas.Slice.Eq.{bytes_eq-Decides}
use Rattle.rb_valset.specs.Validator.{Member, address_of, has_address}
use Rattle.rb_valset.specs.ValidatorSet.{set_cmp, address_cmp, DistinctAddresses, InSetOrder, IsValidatorSet}
use Rattle.rb_book.specs.Header.{Header, is_commit}
use Rattle.rb_book.specs.declared.vote.Vote.{Vote}
use Rattle.rb_votes.specs.declared.voter.Voter.{Voter}
use Rattle.rb_votes.specs.Places.{StandByPlace}
use Rattle.rb_votes.specs.Votes.{falling}
use Rattle.rb_votes.proofs.Orders.{IsFalling, falling_keeps}
use Rattle.rb_step.specs.Carried.{power_in, voters_from, voters_of}
use Rattle.rb_step.specs.SignedPower.{commit_voters, is_among, signed_power}
use Rattle.rb_step.proofs.Voters.{lent, signed_power-lent}

module _ (next : Option (List Member)) where
  abbrev pub voter : ℕ → Member → Voter
  voter place m = record { place = place; own = m.power; trusted = power_in next m }

  -- what holds of all members holds of the voters among them
  pub all_voters : (P : Member → Type 0) (Q : Voter → Type 0) → ((place : ℕ) (m : Member) → P m → Q (voter place m))
      → (place : ℕ) (ms : List Member) (vs : List Vote) → All P ms → All Q (voters_from place next ms vs)
  all_voters P Q each place [] vs all = All-nil Q
  all_voters P Q each place (m ∷ ms) [] all = All-nil Q
  all_voters P Q each place (m ∷ ms) (v ∷ vs) all =
      let rest = all_voters P Q each (place + 1) ms vs (All-tail P m ms all) in
      cond_both (is_commit v) (voter place m ∷ voters_from (place + 1) next ms vs) (voters_from (place + 1) next ms vs) (All Q)
      (λ _. All-cons Q (voter place m) (voters_from (place + 1) next ms vs) (each place m (All-head P m ms all)) rest) (λ _. rest)

  pub few_voters : (place : ℕ) (ms : List Member) (vs : List Vote) → length (voters_from place next ms vs) ≤ length ms
  few_voters place [] vs = omega arith
  few_voters place (m ∷ ms) [] = omega arith
  few_voters place (m ∷ ms) (v ∷ vs) =
      let rest = few_voters (place + 1) ms vs in
      cond_both (is_commit v) (voter place m ∷ voters_from (place + 1) next ms vs) (voters_from (place + 1) next ms vs) (λ ws. length ws ≤ length (m ∷ ms))
      (λ _. omega (arith, rest)) (λ _. omega (arith, rest))

  -- ---- their places

  places_within : (place : ℕ) (ms : List Member) (vs : List Vote) → All (λ w. (place ≤ w.place) × (w.place < place + length ms)) (voters_from place next ms vs)
  places_within place [] vs = All-nil (λ w. (place ≤ w.place) × (w.place < place + 0))
  places_within place (m ∷ ms) [] = All-nil (λ w. (place ≤ w.place) × (w.place < place + length (m ∷ ms)))
  places_within place (m ∷ ms) (v ∷ vs) =
      let within : Voter → Type 0 = λ w. (place ≤ w.place) × (w.place < place + length (m ∷ ms)) in
      let rest : All within (voters_from (place + 1) next ms vs) =
      All-weaker (λ w. (place + 1 ≤ w.place) × (w.place < place + 1 + length ms)) within
      (λ w h. (omega (arith, h.0), omega (arith, h.1))) (voters_from (place + 1) next ms vs) (places_within (place + 1) ms vs) in
      cond_both (is_commit v) (voter place m ∷ voters_from (place + 1) next ms vs) (voters_from (place + 1) next ms vs) (All within)
      (λ _. All-cons within (voter place m) (voters_from (place + 1) next ms vs) (omega arith, omega arith) rest) (λ _. rest)

  pub voters_stand : (place : ℕ) (ms : List Member) (vs : List Vote) → StandByPlace (voters_from place next ms vs)
  voters_stand place [] vs = tt
  voters_stand place (m ∷ ms) [] = tt
  voters_stand place (m ∷ ms) (v ∷ vs) =
      let rest = voters_stand (place + 1) ms vs in
      let later : All (λ u. place < u.place) (voters_from (place + 1) next ms vs) =
      All-weaker (λ w. (place + 1 ≤ w.place) × (w.place < place + 1 + length ms)) (λ u. place < u.place) (λ w h. omega (arith, h.0))
      (voters_from (place + 1) next ms vs) (places_within (place + 1) ms vs) in
      cond_both (is_commit v) (voter place m ∷ voters_from (place + 1) next ms vs) (voters_from (place + 1) next ms vs) StandByPlace
      (λ _. (recursion_from_All (λ u. place < u.place) (voters_from (place + 1) next ms vs) later, rest)) (λ _. rest)

  pub places_below : (h : Header) (own : List Member) → All (λ w. w.place < length own) (voters_of next h own)
  places_below h own =
      All-weaker (λ w. (0 ≤ w.place) × (w.place < 0 + length own)) (λ w. w.place < length own) (λ w both. omega (arith, both.1))
      (voters_of next h own) (places_within 0 own h.votes)

  -- ---- their own power falls

  abbrev Falls : List Member → Type 0
  Falls [] = Unit {0}
  Falls (m ∷ ms) = All (λ n. n.power ≤ m.power) ms × Falls ms

  voters_fall : (place : ℕ) (ms : List Member) (vs : List Vote) → Falls ms → IsFalling (λ v. v.own) (voters_from place next ms vs)
  voters_fall place [] vs falls = tt
  voters_fall place (m ∷ ms) [] falls = tt
  voters_fall place (m ∷ ms) (v ∷ vs) falls =
      let rest = voters_fall (place + 1) ms vs falls.1 in
      cond_both (is_commit v) (voter place m ∷ voters_from (place + 1) next ms vs) (voters_from (place + 1) next ms vs) (IsFalling (λ w. w.own))
      (λ _. (all_voters (λ n. n.power ≤ m.power) (λ w. w.own ≤ m.power) (λ _ n below. below) (place + 1) ms vs falls.0, rest)) (λ _. rest)

  not_less : (m n : Member) → is_lt (set_cmp n m) ≡ false → n.power ≤ m.power
  not_less m n not =
      by_ranked (m.power < n.power) (m.power ≡ n.power) (n.power < m.power) (nat_cmp m.power n.power) (ranked m.power n.power (nat_cmp m.power n.power) refl)
      (λ e _. let less : is_lt (set_cmp n m) ≡ true = ap (λ p. is_lt (ordering_then p (address_cmp n m))) e in let never = sym not ∙ less in absurd (cc))
      (λ _ same. omega (arith, same)) (λ _ more. omega (arith, more))

  set_cmp_total : IsTotalOrder set_cmp
  set_cmp_total = then_total (back_total (on_total (λ (m : Member). m.power) nat_cmp_total)) (on_total (λ (m : Member). address_of m.key) nat_list_cmp_total)

  falls_from : (ms : List Member) → AllPairs (λ m n. n.power ≤ m.power) ms → Falls ms
  falls_from [] pairs = tt
  falls_from (m ∷ ms) pairs = (
    λ k d within. pairs 0 (suc k) d (omega arith) (omega (arith, within)),
    falls_from ms (λ i j d less within. pairs (suc i) (suc j) d (omega (arith, less)) (omega (arith, within))),
  )

  set_falls : (ms : List Member) → InSetOrder ms → Falls ms
  set_falls ms ordered =
      falls_from ms (λ i j d less within.
      not_less (get_or ms i d) (get_or ms j d)
      (sorted_far (λ x y. is_lt (set_cmp x y)) (ranks_by set_cmp_total (λ (m : Member). m)) ms ordered i j d (omega (arith, less)) within))

  -- the voters stand by own power falling
  pub voters_keep : (h : Header) (own : List Member) → IsValidatorSet own → falling (λ v. v.own) (voters_of next h own) ≡ voters_of next h own
  voters_keep h own valid = falling_keeps (λ v. v.own) (voters_of next h own) (voters_fall 0 own h.votes (set_falls own valid.ordered))

-- ---- one by one

-- those from a place on
abbrev pub voters_at : Option (List Member) → List Member → Header → ℕ → List Voter
voters_at next own h place = voters_from place next (drop place own) (drop place h.votes)

module _ (next : Option (List Member)) (own : List Member) (h : Header) (items : List Member) (votes : List Vote) (place : ℕ) (m : Member) (v : Vote) (commits : Bool)
    (same : items ≡ own) (same_votes : votes ≡ h.votes) (signed : length h.votes ≡ length own) (within : place < length items) (is : m ≡ get_or items place m)
    (vote : commits ≡ is_commit (get_or votes place v)) where
  one_more : voters_at next own h place ≡ cond commits (voter next place m ∷ voters_at next own h (place + 1)) (voters_at next own h (place + 1))
  one_more =
      let later = voters_at next own h (place + 1) in
      let inside : place < length own = (let e = ap (λ ms. length ms) same in omega (arith, within, e)) in
      let there : get_or own place m ≡ m = sym (is ∙ ap (λ ms. get_or ms place m) same) in
      let commit : is_commit (get_or h.votes place v) ≡ commits = sym (vote ∙ ap (λ vs. is_commit (get_or vs place v)) same_votes) in
      ap (λ ms. voters_from place next ms (drop place h.votes)) (drop_more own place m inside ∙ ap (λ n. n ∷ drop (place + 1) own) there)
      ∙ ap (λ vs. voters_from place next (m ∷ drop (place + 1) own) vs) (drop_more h.votes place v (omega (arith, inside, signed)))
      ∙ ap (λ b. cond b (voter next place m ∷ later) later) commit

  pub one_votes : commits ≡ true → voters_at next own h place ≡ voter next place m ∷ voters_at next own h (place + 1)
  one_votes holds = one_more ∙ cond-true commits (voter next place m ∷ voters_at next own h (place + 1)) (voters_at next own h (place + 1)) holds

  pub one_passes : commits ≡ false → voters_at next own h place ≡ voters_at next own h (place + 1)
  one_passes fails = one_more ∙ cond-false commits (voter next place m ∷ voters_at next own h (place + 1)) (voters_at next own h (place + 1)) fails

-- at the end none is left
pub none_left : (next : Option (List Member)) (own : List Member) (h : Header) (place : ℕ) → length own ≤ place → voters_at next own h place ≡ []
none_left next own h place past = ap (λ ms. voters_from place next ms (drop place h.votes)) (drop_all place own past)

-- ---- a member by its address

flip_bytes : (a b : List ℕ) → bytes_eq a b ≡ bytes_eq b a
flip_bytes a b = elim (cases_Bool (bytes_eq a b)) [
  | inl holds ↦ holds ∙ sym ((bytes_eq-Decides b a).1 (sym ((bytes_eq-Decides a b).0 holds)))
  | inr fails ↦ fails ∙ sym (false_from_ne_true (bytes_eq b a) (λ holds. let back = (bytes_eq-Decides a b).1 (sym ((bytes_eq-Decides b a).0 holds)) in let never = sym fails ∙ back in cc))
]

not_same : (a b : List ℕ) → a ≢ b → bytes_eq a b ≡ false
not_same a b differ = false_from_ne_true (bytes_eq a b) (λ holds. differ ((bytes_eq-Decides a b).0 holds))

distinct_tail : (m : Member) (ms : List Member) → DistinctAddresses (m ∷ ms) → DistinctAddresses ms
distinct_tail m ms distinct i j d less within = distinct (suc i) (suc j) d (omega (arith, less)) (omega (arith, within))

distinct_head : (m : Member) (ms : List Member) → DistinctAddresses (m ∷ ms) → All (λ n. address_of m.key ≢ address_of n.key) ms
distinct_head m ms distinct k d within = distinct 0 (suc k) d (omega arith) (omega (arith, within))

-- the member at a place is the one with its address
pub member_at : (a : List ℕ) (ms : List Member) (k : ℕ) (d : Member) → DistinctAddresses ms → k < length ms → has_address a (get_or ms k d) ≡ true
    → find (has_address a) ms ≡ Some (get_or ms k d)
member_at a [] k d distinct within is = absurd (omega (arith, within))
member_at a (m ∷ ms) zero d distinct within is = cond-true (has_address a m) (Some m) (find (has_address a) ms) is
member_at a (m ∷ ms) (suc k) d distinct within is =
    let same : address_of (get_or ms k d).key ≡ a = (bytes_eq-Decides _ _).0 is in
    let other : has_address a m ≡ false = not_same (address_of m.key) a (λ e. distinct 0 (suc k) d (omega arith) within (e ∙ sym same)) in
    cond-false (has_address a m) (Some m) (find (has_address a) ms) other
    ∙ member_at a ms k d (distinct_tail m ms distinct) (omega (arith, within)) is

-- so the power of a member's address is that of the one at the place with it
pub power_at : (ms : List Member) (m : Member) (k : ℕ) (d : Member) → DistinctAddresses ms → k < length ms → address_of (get_or ms k d).key ≡ address_of m.key
    → (get_or ms k d).power ≡ power_in (Some ms) m
power_at ms m k d distinct within same =
    sym (ap (λ (o : Option Member). option_map_or (λ (x : Member). x.power) o 0) (member_at (address_of m.key) ms k d distinct within ((bytes_eq-Decides _ _).1 same)))

pub power_same : (ms items : List Member) (m same : Member) (k : ℕ) → DistinctAddresses ms → items ≡ ms → k < length items → same ≡ get_or items k same → address_of same.key ≡ address_of m.key
    → same.power ≡ power_in (Some ms) m
power_same ms items m same k distinct is within read address =
    let read' : same ≡ get_or ms k same = read ∙ ap (λ (xs : List Member). get_or xs k same) is in
    let inside : k < length ms = (let e = ap (λ (xs : List Member). length xs) is in omega (arith, within, e)) in
    ap (λ (x : Member). x.power) read' ∙ power_at ms m k same distinct inside (ap (λ (x : Member). address_of x.key) (sym read') ∙ address)

-- ---- what they hold of a set

-- the elements whose vote is a commit
abbrev voters : {X : Type 0} → List X → List Vote → List X
voters {X} xs vs = map (λ (p : X × Vote). p.0) (filter (λ (p : X × Vote). is_commit p.1) (zip xs vs))

abbrev one_or : {X : Type 0} → Bool → X → List X → List X
one_or b x xs = cond b (x ∷ xs) xs

voters-cons : {X : Type 0} (x : X) (v : Vote) (xs : List X) (vs : List Vote) → voters (x ∷ xs) (v ∷ vs) ≡ one_or (is_commit v) x (voters xs vs)
voters-cons {X} x v xs vs =
    elim (is_commit v) as (λ (b : Bool). map (λ (q : X × Vote). q.0) (cond b ((x, v) ∷ filter (λ (q : X × Vote). is_commit q.1) (zip xs vs)) (filter (λ (q : X × Vote). is_commit q.1) (zip xs vs))) ≡ one_or b x (voters xs vs)) [
      | true ↦ refl
      | false ↦ refl
    ]

all_of_voters : (P : Member → Type 0) (ms : List Member) (vs : List Vote) → All P ms → All P (voters ms vs)
all_of_voters P [] vs all = All-nil P
all_of_voters P (m ∷ ms) [] all = All-nil P
all_of_voters P (m ∷ ms) (v ∷ vs) all =
    let rest = all_of_voters P ms vs (All-tail P m ms all) in
    subst (All P) (sym (voters-cons m v ms vs))
    (cond_both (is_commit v) (m ∷ voters ms vs) (voters ms vs) (All P) (λ _. All-cons P m (voters ms vs) (All-head P m ms all) rest) (λ _. rest))

-- each differs from all later ones
abbrev Apart : List Member → Type 0
Apart [] = Unit {0}
Apart (m ∷ ms) = All (λ n. address_of m.key ≢ address_of n.key) ms × Apart ms

apart_from : (ms : List Member) → DistinctAddresses ms → Apart ms
apart_from [] distinct = tt
apart_from (m ∷ ms) distinct = (distinct_head m ms distinct, apart_from ms (distinct_tail m ms distinct))

voters_apart : (ms : List Member) (vs : List Vote) → Apart ms → Apart (voters ms vs)
voters_apart [] vs apart = tt
voters_apart (m ∷ ms) [] apart = tt
voters_apart (m ∷ ms) (v ∷ vs) apart =
    let rest = voters_apart ms vs apart.1 in
    subst Apart (sym (voters-cons m v ms vs))
    (cond_both (is_commit v) (m ∷ voters ms vs) (voters ms vs) Apart (λ _. (all_of_voters (λ n. address_of m.key ≢ address_of n.key) ms vs apart.0, rest)) (λ _. rest))

-- the powers of the voters are those of the members who voted
module _ (next : Option (List Member)) (f : Voter → ℕ) (g : Member → ℕ) (each : (place : ℕ) (m : Member) → f (voter next place m) ≡ g m) where
  sum_voters : (place : ℕ) (ms : List Member) (vs : List Vote) → sum_by f (voters_from place next ms vs) ≡ sum_by g (voters ms vs)
  sum_voters place [] vs = refl
  sum_voters place (m ∷ ms) [] = refl
  sum_voters place (m ∷ ms) (v ∷ vs) =
      let rest = sum_voters (place + 1) ms vs in
      by (is_commit v) rest ∙ sym (ap (λ xs. sum_by g xs) (voters-cons m v ms vs))
    where
      by : (b : Bool) → sum_by f (voters_from (place + 1) next ms vs) ≡ sum_by g (voters ms vs)
          → sum_by f (cond b (voter next place m ∷ voters_from (place + 1) next ms vs) (voters_from (place + 1) next ms vs)) ≡ sum_by g (one_or b m (voters ms vs))
      by true rest = omega (arith, rest, each place m, sum_by-cons f (voter next place m) (voters_from (place + 1) next ms vs), sum_by-cons g m (voters ms vs))
      by false rest = rest

sum_same : (f g : Member → ℕ) (ms : List Member) → All (λ m. f m ≡ g m) ms → sum_by f ms ≡ sum_by g ms
sum_same f g [] all = refl
sum_same f g (m ∷ ms) all =
    omega (arith, sum_by-cons f m ms, sum_by-cons g m ms, All-head (λ n. f n ≡ g n) m ms all, sum_same f g ms (All-tail (λ n. f n ≡ g n) m ms all))

sum_none : (f : Member → ℕ) (ms : List Member) → All (λ m. f m ≡ 0) ms → sum_by f ms ≡ 0
sum_none f [] all = refl
sum_none f (m ∷ ms) all = omega (arith, sum_by-cons f m ms, All-head (λ n. f n ≡ 0) m ms all, sum_none f ms (All-tail (λ n. f n ≡ 0) m ms all))

sum_both : (f g k : Member → ℕ) (ms : List Member) → ((m : Member) → k m ≡ f m + g m) → sum_by k ms ≡ sum_by f ms + sum_by g ms
sum_both f g k [] each = refl
sum_both f g k (m ∷ ms) each = omega (arith, sum_by-cons f m ms, sum_by-cons g m ms, sum_by-cons k m ms, each m, sum_both f g k ms each)

-- the power of the members with a member's address
abbrev theirs : Member → Member → ℕ
theirs c m = cond (has_address (address_of m.key) c) m.power 0

theirs_none : (c m : Member) → address_of c.key ≢ address_of m.key → theirs c m ≡ 0
theirs_none c m differ = cond-false (has_address (address_of m.key) c) m.power 0 (not_same (address_of c.key) (address_of m.key) differ)

-- it is that of the one that is found by it
one_power : (n : List Member) (c : Member) → DistinctAddresses n → sum_by (theirs c) n ≡ power_in (Some n) c
one_power [] c distinct = refl
one_power (m ∷ ms) c distinct = elim (cases_Bool (has_address (address_of c.key) m)) [
  | inl holds ↦ (
      let same : address_of m.key ≡ address_of c.key = (bytes_eq-Decides _ _).0 holds in
      let others = sum_none (theirs c) ms
      (All-weaker (λ x. address_of m.key ≢ address_of x.key) (λ x. theirs c x ≡ 0) (λ x differ. theirs_none c x (λ e. differ (same ∙ e))) ms (distinct_head m ms distinct)) in
      let mine : theirs c m ≡ m.power = cond-true (has_address (address_of m.key) c) m.power 0 (flip_bytes (address_of c.key) (address_of m.key) ∙ holds) in
      let first = ap (λ (o : Option Member). option_map_or (λ (x : Member). x.power) o 0) (cond-true (has_address (address_of c.key) m) (Some m) (find (has_address (address_of c.key)) ms) holds) in
      omega (arith, sum_by-cons (theirs c) m ms, others, mine, first)
      )
  | inr fails ↦ (
      let mine : theirs c m ≡ 0 = cond-false (has_address (address_of m.key) c) m.power 0 (flip_bytes (address_of c.key) (address_of m.key) ∙ fails) in
      let first = ap (λ (o : Option Member). option_map_or (λ (x : Member). x.power) o 0) (cond-false (has_address (address_of c.key) m) (Some m) (find (has_address (address_of c.key)) ms) fails) in
      omega (arith, sum_by-cons (theirs c) m ms, one_power ms c (distinct_tail m ms distinct), mine, first)
      )
]

not_among : (cs : List Member) (m : Member) → All (λ n. address_of n.key ≢ address_of m.key) cs → is_among cs m ≡ false
not_among [] m all = refl
not_among (c ∷ cs) m all =
    let here' = not_same (address_of c.key) (address_of m.key) (All-head (λ n. address_of n.key ≢ address_of m.key) c cs all) in
    ap (λ b. b || is_among cs m) here' ∙ not_among cs m (All-tail (λ n. address_of n.key ≢ address_of m.key) c cs all)

-- one voter more lends what is its own
lent_one : (c : Member) (cs : List Member) (m : Member) → All (λ n. address_of c.key ≢ address_of n.key) cs → lent (c ∷ cs) m ≡ theirs c m + lent cs m
lent_one c cs m apart = by (has_address (address_of m.key) c) refl
  where
    by : (b : Bool) → has_address (address_of m.key) c ≡ b → cond (b || is_among cs m) m.power 0 ≡ cond b m.power 0 + lent cs m
    by false is = omega arith
    by true is =
        let same : address_of c.key ≡ address_of m.key = (bytes_eq-Decides _ _).0 is in
        let none = not_among cs m (All-weaker (λ n. address_of c.key ≢ address_of n.key) (λ n. address_of n.key ≢ address_of m.key) (λ n differ e. differ (same ∙ sym e)) cs apart) in
        let zero' = cond-false (is_among cs m) m.power 0 none in
        omega (arith, zero')

lent_power : (n cs : List Member) → DistinctAddresses n → Apart cs → sum_by (lent cs) n ≡ sum_by (power_in (Some n)) cs
lent_power n [] distinct apart = sum_none (lent []) n (λ k d within. refl)
lent_power n (c ∷ cs) distinct apart =
    omega (
      arith,
      sum_both (theirs c) (lent cs) (lent (c ∷ cs)) n (λ m. lent_one c cs m apart.0),
      one_power n c distinct,
      lent_power n cs distinct apart.1,
      sum_by-cons (power_in (Some n)) c cs,
    )

-- the voters' power in the next set is what that set lends to the header
pub trusted_power : (n own : List Member) (h : Header) → IsValidatorSet n → IsValidatorSet own → sum_by (λ v. v.trusted) (voters_of (Some n) h own) ≡ signed_power n own h
trusted_power n own h next_valid valid =
    sum_voters (Some n) (λ v. v.trusted) (power_in (Some n)) (λ _ _. refl) 0 own h.votes
    ∙ sym (lent_power n (commit_voters own h) next_valid.distinct (voters_apart own h.votes (apart_from own valid.distinct)))
    ∙ sym (signed_power-lent n own h)

-- and their own power what the own set lends
pub own_power : (next : Option (List Member)) (own : List Member) (h : Header) → IsValidatorSet own → sum_by (λ v. v.own) (voters_of next h own) ≡ signed_power own own h
own_power next own h valid =
    let found : All (λ m. m.power ≡ power_in (Some own) m) own =
    λ k d within.
    sym (ap (λ (o : Option Member). option_map_or (λ (x : Member). x.power) o 0)
    (member_at (address_of (get_or own k d).key) own k d valid.distinct within ((bytes_eq-Decides (address_of (get_or own k d).key) (address_of (get_or own k d).key)).1 refl))) in
    sum_voters next (λ v. v.own) (λ m. m.power) (λ _ _. refl) 0 own h.votes
    ∙ sum_same (λ m. m.power) (power_in (Some own)) (commit_voters own h) (all_of_voters (λ m. m.power ≡ power_in (Some own) m) own h.votes found)
    ∙ sym (lent_power own (commit_voters own h) valid.distinct (voters_apart own h.votes (apart_from own valid.distinct)))
    ∙ sym (signed_power-lent own own h)

-- where no set is known they have no power of it
pub no_power : (own : List Member) (h : Header) → sum_by (λ v. v.trusted) (voters_of None h own) ≡ 0
no_power own h =
    sum_voters None (λ v. v.trusted) (λ _. 0) (λ _ _. refl) 0 own h.votes ∙ sum_none (λ _. 0) (commit_voters own h) (λ k d within. refl)
