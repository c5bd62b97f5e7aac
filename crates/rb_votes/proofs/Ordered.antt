-- a list that is sorted by power falling, then by an order that the given voters rise in, is the given voters by power falling
use Rattle.std.proofs.Common.{◌≡◌, ℕ, ◌<◌, ◌≤◌, false, leb, List, [], ◌∷◌, get_or, refl, sym, ap, ◌∙◌, arith}
use Rattle.std.specs.List.{All, IsDistinct}
use Rattle.std.specs.List.Sorted.{IsPermutation, IsSortedBy}
use Rattle.std.specs.Ordering.{nat_cmp, is_lt, is_eq, eq_by_cmp, ordering_then, ordering_reverse}
use Rattle.std.specs.Cmp.{IsTotalOrder}
use Rattle.std.specs.declared.cmp.Ordering.{Ordering}
use Rattle.std.specs.declared.cmp.Ordering.TheVariants.{Less, Equal, Greater}
use Rattle.std.proofs.lemmas.Bool.{cond_both, leb-true, leb-false}
use Rattle.std.proofs.lemmas.Cmp.{nat_cmp_total, on_total, then_total, back_total, ranked, by_ranked}
use Rattle.std.proofs.lemmas.List.Elements.{All-nil, All-cons, All-head, All-tail, All-weaker, All-from_recursion}
use Rattle.std.proofs.lemmas.List.Sorted.{All-permutation, Contains-permutation, IsPermutation-sym, IsPermutation-trans, ranks_by, sorted_far}
use Rattle.std.proofs.lemmas.Map.Keys.{IsDistinct-from_apart, IsDistinct-IsPermutation, apart_from_distinct}
use Rattle.rb_votes.specs.declared.voter.Voter.{Voter}
use Rattle.rb_votes.specs.Places.{StandByPlace}
use Rattle.rb_votes.specs.Votes.{inserted, falling}
use Rattle.rb_votes.proofs.Orders.{inserted_same, falling_same}
use Rattle.rb_votes.proofs.Rising.{Rises, Rises-from_pairs, Rises-at, same_elements}

-- places rising
abbrev pub by_place : Voter → Voter → Ordering
by_place v w = nat_cmp v.place w.place

-- power falling, then as the other order has it
abbrev pub by_power : (Voter → ℕ) → (Voter → Voter → Ordering) → Voter → Voter → Ordering
by_power f base v w = ordering_then (nat_cmp (f w) (f v)) (base v w)

pub by_place_total : IsTotalOrder by_place
by_place_total = on_total (λ (v : Voter). v.place) nat_cmp_total

pub less_from : (a b : ℕ) → a < b → nat_cmp a b ≡ Less
less_from a b less =
    by_ranked (a < b) (a ≡ b) (b < a) (nat_cmp a b) (ranked a b (nat_cmp a b) refl)
    (λ e _. e) (λ _ same. absurd (omega (arith, less, same))) (λ _ more. absurd (omega (arith, less, more)))

then_Equal : (p q : Ordering) → ordering_then p q ≡ Equal → q ≡ Equal
then_Equal Less q e = cc
then_Equal Equal q e = e
then_Equal Greater q e = cc

unequal : (p : Ordering) → p ≡ Less → is_eq p ≡ false
unequal p less = ap is_eq less

turned : (p : Ordering) → is_eq (ordering_reverse p) ≡ is_eq p
turned Less = refl
turned Equal = refl
turned Greater = refl

-- voters that stand by their places rise in them
pub places_rise : (given : List Voter) → StandByPlace given → Rises by_place_total given
places_rise [] stand = tt
places_rise (v ∷ vs) stand = (
  All-weaker (λ w. v.place < w.place) (λ w. by_place v w ≡ Less) (λ w below. less_from v.place w.place below) vs (All-from_recursion (λ w. v.place < w.place) vs stand.0),
  places_rise vs stand.1,
)

module _ (f : Voter → ℕ) {base : Voter → Voter → Ordering} (o : IsTotalOrder base) where
  pub by_power_total : IsTotalOrder (by_power f base)
  by_power_total = then_total (back_total (on_total f nat_cmp_total)) o

  by_less : (v w : Voter) → f w < f v → by_power f base v w ≡ Less
  by_less v w less = ap (λ p. ordering_then p (base v w)) (less_from (f w) (f v) less)

  by_tie : (v w : Voter) → f w ≤ f v → base v w ≡ Less → by_power f base v w ≡ Less
  by_tie v w below less =
      by_ranked (f w < f v) (f w ≡ f v) (f v < f w) (nat_cmp (f w) (f v)) (ranked (f w) (f v) (nat_cmp (f w) (f v)) refl)
      (λ e _. ap (λ p. ordering_then p (base v w)) e)
      (λ e _. ap (λ p. ordering_then p (base v w)) e ∙ less)
      (λ _ more. absurd (omega (arith, below, more)))

  inserted_rises : (v : Voter) (ws : List Voter) → All (λ w. base v w ≡ Less) ws → Rises by_power_total ws → Rises by_power_total (inserted f v ws)
  inserted_rises v [] first rises = (All-nil (λ z. by_power f base v z ≡ Less), tt)
  inserted_rises v (w ∷ ws) first rises =
      cond_both (leb (f w) (f v)) (v ∷ w ∷ ws) (w ∷ inserted f v ws) (Rises by_power_total)
      (λ below. let before = by_tie v w (leb-true (f w) (f v) below) (All-head (λ z. base v z ≡ Less) w ws first) in (
        All-cons (λ z. by_power f base v z ≡ Less) w ws before
            (All-weaker (λ z. by_power f base w z ≡ Less) (λ z. by_power f base v z ≡ Less) (λ z later. by_power_total.trans v w z before later) ws rises.0),
        rises,
      ))
      (λ above. (
        All-permutation (λ z. by_power f base w z ≡ Less) (v ∷ ws) (inserted f v ws) (inserted_same f v ws)
            (All-cons (λ z. by_power f base w z ≡ Less) v ws (by_less w v (leb-false (f w) (f v) above)) rises.0),
        inserted_rises v ws (All-tail (λ z. base v z ≡ Less) w ws first) rises.1,
      ))

  pub falling_rises : (vs : List Voter) → Rises o vs → Rises by_power_total (falling f vs)
  falling_rises [] rises = tt
  falling_rises (v ∷ vs) rises =
      inserted_rises v (falling f vs) (All-permutation (λ w. base v w ≡ Less) vs (falling f vs) (falling_same f vs) rises.0) (falling_rises vs rises.1)

  -- one is before the other where it isn't after it, and they don't tie in the order of the voters
  before : (v w : Voter) (p q : Ordering) → by_power f base v w ≡ p → p ≡ ordering_reverse q → is_lt q ≡ false → is_eq (base v w) ≡ false → p ≡ Less
  before v w Less q e r g apart = refl
  before v w Equal q e r g apart = let tied = then_Equal (nat_cmp (f w) (f v)) (base v w) e in let is = sym (ap is_eq tied) ∙ apart in cc
  before v w Greater Less e r g apart = cc
  before v w Greater Equal e r g apart = cc
  before v w Greater Greater e r g apart = cc

  flips : (v w : Voter) → eq_by_cmp base v w ≡ eq_by_cmp base w v
  flips v w = ap is_eq (o.antisymm v w) ∙ turned (base w v)

  sorted_rises : (given sorted : List Voter) → Rises o given → IsPermutation given sorted → IsSortedBy (λ v w. is_lt (by_power f base v w)) sorted → Rises by_power_total sorted
  sorted_rises given sorted rises same ordered =
      let distinct : IsDistinct (eq_by_cmp base) given =
      IsDistinct-from_apart (eq_by_cmp base) given (λ i j d less within. unequal (base (get_or given i d) (get_or given j d)) (Rises-at o given rises i j d less within)) in
      let still : IsDistinct (eq_by_cmp base) sorted = IsDistinct-IsPermutation (eq_by_cmp base) flips given sorted same distinct in
      Rises-from_pairs by_power_total sorted (λ i j d less within.
      let v = get_or sorted i d in
      let w = get_or sorted j d in
      let far = sorted_far (λ x y. is_lt (by_power f base x y)) (ranks_by by_power_total (λ (x : Voter). x)) sorted ordered i j d (omega (arith, less)) within in
      before v w (by_power f base v w) (by_power f base w v) refl (by_power_total.antisymm v w) far
      (apart_from_distinct (eq_by_cmp base) sorted i j d still less within))

  pub sorted_falls : (given sorted : List Voter) → Rises o given → IsPermutation given sorted → IsSortedBy (λ v w. is_lt (by_power f base v w)) sorted → sorted ≡ falling f given
  sorted_falls given sorted rises same ordered =
      let moved = IsPermutation-trans sorted given (falling f given) (IsPermutation-sym given sorted same) (falling_same f given) in
      same_elements by_power_total sorted (falling f given) (sorted_rises given sorted rises same ordered) (falling_rises given rises)
      (λ z c. Contains-permutation sorted (falling f given) z moved c)
      (λ z c. Contains-permutation (falling f given) sorted z (IsPermutation-sym sorted (falling f given) moved) c)

-- sorted by power, ties by place
pub falling_is_sorted : (f : Voter → ℕ) (given sorted : List Voter) → StandByPlace given → IsPermutation given sorted
    → IsSortedBy (λ v w. is_lt (by_power f by_place v w)) sorted → sorted ≡ falling f given
falling_is_sorted f given sorted stand same ordered = sorted_falls f by_place_total given sorted (places_rise given stand) same ordered
