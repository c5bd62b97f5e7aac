-- Halves of gaps.
use Rattle.std.proofs.Common.{◌-◌, ◌/◌, ◌^◌, ◌*◌, ◌<◌, ◌≤◌, ◌≡◌, ◌⊎◌, ℕ, zero, suc, inl, inr, refl, ap, ◌∙◌, arith}
use Rattle.std.specs.Prelude.{Option, unwrap_or}
use Rattle.std.proofs.Math.Nat.{le-mul_of_pos_right, mul_assoc, mul-le-mul_left, pow-suc}
use Rattle.rb_want_requests.specs.Halving.{IsClosedBy}
use Rattle.rb_want_requests.specs.Search.{HalvesGap, IsFloor, IsGapAfter, IsNotAccepted, Judgements, middle_of}
use Rattle.rb_want_requests.specs.declared.judge.StepJudgement.TheVariants.{Accepted, Gone, Refused}
use Rattle.rb_want_requests.specs.declared.searching.Aim.{Aim}

-- a half of a gap of at most 2^(k+1) heights has at most 2^k
pub short : (k width : ℕ) → width ≤ 2 ^ k → IsClosedBy k width
short zero width small = small
short (suc k) width small =
    let twice : 2 ^ suc k ≡ 2 ^ k * 2 = pow-suc 2 k in inr (short k (width / 2) (omega (arith, small, twice)), short k (width - width / 2) (omega (arith, small, twice)))

-- so many halvings leave this gap, of which all but one of the heights, 2^k times, are fewer than those between the trusted one and the aim's greatest
abbrev pub IsGap : Judgements → Aim → ℕ → ℕ → ℕ → Type 0
IsGap judges aim trusted floor ceiling =
    (halvings : ℕ) × IsGapAfter judges aim trusted halvings floor ceiling × (2 ^ halvings * (ceiling - floor - 1) < aim.most - trusted)

-- a half is narrow
narrower : (p q w v n : ℕ) → q ≡ p * 2 → p * (w - 1) < n → v ≤ w - w / 2 → q * (v - 1) < n
narrower p q w v n twice small half =
    let low : 2 * (v - 1) ≤ w - 1 = omega (arith, half) in
    let less : p * (2 * (v - 1)) ≤ p * (w - 1) = mul-le-mul_left p low in
    let same : q * (v - 1) ≡ p * (2 * (v - 1)) = ap (λ x. x * (v - 1)) twice ∙ mul_assoc p 2 (v - 1) in
    omega (arith, less, same, small)

-- a gap with a middle is left by few halvings
few : (p w n : ℕ) → p * (w - 1) < n → 1 < w → p < n
few p w n small wide = let one : p ≤ p * (w - 1) = le-mul_of_pos_right p (omega (arith, wide)) in omega (arith, one, small)

-- no halving leaves the whole gap
pub whole : (judges : Judgements) (aim : Aim) (trusted : ℕ) → trusted < aim.most → IsGap judges aim trusted trusted aim.most
whole judges aim trusted less = (0, (refl, refl), omega (arith, less))

-- the upper half
pub upper : (judges : Judgements) (aim : Aim) (trusted floor ceiling height : ℕ) → IsGap judges aim trusted floor ceiling → floor < height → height < ceiling
    → height ≡ middle_of floor ceiling → judges trusted height Accepted ⊎ judges trusted height Gone → IsGap judges aim trusted height ceiling
upper judges aim trusted floor ceiling height (k, gap, small) low high is judged = (
  suc k,
  (floor, ceiling, gap, (omega (arith, low, high), inl (is, refl, judged))),
  narrower (2 ^ k) (2 ^ suc k) (ceiling - floor) (ceiling - height) (aim.most - trusted) (pow-suc 2 k) small (omega (arith, is, low, high)),
)

-- the lower half
pub lower : (judges : Judgements) (aim : Aim) (trusted floor ceiling height : ℕ) → IsGap judges aim trusted floor ceiling → floor < height → height < ceiling
    → height ≡ middle_of floor ceiling → judges trusted height Refused → IsGap judges aim trusted floor height
lower judges aim trusted floor ceiling height (k, gap, small) low high is judged = (
  suc k,
  (floor, ceiling, gap, (omega (arith, low, high), inr (refl, is, judged))),
  narrower (2 ^ k) (2 ^ suc k) (ceiling - floor) (height - floor) (aim.most - trusted) (pow-suc 2 k) small (omega (arith, is, low, high)),
)

-- the middle is what is asked for
pub halves : (judges : Judgements) (aim : Aim) (trusted floor ceiling height : ℕ) (accepted : Option ℕ) → IsGap judges aim trusted floor ceiling
    → floor < height → height < ceiling → height ≡ middle_of floor ceiling → IsNotAccepted judges trusted ceiling
    → IsFloor judges trusted (unwrap_or accepted trusted) floor → HalvesGap judges aim trusted height accepted ceiling
halves judges aim trusted floor ceiling height accepted (k, gap, small) low high is refused from =
    (refused, (k, floor, gap, few (2 ^ k) (ceiling - floor) (aim.most - trusted) small (omega (arith, low, high)), from, omega (arith, low, high), is))
