-- The least unit, step by step.
use Rattle.std.proofs.Common.{◌≡◌, ℕ, suc, ◌+◌, ◌*◌, ◌/◌, ◌^◌, ◌<◌, ◌≤◌, false, nat_le, refl, subst, sym, ap, ◌∙◌, arith, add-one, pow-suc, lit<}
use Rattle.std.proofs.lemmas.Bool.{le-leb, false_from_ne_true, leb-true}
use Rattle.std.proofs.Math.Nat.{one-le-pow, pow-le-pow_right}
use Rattle.rb_import_setup.specs.HermesFees.{max_fee, unit_from}

pub unit_from-here : (n unit amount : ℕ) → 0 < n → amount / unit ≤ max_fee → unit_from n unit amount ≡ unit
unfolding unit_from
unit_from-here ℕ.zero unit amount more h = refl
unit_from-here (suc n) unit amount more h = rw (le-leb (amount / unit) max_fee h) refl

next : (n unit amount : ℕ) → max_fee < amount / unit → unit_from (suc n) unit amount ≡ unit_from n (unit * 10) amount
unfolding unit_from
next n unit amount h =
    let no : nat_le (amount / unit) max_fee ≡ false = false_from_ne_true _ (λ e. let small = leb-true (amount / unit) max_fee e in omega arith) in
    rw no refl

pub unit_from-next : (n m unit amount : ℕ) → n ≡ m + 1 → max_fee < amount / unit → unit_from n unit amount ≡ unit_from m (unit * 10) amount
unit_from-next n m unit amount e h =
    let same : n ≡ suc m = omega arith in
    ap (λ k. unit_from k unit amount) same ∙ next m unit amount h

pub is_positive : (k unit : ℕ) → unit ≡ 10 ^ k → 0 < unit
is_positive k unit e = let one = one-le-pow k 10 (lit< tt) in omega (arith, one, e)

pub is_small : (k unit : ℕ) → unit ≡ 10 ^ k → k ≤ 24 → unit ≤ 10 ^ 24
is_small k unit e small = subst (λ u. u ≤ 10 ^ 24) (sym e) (pow-le-pow_right (lit< tt) small)

pub unit_from-none : (n unit amount : ℕ) → n ≡ 0 → unit_from n unit amount ≡ unit
unfolding unit_from
unit_from-none n unit amount e = rw e refl

pub next_power : (k unit : ℕ) → unit ≡ 10 ^ k → unit * 10 ≡ 10 ^ (k + 1)
next_power k unit e = rw (e, add-one, pow-suc) refl

-- below 10 ^ 33 an amount fits the last unit
pub last_fits : (k unit amount : ℕ) → unit ≡ 10 ^ k → k ≡ 24 → amount < 10 ^ 33 → amount / unit ≤ max_fee
last_fits k unit amount e last small = rw (e, last) (omega arith)
