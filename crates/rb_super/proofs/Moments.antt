-- The first of some moments, and the lesser of two numbers.
use Rattle.std.proofs.Common.{◌≡◌, ◌⊎◌, ℕ, ◌<◌, ◌≤◌, min, List, [], ◌∷◌, Option, Some, None, refl, ap, inl, inr, arith}
use Rattle.std.specs.List.{fold}
use Rattle.std.proofs.lemmas.Bool.{cases_lt}
use Rattle.std.proofs.lemmas.Option.{none-some, same_Some}
use Rattle.std.proofs.Math.Nat.{min-le_left, min-le_right}
use Rattle.rb_scan.specs.Expiry.{lesser}
use Rattle.rb_super.proofs.Members.{In}

pub lesser_left : (a b : Option ℕ) (n : ℕ) → a ≡ Some n → (m : ℕ) × (lesser a b ≡ Some m) × (m ≤ n)
lesser_left (Some a) None n e = (a, refl, (let same : a ≡ n = same_Some a n e in omega arith))
lesser_left (Some a) (Some b) n e = (min a b, refl, (let same : a ≡ n = same_Some a n e in omega (arith, min-le_left a b)))
lesser_left None b n e = absurd (none-some n e)

pub lesser_right : (a b : Option ℕ) (n : ℕ) → b ≡ Some n → (m : ℕ) × (lesser a b ≡ Some m) × (m ≤ n)
lesser_right None (Some b) n e = (b, refl, (let same : b ≡ n = same_Some b n e in omega arith))
lesser_right (Some a) (Some b) n e = (min a b, refl, (let same : b ≡ n = same_Some b n e in omega (arith, min-le_right a b)))
lesser_right a None n e = absurd (none-some n e)

-- it is one of the two
pub one_of : (a b : Option ℕ) (n : ℕ) → lesser a b ≡ Some n → (a ≡ Some n) ⊎ (b ≡ Some n)
one_of None b n e = inr e
one_of (Some a) None n e = inl e
one_of (Some a) (Some b) n e = go (cases_lt a b)
  where
    least : min a b ≡ n
    least = same_Some (min a b) n e

    go : (a < b) ⊎ (b ≤ a) → (Some a ≡ Some n) ⊎ (Some b ≡ Some n)
    go (inl lt) = (let same : a ≡ n = omega (arith, lt, least) in inl (ap (λ x. Some x) same))
    go (inr le) = (let same : b ≡ n = omega (arith, le, least) in inr (ap (λ x. Some x) same))

-- the first of some moments is no later than any of them
pub no_later : (xs : List (Option ℕ)) (first : Option ℕ) (n : ℕ) → (first ≡ Some n) ⊎ In xs (Some n) → (k : ℕ) × (fold lesser first xs ≡ Some k) × (k ≤ n)
no_later [] first n (inl e) = (n, e, omega arith)
no_later [] first n (inr h) = absurd h
no_later (x ∷ xs) first n (inl e) =
    let one = lesser_left first x n e in
    let rest = no_later xs (lesser first x) one.0 (inl one.1) in
    (rest.0, rest.1, omega (arith, rest.2, one.2))
no_later (x ∷ xs) first n (inr (inl e)) =
    let one = lesser_right first x n e in
    let rest = no_later xs (lesser first x) one.0 (inl one.1) in
    (rest.0, rest.1, omega (arith, rest.2, one.2))
no_later (x ∷ xs) first n (inr (inr h)) = no_later xs (lesser first x) n (inr h)

-- and it is one of them
pub first_is : (xs : List (Option ℕ)) (first : Option ℕ) (n : ℕ) → fold lesser first xs ≡ Some n → (first ≡ Some n) ⊎ In xs (Some n)
first_is [] first n e = inl e
first_is (x ∷ xs) first n e = go (first_is xs (lesser first x) n e)
  where
    either : (first ≡ Some n) ⊎ (x ≡ Some n) → (first ≡ Some n) ⊎ In (x ∷ xs) (Some n)
    either (inl f) = inl f
    either (inr f) = inr (inl f)

    go : (lesser first x ≡ Some n) ⊎ In xs (Some n) → (first ≡ Some n) ⊎ In (x ∷ xs) (Some n)
    go (inl f) = either (one_of first x n f)
    go (inr h) = inr (inr h)
