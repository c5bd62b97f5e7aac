-- What meets the rules of a tree hash is one function.
use Rattle.std.proofs.Common.{◌≡◌, ℕ, zero, suc, ◌*◌, ◌^◌, ◌≤◌, List, [], ◌∷◌, length, take, drop, refl, sym, ◌∙◌, arith, inl, inr}
use Rattle.std.proofs.lemmas.Bool.{cases_lt}
use Rattle.std.proofs.lemmas.List.{length-take-le, length-drop}
use Rattle.std.proofs.Math.Nat.{pow-suc}
use Rattle.rb_merkle.specs.TreeHash.{IsSplit, IsTreeHash}

-- a split of one item more: the same place while it is past the half, else twice as far
split_more : (n p : ℕ) → IsSplit n p → (q : ℕ) × IsSplit (suc n) q
split_more n p (k, e, low, high) =
    elim (cases_lt n (2 * p)) [
      | inl more ↦ (p, (k, e, omega arith, omega arith))
      | inr full ↦ (2 * p, (suc k, (let twice : 2 ^ suc k ≡ 2 ^ k * 2 = pow-suc 2 k in omega arith), omega arith, omega arith))
    ]

split_of : (n : ℕ) → (p : ℕ) × IsSplit (suc (suc n)) p
split_of zero = (1, (0, refl, omega arith, omega arith))
split_of (suc n) = let half = split_of n in split_more (suc (suc n)) half.0 half.1

agree : (f g : List (List ℕ) → List ℕ) → IsTreeHash f → IsTreeHash g → (n : ℕ) (items : List (List ℕ)) → length items ≤ n → f items ≡ g items
agree f g rules others n [] h = rules.none ∙ sym others.none
agree f g rules others n (item ∷ []) h = rules.one item ∙ sym (others.one item)
agree f g rules others zero (x ∷ y ∷ rest) h = absurd (omega arith)
agree f g rules others (suc n) (x ∷ y ∷ rest) h =
    let items : List (List ℕ) = x ∷ y ∷ rest in
    let half = split_of (length rest) in
    let p = half.0 in
    let (k, e, low, high) = half.1 in
    let left : f (take p items) ≡ g (take p items) = agree f g rules others n (take p items) (omega (arith, length-take-le p items (omega arith))) in
    let right : f (drop p items) ≡ g (drop p items) = agree f g rules others n (drop p items) (omega (arith, length-drop p items)) in
    rules.more items p half.1 ∙ rw (left, right) (sym (others.more items p half.1))

pub one_tree_hash : (f g : List (List ℕ) → List ℕ) → IsTreeHash f → IsTreeHash g → (items : List (List ℕ)) → f items ≡ g items
one_tree_hash f g rules others items = agree f g rules others (length items) items (omega arith)
