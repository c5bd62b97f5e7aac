-- Where a binary search by height ends in labels whose heights rise.
use Rattle.std.proofs.Common.{◌≡◌, ℕ, ◌<◌, ◌≤◌, ◌⊎◌, List, length, get_or, inl, inr, ap, sym, ◌∙◌, arith, Some, None, nat_cmp}
use Rattle.std.specs.List.{Contains, HoldsAt}
use Rattle.std.specs.List.Sorted.{IsNonDecreasingBy, IsPartitionPoint}
use Rattle.std.specs.Ordering.{ordering_index}
use Rattle.std.specs.declared.cmp.Ordering.TheVariants.{Less, Equal, Greater}
use Rattle.std.proofs.lemmas.Bool.{cases_lt}
use Rattle.std.proofs.lemmas.Bool.Decides.{nat_tests}
use Rattle.std.proofs.lemmas.List.Elements.{Contains-get_or}
use Rattle.rb_plan_types.specs.declared.labelling.Label.{Label}
use Rattle.rb_plan_types.specs.Labelling.{IsLabelling, label_of}
use Rattle.rb_plan_types.proofs.Lookups.{AreRising, pairs_of_labelling, label_of-at, label_of-none}

equal_is : (m n : ℕ) → nat_cmp m n ≡ Equal → m ≡ n
equal_is m n e = grind (arith, nat_tests)

less_is : (m n : ℕ) → nat_cmp m n ≡ Less → m < n
less_is m n e = grind (arith, nat_tests)

greater_is : (m n : ℕ) → nat_cmp m n ≡ Greater → n < m
greater_is m n e = grind (arith, nat_tests)

index_rises : (m n h : ℕ) → m ≤ n → ordering_index (nat_cmp m h) ≤ ordering_index (nat_cmp n h)
index_rises m n h le = grind (arith, nat_tests)

module _ (labels : List Label) (h : ℕ) (is : IsLabelling labels) where
  pairs : AreRising labels
  pairs = pairs_of_labelling labels is

  pub label_at_found : (place : ℕ) (d : Label) → place < length labels → HoldsAt (λ y. nat_cmp y.height h ≡ Equal) labels place
      → Some (get_or labels place d).cost ≡ label_of labels h
  label_at_found place d inside equal =
      sym (label_of-at labels (get_or labels place d) pairs (Contains-get_or labels place d inside))
      ∙ ap (label_of labels) (equal_is (get_or labels place d).height h (equal d))

  pub label_at_missing : (place : ℕ)
      → (IsNonDecreasingBy (λ y. ordering_index (nat_cmp y.height h)) labels → IsPartitionPoint (λ y. nat_cmp y.height h ≡ Less) (λ y. nat_cmp y.height h ≡ Greater) labels place)
      → None ≡ label_of labels h
  label_at_missing place parted = sym (label_of-none labels h none)
    where
      rises : IsNonDecreasingBy (λ y. ordering_index (nat_cmp y.height h)) labels
      rises i j d le l = go (cases_lt i j)
        where
          go : (i < j) ⊎ (j ≤ i) → ordering_index (nat_cmp (get_or labels i d).height h) ≤ ordering_index (nat_cmp (get_or labels j d).height h)
          go (inl lt) = let p : (get_or labels i d).height < (get_or labels j d).height = pairs i j d lt l in index_rises _ _ h (omega arith)
          go (inr ge) = let e : i ≡ j = omega arith in index_rises _ _ h (let s : (get_or labels i d).height ≡ (get_or labels j d).height = ap (λ (k : ℕ). (get_or labels k d).height) e in omega arith)

      none : (l : Label) → Contains labels l → l.height ≡ h → ⊥
      none l (k, inside, at) e = go (cases_lt k place)
        where
          same : (get_or labels k l).height ≡ h
          same = ap (λ (x : Label). x.height) at ∙ e

          go : (k < place) ⊎ (place ≤ k) → ⊥
          go (inl lt) = let p : (get_or labels k l).height < h = less_is _ h ((parted rises).0 k l (omega arith) lt) in omega (arith, same)
          go (inr ge) = let p : h < (get_or labels k l).height = greater_is _ h ((parted rises).1 k l ge inside) in omega (arith, same)
