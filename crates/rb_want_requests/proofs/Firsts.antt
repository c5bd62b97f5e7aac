-- The least number, from one, whose part isn't there.
use Rattle.std.proofs.Common.{◌≡◌, ◌≢◌, ℕ, zero, suc, ◌+◌, ◌<◌, ◌≤◌, List, length, Bool, true, false, cond, inl, inr, Option, Some, None, refl, sym, ap, subst, ◌∙◌, arith}
use Rattle.std.specs.Prelude.{find, not, unwrap_or}
use Rattle.std.specs.List.{range_with_len}
use Rattle.std.proofs.lemmas.Bool.{cases_eq}
use Rattle.rb_want_requests.specs.Answered.{has_part, next_part}
use Rattle.rb_want_requests.specs.declared.answered.PartKind.{PartKind}
use Rattle.rb_want_requests.specs.declared.content.Content.{Content}

-- the first number of a range that passes a test
first_in : (p : ℕ → Bool) (a n m : ℕ) → a ≤ m → m < a + n → p m ≡ true → ((k : ℕ) → a ≤ k → k < m → p k ≡ false) → find p (range_with_len a n) ≡ Some m
first_in p a zero m low high is none = absurd (omega (arith, low, high))
first_in p a (suc n) m low high is none =
    elim (cases_eq a m) [
      | inl same ↦ rw (ap p same ∙ is) (ap Some same)
      | inr differ ↦
          rw (none a (omega arith) (omega (arith, low, differ)))
          (first_in p (a + 1) n m (omega (arith, low, differ)) (omega (arith, high)) is (λ k above less. none k (omega (arith, above)) less))
    ]

-- no number of a range passes it
none_in : (p : ℕ → Bool) (a n : ℕ) → ((k : ℕ) → a ≤ k → k < a + n → p k ≡ false) → find p (range_with_len a n) ≡ None
none_in p a zero none = refl
none_in p a (suc n) none =
    rw (none a (omega arith) (omega arith)) (none_in p (a + 1) n (λ k above less. none k (omega (arith, above)) (omega (arith, less))))

-- all parts up to this number are there
abbrev pub AreThere : PartKind → List Content → ℕ → Type 0
AreThere kind there most = (n : ℕ) → 1 ≤ n → n ≤ most → has_part kind n there ≡ true

pub none_yet : (kind : PartKind) (there : List Content) → AreThere kind there 0
none_yet kind there n low high = absurd (omega (arith, low, high))

-- and one more
pub one_more : (kind : PartKind) (there : List Content) (most : ℕ) → AreThere kind there most → has_part kind (most + 1) there ≡ true → AreThere kind there (most + 1)
one_more kind there most all is n low high =
    elim (cases_eq n (most + 1)) [
      | inl same ↦ subst (λ k. has_part kind k there ≡ true) (sym same) is
      | inr differ ↦ all n low (omega (arith, high, differ))
    ]

-- the next one isn't
pub found : (kind : PartKind) (there : List Content) (most : ℕ) → most < length there → AreThere kind there most → has_part kind (most + 1) there ≡ false
    → most + 1 ≡ next_part kind there
unfolding next_part
found kind there most small all is =
    sym (ap (λ o. unwrap_or o (length there + 1))
    (first_in (λ n. not (has_part kind n there)) 1 (length there) (most + 1) (omega arith) (omega (arith, small)) (ap not is)
    (λ n low less. ap not (all n low (omega (arith, less))))))

-- as many are there as there are contents
pub all_there : (kind : PartKind) (there : List Content) → AreThere kind there (length there) → length there + 1 ≡ next_part kind there
unfolding next_part
all_there kind there all =
    sym (ap (λ o. unwrap_or o (length there + 1))
    (none_in (λ n. not (has_part kind n there)) 1 (length there) (λ n low less. ap not (all n low (omega (arith, less))))))

pub ruleset firsts = (none_yet, one_more, found, all_there)
