-- The first message that is over the gas limit alone, among messages of two lists.
use Rattle.std.proofs.Common.{◌≡◌, ℕ, zero, suc, ◌+◌, ◌-◌, ◌<◌, List, [], ◌∷◌, ◌++◌, length, slice_index, refl, sym, ap, subst, ◌∙◌, inl, inr, length-append, arith}
use Rattle.std.specs.Prelude.{Result, Err}
use Rattle.std.proofs.lemmas.Bool.{cases_lt}
use Rattle.std.proofs.lemmas.List.Elements.{All-get_or}
use Rattle.rb_batch.specs.Cut.{IsFirstTooBig, NoneIsTooBig}
use Rattle.rb_batch.specs.Limits.{TransactionLimits, IsTooBig}
use Rattle.rb_batch.specs.declared.error.BatchError.{BatchError}
use Rattle.rb_batch.specs.declared.error.BatchError.TheVariants.{TooBig}

in_front : (xs ys : List ℕ) (k : ℕ) → k < length xs → slice_index (xs ++ ys) k ≡ slice_index xs k
in_front [] ys k lt = absurd (omega arith)
in_front (x ∷ xs) ys zero lt = refl
in_front (x ∷ xs) ys (suc k) lt = in_front xs ys k (omega arith)

behind : (xs ys : List ℕ) (k : ℕ) → slice_index (xs ++ ys) (length xs + k) ≡ slice_index ys k
behind [] ys k = (let e : 0 + k ≡ k = omega arith in ap (slice_index ys) e)
behind (x ∷ xs) ys k = (let e : suc (length xs) + k ≡ suc (length xs + k) = omega arith in ap (slice_index ((x ∷ xs) ++ ys)) e ∙ behind xs ys k)

pub front_big : (limits : TransactionLimits) (us ms : List ℕ) (index : ℕ) → IsFirstTooBig limits us index → IsFirstTooBig limits (us ++ ms) index
front_big limits us ms index is = record {
  place = (let within = is.place in omega (arith, within, length-append us ms));
  too_big = subst (IsTooBig limits) (sym (in_front us ms index is.place)) is.too_big;
  first = λ k lt big. is.first k lt (subst (IsTooBig limits) (in_front us ms k (let within = is.place in omega (arith, lt, within))) big);
}

pub behind_big : (limits : TransactionLimits) (us ms : List ℕ) (k : ℕ) → NoneIsTooBig limits us → IsFirstTooBig limits ms k → IsFirstTooBig limits (us ++ ms) (length us + k)
behind_big limits us ms k none is = record {
  place = (let within = is.place in omega (arith, within, length-append us ms));
  too_big = subst (IsTooBig limits) (sym (behind us ms k)) is.too_big;
  first = λ j lt big. elim (cases_lt j (length us)) [
    | inl low ↦ All-get_or (λ gas. IsTooBig limits gas → ⊥) us j 0 low none (subst (IsTooBig limits) (in_front us ms j low) big)
    | inr high ↦ (
        let at : j ≡ length us + (j - length us) = omega (arith, high) in
        is.first (j - length us) (omega (arith, lt, high)) (subst (IsTooBig limits) (ap (slice_index (us ++ ms)) at ∙ behind us ms (j - length us)) big))
  ];
}

-- the message that an error names
abbrev index_in : {T : Type 0} → Result T BatchError → ℕ
index_in (Err (TooBig n)) = n
index_in r = 0

pub same_index : {T : Type 0} (m n : ℕ) (r : Result T BatchError) → r ≡ Err (TooBig m) → r ≡ Err (TooBig n) → m ≡ n
same_index m n r a b = ap index_in (sym a ∙ b)
