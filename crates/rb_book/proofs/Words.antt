-- Hashes are equal where their words are.
use Rattle.std.proofs.Common.{◌≡◌, ◌⊎◌, inl, inr, ℕ, zero, suc, ◌+◌, ◌-◌, ◌<◌, ◌&&◌, ◌==◌, Bool, List, [], ◌∷◌, length, get_or, refl, sym, ap, ◌∙◌, arith, rules}
use Rattle.std.specs.Bool.{Decides}
use Rattle.std.specs.Int.{w64, to_le_bytes, from_le_bytes}
use Rattle.std.specs.Str.{bytes_eq}
use Rattle.std.proofs.lemmas.Bool.{and_parts, and_from, cases_lt, eqb-true, eq-eqb}
use Rattle.std.proofs.lemmas.Bool.Decides.{same_from_decides}
use Rattle.std.proofs.lemmas.Grind.{same_number_lists}
use Rattle.std.proofs.lemmas.Nat.{le_bytes_8}
use Rattle.std.proofs.lemmas.Slice.Eq.{bytes_eq-Decides}
use Rattle.rb_book.specs.Words.{eight_from, word_at}

abbrev pub AreBytes : List ℕ → Type 0
AreBytes bytes = (i : ℕ) → get_or bytes i 0 < 256

eight_are_bytes : (bytes : List ℕ) → AreBytes bytes → (place : ℕ) → AreBytes (eight_from bytes place)
eight_are_bytes bytes are place zero = are place
eight_are_bytes bytes are place (suc zero) = are (place + 1)
eight_are_bytes bytes are place (suc (suc zero)) = are (place + 2)
eight_are_bytes bytes are place (suc (suc (suc zero))) = are (place + 3)
eight_are_bytes bytes are place (suc (suc (suc (suc zero)))) = are (place + 4)
eight_are_bytes bytes are place (suc (suc (suc (suc (suc zero))))) = are (place + 5)
eight_are_bytes bytes are place (suc (suc (suc (suc (suc (suc zero)))))) = are (place + 6)
eight_are_bytes bytes are place (suc (suc (suc (suc (suc (suc (suc zero))))))) = are (place + 7)
eight_are_bytes bytes are place (suc (suc (suc (suc (suc (suc (suc (suc n)))))))) = omega arith

-- equal words are of equal bytes
same_eight : (a b : List ℕ) → AreBytes a → AreBytes b → (place : ℕ) → word_at a place ≡ word_at b place → eight_from a place ≡ eight_from b place
same_eight a b p q place e =
    sym (le_bytes_8 (eight_from a place) _ refl (eight_are_bytes a p place) refl)
    ∙ ap (to_le_bytes w64) e
    ∙ le_bytes_8 (eight_from b place) _ refl (eight_are_bytes b q place) refl

at_eight : (bytes : List ℕ) (place j : ℕ) → j < 8 → get_or (eight_from bytes place) j 0 ≡ get_or bytes (place + j) 0
at_eight bytes place zero l = let at : place ≡ place + 0 = omega arith in ap (λ k. get_or bytes k 0) at
at_eight bytes place (suc zero) l = refl
at_eight bytes place (suc (suc zero)) l = refl
at_eight bytes place (suc (suc (suc zero))) l = refl
at_eight bytes place (suc (suc (suc (suc zero)))) l = refl
at_eight bytes place (suc (suc (suc (suc (suc zero))))) l = refl
at_eight bytes place (suc (suc (suc (suc (suc (suc zero)))))) l = refl
at_eight bytes place (suc (suc (suc (suc (suc (suc (suc zero))))))) l = refl
at_eight bytes place (suc (suc (suc (suc (suc (suc (suc (suc n)))))))) l = absurd (omega arith)

same_byte : (a b : List ℕ) → AreBytes a → AreBytes b → (place : ℕ) → word_at a place ≡ word_at b place → (k : ℕ) → place + (k - place) ≡ k → k - place < 8
    → get_or a k 0 ≡ get_or b k 0
same_byte a b p q place e k at l =
    ap (λ i. get_or a i 0) (sym at) ∙ sym (at_eight a place (k - place) l)
    ∙ ap (λ bytes. get_or bytes (k - place) 0) (same_eight a b p q place e)
    ∙ at_eight b place (k - place) l ∙ ap (λ i. get_or b i 0) at

-- each of the 32 bytes is in one of four words
same_hash_bytes : (a b : List ℕ) → AreBytes a → AreBytes b
    → word_at a 0 ≡ word_at b 0 → word_at a 8 ≡ word_at b 8 → word_at a 16 ≡ word_at b 16 → word_at a 24 ≡ word_at b 24
    → (k : ℕ) → k < 32 → get_or a k 0 ≡ get_or b k 0
same_hash_bytes a b p q first second third last k l =
    elim (cases_lt k 8) [
      | inl m ↦ same_byte a b p q 0 first k (omega arith) (omega arith)
      | inr m ↦ elim (cases_lt k 16) [
        | inl n ↦ same_byte a b p q 8 second k (omega arith) (omega arith)
        | inr n ↦ elim (cases_lt k 24) [
          | inl o ↦ same_byte a b p q 16 third k (omega arith) (omega arith)
          | inr o ↦ same_byte a b p q 24 last k (omega arith) (omega arith)
        ]
      ]
    ]

words_decide : (a b : List ℕ) → AreBytes a → AreBytes b → length a ≡ 32 → length b ≡ 32
    → Decides ((word_at a 0 == word_at b 0) && (word_at a 8 == word_at b 8) && (word_at a 16 == word_at b 16) && (word_at a 24 == word_at b 24)) (a ≡ b)
words_decide a b p q la lb = (
  λ e.
      let first = and_parts _ _ e in
      let second = and_parts _ _ first.0 in
      let third = and_parts _ _ second.0 in
      let bytes = same_hash_bytes a b p q (eqb-true _ _ third.0) (eqb-true _ _ third.1) (eqb-true _ _ second.1) (eqb-true _ _ first.1) in
      same_number_lists a b (la ∙ sym lb) (λ k l. bytes k (omega arith)),
  λ e.
      let word = λ (place : ℕ). eq-eqb _ _ (ap (λ (bytes : List ℕ). word_at bytes place) e) in
      and_from _ _ (and_from _ _ (and_from _ _ (word 0) (word 8)) (word 16)) (word 24),
)

-- four words of each that are equal are of one hash
pub same_words : (a b : List ℕ) → AreBytes a → AreBytes b → length a ≡ 32 → length b ≡ 32 → (w v x y z s t u : ℕ)
    → w ≡ word_at a 0 → v ≡ word_at b 0 → x ≡ word_at a 8 → y ≡ word_at b 8 → z ≡ word_at a 16 → s ≡ word_at b 16 → t ≡ word_at a 24 → u ≡ word_at b 24
    → ((w == v) && (x == y) && (z == s) && (t == u)) ≡ bytes_eq a b
same_words a b p q la lb w v x y z s t u ew ev ex ey ez es et eu =
    (λ i. (ew i == ev i) && (ex i == ey i) && (ez i == es i) && (et i == eu i)) ∙ same_from_decides _ _ (words_decide a b p q la lb) (bytes_eq-Decides a b)
