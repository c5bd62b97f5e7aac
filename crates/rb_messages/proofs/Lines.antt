-- A text without the end of its last line.
use Rattle.std.proofs.Common.{◌≡◌, ℕ, ◌+◌, ◌-◌, ◌==◌, Bool, true, false, if◌then◌else◌, List, [], ◌∷◌, ◌++◌, get_or, length, take, ap, refl, sym, ◌∙◌, arith}
use Rattle.std.proofs.Math.Seq.{get_or-append_seam, take-append_seam}
use Rattle.std.proofs.lemmas.Bool.Decides.{nat_tests}
use Rattle.std.proofs.lemmas.List.{length_push, take_all, take_more}
use Rattle.rb_messages.specs.Transactions.{line_of}

pub without_end : (bs xs : List ℕ) → bs ≡ xs ++ 10 ∷ [] → xs ≡ line_of bs
without_end bs xs is =
    let len : length bs ≡ length xs + 1 = rw is (length_push xs 10) in
    let at : length bs - 1 ≡ length xs = omega (arith, len) in
    let last : get_or bs (length bs - 1) 0 ≡ 10 = rw at (rw is (get_or-append_seam xs 10 [] 0)) in
    let cut : take (length bs - 1) bs ≡ xs = rw at (rw is (take-append_seam xs (10 ∷ []))) in
    rw last (sym cut)

ended : (bs : List ℕ) → get_or bs (length bs - 1) 0 ≡ 10 → bs ≡ take (length bs - 1) bs ++ 10 ∷ []
ended [] e = absurd (omega (arith, e))
ended (b ∷ bs) e =
    let n : ℕ = length (b ∷ bs) - 1 in
    let all : take (n + 1) (b ∷ bs) ≡ b ∷ bs = take_all (n + 1) (b ∷ bs) (omega arith) in
    sym all ∙ take_more (b ∷ bs) n 0 (omega arith) ∙ ap (λ c. take n (b ∷ bs) ++ c ∷ []) e

unless : (same : Bool) (bs cut : List ℕ) → (same ≡ true → ⊥) → bs ≡ (if same then cut else bs)
unless true bs cut other = absurd (other refl)
unless false bs cut other = refl

pub without_line : (bs : List ℕ) → ((front : List ℕ) → bs ≡ front ++ 10 ∷ [] → ⊥) → bs ≡ line_of bs
without_line bs unended =
    unless (get_or bs (length bs - 1) 0 == 10) bs (take (length bs - 1) bs)
    (λ same. unended (take (length bs - 1) bs) (ended bs (grind (arith, nat_tests, same))))
