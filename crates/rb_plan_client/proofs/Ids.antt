-- Identifiers are compared with zeros after them, which makes no difference.
use Rattle.std.proofs.Common.{◌≡◌, ◌==◌, ℕ, ◌-◌, ◌++◌, Bool, ◌&&◌, List, length, take, replicate, sym, ap, ◌∙◌}
use Rattle.std.specs.Cmp.{unsigned_Decides}
use Rattle.std.specs.Str.{bytes_eq}
use Rattle.std.proofs.Math.Seq.{take-append_seam}
use Rattle.std.proofs.lemmas.Bool.Decides.{Decides-and, Decides-like, same_from_decides}
use Rattle.std.proofs.lemmas.Slice.Eq.{bytes_eq-Decides}

padded : List ℕ → List ℕ
padded text = text ++ replicate (64 - length text) 0

text_back : (a b : List ℕ) → padded a ≡ padded b → length a ≡ length b → a ≡ b
unfolding padded
text_back a b p l =
    sym (take-append_seam a (replicate (64 - length a) 0)) ∙ (λ i. take (l i) (p i)) ∙ take-append_seam b (replicate (64 - length b) 0)

-- with zeros up to 64 after them, and their lengths
pub same_padded : (a b : List ℕ)
    → (bytes_eq (a ++ replicate (64 - length a) 0) (b ++ replicate (64 - length b) 0) && (length a == length b)) ≡ bytes_eq a b
unfolding padded
same_padded a b =
    same_from_decides _ (bytes_eq a b)
    (Decides-like _ (λ e. text_back a b e.0 e.1) (λ e. (ap padded e, ap (λ (x : List ℕ). length x) e))
    (Decides-and _ _ (bytes_eq-Decides (padded a) (padded b)) (unsigned_Decides (length a) (length b))))
    (bytes_eq-Decides a b)

-- the same beside what else is compared
pub with_padded : (a b : List ℕ) (others : Bool)
    → ((bytes_eq (a ++ replicate (64 - length a) 0) (b ++ replicate (64 - length b) 0) && (length a == length b)) && others) ≡ (bytes_eq a b && others)
with_padded a b others = ap (λ (x : Bool). x && others) (same_padded a b)
