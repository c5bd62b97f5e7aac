-- Identifiers are compared with zeros after them, which makes no difference.
use Rattle.std.proofs.Common.{◌≡◌, ℕ, ◌-◌, List, ◌++◌, take, replicate, length, sym, ◌∙◌}
use Rattle.std.specs.Prelude.{IsTrue}
use Rattle.std.specs.Str.{bytes_eq}
use Rattle.std.proofs.Math.Seq.{take-append_seam}
use Rattle.std.proofs.lemmas.Slice.Eq.{bytes_eq-Decides}

abbrev padded : ℕ → List ℕ → List ℕ
padded n text = text ++ replicate (n - length text) 0

pub same_by_padded : (n : ℕ) (a b : List ℕ)
    → IsTrue (bytes_eq (a ++ replicate (n - length a) 0) (b ++ replicate (n - length b) 0)) → length a ≡ length b → a ≡ b
same_by_padded n a b h l =
    let p : padded n a ≡ padded n b = (bytes_eq-Decides (padded n a) (padded n b)).0 h in
    sym (take-append_seam a (replicate (n - length a) 0)) ∙ (λ i. take (l i) (p i)) ∙ take-append_seam b (replicate (n - length b) 0)

pub ruleset alike = (same_by_padded)
