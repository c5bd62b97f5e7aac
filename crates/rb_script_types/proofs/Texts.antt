-- Texts that differ.
use Rattle.std.proofs.Common.{◌≡◌, ◌≢◌, ◌↔◌, ℕ, List, Bool, true, false, not, IsTrue, refl, sym, ◌∙◌}
use Rattle.std.specs.Str.{bytes_eq}
use Rattle.std.proofs.lemmas.Bool.{true≢false, false≢true}
use Rattle.std.proofs.lemmas.Slice.Eq.{bytes_eq-Decides}

by_answer : (b : Bool) (a c : List ℕ) → bytes_eq a c ≡ b → IsTrue (not b) ↔ (a ≢ c)
by_answer true a c e = ((λ h. absurd (false≢true h)), (λ differ. absurd (differ ((bytes_eq-Decides a c).0 e))))
by_answer false a c e = ((λ h same. true≢false (sym ((bytes_eq-Decides a c).1 same) ∙ e)), (λ differ. refl))

-- two texts are told apart just where they are not one
pub differ_by_bytes : (a c : List ℕ) → IsTrue (not (bytes_eq a c)) ↔ (a ≢ c)
differ_by_bytes a c = by_answer (bytes_eq a c) a c refl
