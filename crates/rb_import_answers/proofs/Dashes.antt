-- The last dash of an identifier.
use Rattle.std.proofs.Common.{◌≡◌, ◌≢◌, ℕ, suc, ◌<◌, ◌==◌, false, List, [], ◌∷◌, ◌++◌, length, take, drop, get_or, Option, Some, None, option_map, MatchOption, Bor, refl, sym, ap, subst, ◌∙◌, arith}
use Rattle.std.specs.Str.{NoCharPasses}
use Rattle.std.specs.Str.Pattern.{HasCharAt, RFindsChar, SplitsAroundMatch}
use Rattle.std.proofs.lemmas.Bool.{false_from_ne_true, eqb-true}
use Rattle.std.proofs.lemmas.List.{take-append-drop}
use Rattle.std.proofs.lemmas.Str.Pattern.{NoCharPasses-char, drop_at_char}
use Rattle.rb_import_answers.specs.Revisions.{at_last_dash}

no_dash : (bs : List ℕ) → ((i : ℕ) → i < length bs → get_or bs i 0 ≢ 45) → at_last_dash bs ≡ None
no_dash [] h = refl
no_dash (b ∷ bs) h =
    let other : (b == 45) ≡ false = false_from_ne_true _ (λ e. h 0 (omega arith) (eqb-true b 45 e)) in
    rw (no_dash bs (λ i k. h (suc i) (omega arith)), other) refl

last_dash : (front back : List ℕ) → at_last_dash back ≡ None → at_last_dash (front ++ 45 ∷ back) ≡ Some (front, back)
last_dash [] back none = rw none refl
last_dash (b ∷ front) back none = rw (last_dash front back none) refl

pub dash_none : (text : List ℕ) → NoCharPasses (λ d. d == 45) text → at_last_dash text ≡ None
dash_none text h = no_dash text (λ i k. NoCharPasses-char 45 text i h (omega arith) k)

pub dash_some : (text : List ℕ) (i j : ℕ) → HasCharAt 45 text i j → NoCharPasses (λ d. d == 45) (drop j text) → at_last_dash text ≡ Some (take i text, drop j text)
dash_some text i j at none =
    subst (λ t. at_last_dash t ≡ Some (take i text, drop j text)) (ap (λ rest. take i text ++ rest) (sym (drop_at_char 45 text i j at (omega arith))) ∙ take-append-drop i text)
    (last_dash (take i text) (drop j text) (dash_none (drop j text) none))

-- the parts round the last dash, as `rsplit_once` gives them
pub dash_split : (text : List ℕ) (r : Option (Bor (List ℕ) × Bor (List ℕ)))
    → MatchOption r (RFindsChar 45 text None) (λ x. SplitsAroundMatch (RFindsChar 45) text x.0.now x.1.now)
    → option_map (λ p. (p.0.now, p.1.now)) r ≡ at_last_dash text
dash_split text None h = sym (dash_none text h)
dash_split text (Some x) h = rw (h.3, h.4) (sym (dash_some text h.0 h.1 h.2.1 h.2.0))
