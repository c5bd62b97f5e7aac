-- The last letter of a duration, and the places behind its point.
use Rattle.std.proofs.Common.{◌≡◌, ◌≢◌, ℕ, ◌==◌, List, [], ◌∷◌, ◌++◌, Option, Some, None, option_map, MatchOption, Bor, refl, sym, ap, eqb-true, lit<}
use Rattle.std.specs.Str.Pattern.{FindsCharSuffix, StripsSuffix}
use Rattle.std.proofs.lemmas.Bool.{false_from_ne_true}
use Rattle.std.proofs.lemmas.Str.Pattern.{strip_suffix_char}
use Rattle.rb_import_answers.specs.Durations.{before_s}

before_s-some : (front : List ℕ) → before_s (front ++ 115 ∷ []) ≡ Some front
before_s-some [] = refl
before_s-some (b ∷ []) = refl
before_s-some (b ∷ c ∷ front) = ap (option_map (λ t. b ∷ t)) (before_s-some (c ∷ front))

before_s-none : (bs : List ℕ) → ((front : List ℕ) → bs ≢ front ++ 115 ∷ []) → before_s bs ≡ None
before_s-none [] h = refl
before_s-none (b ∷ []) h = rw (false_from_ne_true (b == 115) (λ e. h [] (ap (λ x. x ∷ []) (eqb-true b 115 e)))) refl
before_s-none (b ∷ c ∷ bs) h = ap (option_map (λ t. b ∷ t)) (before_s-none (c ∷ bs) (λ front e. h (b ∷ front) (ap (λ t. b ∷ t) e)))

by_cases : (bs : List ℕ) (r : Option (Bor (List ℕ))) → MatchOption r ((front : List ℕ) → bs ≢ front ++ 115 ∷ []) (λ x. bs ≡ x.now ++ 115 ∷ []) → option_map (λ x. x.now) r ≡ before_s bs
by_cases bs None h = sym (before_s-none bs h)
by_cases bs (Some x) h = rw h (sym (before_s-some x.now))

pub stripped : (bs : List ℕ) (r : Option (Bor (List ℕ))) → MatchOption r (FindsCharSuffix 115 bs None) (λ x. StripsSuffix (FindsCharSuffix 115) bs x.now) → option_map (λ x. x.now) r ≡ before_s bs
stripped bs r h = by_cases bs r (strip_suffix_char 115 bs r h (lit< tt))
