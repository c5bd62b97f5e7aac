-- How many elements pass a test.
use Rattle.std.proofs.Common.{◌≡◌, ℕ, ◌+◌, ◌<◌, List, length, take, get_or, Bool, true, false, subst}
use Rattle.std.specs.Prelude.{count_by}
use Rattle.std.proofs.lemmas.List.Sums.{count_by_more_no, count_by_more_yes}

pub one_more : {X : Type 0} (p : X → Bool) (xs : List X) (i : ℕ) (x : X) → i < length xs → x ≡ get_or xs i x → p x ≡ true → count_by p (take (i + 1) xs) ≡ count_by p (take i xs) + 1
one_more p xs i x small is passes = count_by_more_yes p xs i x small (subst (λ y. p y ≡ true) is passes)

pub none_more : {X : Type 0} (p : X → Bool) (xs : List X) (i : ℕ) (x : X) → i < length xs → x ≡ get_or xs i x → p x ≡ false → count_by p (take (i + 1) xs) ≡ count_by p (take i xs)
none_more p xs i x small is fails = count_by_more_no p xs i x small (subst (λ y. p y ≡ false) is fails)

pub ruleset counting = (one_more, none_more)
