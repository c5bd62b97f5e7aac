-- How many elements an array has, and how many pass a test.
use Rattle.std.proofs.Common.{◌≡◌, ◌+◌, ◌<◌, ◌≤◌, ℕ, suc, Bool, true, false, List, [], ◌∷◌, length, take, get_or, le-ltb, le_trans, refl, ap, subst}
use Rattle.std.specs.Prelude.{count_by, nat_lt}
use Rattle.std.proofs.lemmas.List.Sums.{count_by-le-length, count_by_more_no, count_by_more_yes}
use Rattle.serde_json.specs.declared.value.Value.{Value}
use Rattle.serde_json.specs.View.{items_view}
use Rattle.rb_import_answers.specs.Packets.{count_of}

pub count_of-view : (vs : List Value) → count_of (items_view vs) ≡ length vs
count_of-view [] = refl
count_of-view (v ∷ vs) = ap suc (count_of-view vs)

pub ruleset counted = (count_of-view)

pub one_more : {X : Type 0} (p : X → Bool) (xs : List X) (i : ℕ) (x : X) → i < length xs → x ≡ get_or xs i x → p x ≡ true → count_by p (take (i + 1) xs) ≡ count_by p (take i xs) + 1
one_more p xs i x small is passes = count_by_more_yes p xs i x small (subst (λ y. p y ≡ true) is passes)

pub none_more : {X : Type 0} (p : X → Bool) (xs : List X) (i : ℕ) (x : X) → i < length xs → x ≡ get_or xs i x → p x ≡ false → count_by p (take (i + 1) xs) ≡ count_by p (take i xs)
none_more p xs i x small is fails = count_by_more_no p xs i x small (subst (λ y. p y ≡ false) is fails)

-- of few elements not many pass
pub few_pass : {X : Type 0} (p : X → Bool) (xs : List X) (most : ℕ) → length xs ≤ most → nat_lt most (count_by p xs) ≡ false
few_pass p xs most few = le-ltb most (count_by p xs) (le_trans (count_by-le-length p xs) few)

pub ruleset counting = (one_more, none_more)

pub ruleset few = (few_pass)
