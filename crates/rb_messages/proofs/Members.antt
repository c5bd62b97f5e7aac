-- Members of an object that are added one after the other, of which the last may fail.
use Rattle.std.proofs.Common.{◌≡◌, ℕ, List, [], ◌++◌, codes, if◌then◌else◌, Result, Ok, Err, append_assoc, append-nil, refl}
use Rattle.std.specs.Result.{OnOk, is_ok}

-- two, and more behind them
pub members_ok : {T E : Type 0} (r : Result T E) (old x y z a b c t : List ℕ) → OnOk r (z ≡ y ++ c) → y ≡ x ++ b → x ≡ old ++ a → t ≡ a ++ (b ++ c)
    → OnOk r (z ≡ old ++ t)
members_ok (Ok u) old x y z a b c t last second first is = rw is (rw last (rw second (rw first (simp append_assoc refl))))
members_ok (Err e) old x y z a b c t last second first is = tt

-- two in braces
pub pair_ok : {T E : Type 0} (r : Result T E) (old x y z new a b t : List ℕ) → new ≡ (if is_ok r then z ++ codes "}" else z) → z ≡ y ++ b → y ≡ x ++ a
    → x ≡ old ++ codes "{" → t ≡ codes "{" ++ (a ++ (b ++ [])) ++ codes "}" → OnOk r (new ≡ old ++ t)
pair_ok (Ok u) old x y z new a b t last second first opened is =
    rw is (rw last (rw second (rw first (rw opened (simp (append_assoc, append-nil) refl)))))
pair_ok (Err e) old x y z new a b t last second first opened is = tt
