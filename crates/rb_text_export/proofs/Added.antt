-- Texts that are added one after the other.
use Rattle.std.proofs.Common.{◌≡◌, ℕ, List, ◌++◌, if◌then◌else◌, Result, Ok, Err, append_assoc, refl}
use Rattle.std.specs.Result.{OnOk, is_ok}
use Rattle.std.proofs.lemmas.Result.{on_ok_weaker}

pub added2 : (old y z a b t : List ℕ) → z ≡ y ++ b → y ≡ old ++ a → t ≡ a ++ b → z ≡ old ++ t
added2 old y z a b t last first is = rw is (rw last (rw first (append_assoc old a b)))

pub added3 : (old x y z a b c t : List ℕ) → z ≡ y ++ c → y ≡ x ++ b → x ≡ old ++ a → t ≡ a ++ b ++ c → z ≡ old ++ t
added3 old x y z a b c t third second first is = added2 old y z (a ++ b) c t third (added2 old x y a b (a ++ b) second first refl) is

-- additions of which the last may fail
pub added2_ok : {T E : Type 0} (r : Result T E) (old y z a b t : List ℕ) → OnOk r (z ≡ y ++ b) → y ≡ old ++ a → t ≡ a ++ b → OnOk r (z ≡ old ++ t)
added2_ok r old y z a b t last first is = on_ok_weaker r (λ last. added2 old y z a b t last first is) last

pub added3_ok : {T E : Type 0} (r : Result T E) (old x y z a b c t : List ℕ)
    → OnOk r (z ≡ y ++ c) → y ≡ x ++ b → x ≡ old ++ a → t ≡ a ++ b ++ c → OnOk r (z ≡ old ++ t)
added3_ok r old x y z a b c t third second first is = on_ok_weaker r (λ third. added3 old x y z a b c t third second first is) third

-- the last of them is a text that may not fit
pub pushed3_ok : {T E : Type 0} (r : Result T E) (old x y z a b c t : List ℕ)
    → z ≡ (if is_ok r then y ++ c else y) → y ≡ x ++ b → x ≡ old ++ a → t ≡ a ++ b ++ c → OnOk r (z ≡ old ++ t)
pushed3_ok (Ok u) old x y z a b c t third second first is = added3 old x y z a b c t third second first is
pushed3_ok (Err e) old x y z a b c t third second first is = tt

pub ruleset added = (added2_ok, added3_ok)
