-- Elements of lists, one by one from the front.
use Rattle.std.proofs.Common.{◌≡◌, ◌⊎◌, ℕ, zero, suc, ◌+◌, ◌-◌, Bool, true, false, cond, not, ◌&&◌, ◌||◌, List, [], ◌∷◌, ◌++◌, length, map, Any, refl, sym, ap, ◌∙◌, subst, inl, inr, Option, Some, None, arith}
use Rattle.std.specs.List.{AllByRecursion, Contains, enumerate_from, filter, flat_map, list_any, slice_get}
use Rattle.std.proofs.lemmas.Bool.{false≢true}
use Rattle.std.proofs.lemmas.Option.{none-some, same_Some}
use Rattle.rb_book.proofs.Rising.{Up}
use Rattle.rb_scan.specs.Owed.{is_ready, is_near, ready, ready_beyond}
use Rattle.rb_scan.specs.declared.message.PacketMsg.{PacketMsg}
use Rattle.rb_scan.specs.declared.path.Order.{Order}

abbrev pub In : {X : Type 0} → List X → X → Type 0
In [] x = ⊥
In (y ∷ ys) x = (y ≡ x) ⊎ In ys x

pub in_from : {X : Type 0} (xs : List X) (x : X) → Contains xs x → In xs x
in_from [] x (k, lt, e) = absurd (omega (arith, lt))
in_from (y ∷ ys) x (zero, lt, e) = inl e
in_from (y ∷ ys) x (suc k, lt, e) = inr (in_from ys x (k, omega (arith, lt), e))

pub contains_from : {X : Type 0} (xs : List X) (x : X) → In xs x → Contains xs x
contains_from [] x h = absurd h
contains_from (y ∷ ys) x (inl e) = (0, omega arith, e)
contains_from (y ∷ ys) x (inr h) = let c = contains_from ys x h in (suc c.0, omega (arith, c.1), c.2)

pub in_map : {X Y : Type 0} (f : X → Y) (xs : List X) (x : X) → In xs x → In (map f xs) (f x)
in_map f [] x h = absurd h
in_map f (y ∷ ys) x (inl e) = inl (ap f e)
in_map f (y ∷ ys) x (inr h) = inr (in_map f ys x h)

pub in_left : {X : Type 0} (xs ys : List X) (x : X) → In xs x → In (xs ++ ys) x
in_left [] ys x h = absurd h
in_left (y ∷ xs) ys x (inl e) = inl e
in_left (y ∷ xs) ys x (inr h) = inr (in_left xs ys x h)

pub in_right : {X : Type 0} (xs ys : List X) (x : X) → In ys x → In (xs ++ ys) x
in_right [] ys x h = h
in_right (y ∷ xs) ys x h = inr (in_right xs ys x h)

pub in_flat_map : {X Y : Type 0} (f : X → List Y) (xs : List X) (x : X) (y : Y) → In xs x → In (f x) y → In (flat_map f xs) y
in_flat_map f [] x y h g = absurd h
in_flat_map f (z ∷ zs) x y (inl e) g = in_left (f z) (flat_map f zs) y (subst (λ w. In (f w) y) (sym e) g)
in_flat_map f (z ∷ zs) x y (inr h) g = in_right (f z) (flat_map f zs) y (in_flat_map f zs x y h g)

-- ---- and back

pub from_append : {X : Type 0} (xs ys : List X) (x : X) → In (xs ++ ys) x → In xs x ⊎ In ys x
from_append [] ys x h = inr h
from_append (y ∷ xs) ys x (inl e) = inl (inl e)
from_append {X} (y ∷ xs) ys x (inr h) = go (from_append xs ys x h)
  where
    go : In xs x ⊎ In ys x → ((y ≡ x) ⊎ In xs x) ⊎ In ys x
    go (inl g) = inl (inr g)
    go (inr g) = inr g

pub from_map : {X Y : Type 0} (f : X → Y) (xs : List X) (y : Y) → In (map f xs) y → (x : X) × In xs x × (f x ≡ y)
from_map f [] y h = absurd h
from_map f (x ∷ xs) y (inl e) = (x, inl refl, e)
from_map f (x ∷ xs) y (inr h) = let rest = from_map f xs y h in (rest.0, inr rest.1, rest.2)

pub from_flat_map : {X Y : Type 0} (f : X → List Y) (xs : List X) (y : Y) → In (flat_map f xs) y → (x : X) × In xs x × In (f x) y
from_flat_map f [] y h = absurd h
from_flat_map {X} {Y} f (z ∷ zs) y h = go (from_append (f z) (flat_map f zs) y h) (λ g. from_flat_map f zs y g)
  where
    go : In (f z) y ⊎ In (flat_map f zs) y → (In (flat_map f zs) y → (x : X) × In zs x × In (f x) y) → (x : X) × In (z ∷ zs) x × In (f x) y
    go (inl g) rest = (z, inl refl, g)
    go (inr g) rest = let other = rest g in (other.0, inr other.1, other.2)

pub from_get : {X : Type 0} (xs : List X) (k : ℕ) (x : X) → slice_get xs k ≡ Some x → In xs x
from_get [] k x e = absurd (none-some x e)
from_get (y ∷ ys) zero x e = inl (same_Some y x e)
from_get (y ∷ ys) (suc k) x e = inr (from_get ys k x e)

pub to_get : {X : Type 0} (xs : List X) (x : X) → In xs x → (k : ℕ) × (slice_get xs k ≡ Some x)
to_get [] x h = absurd h
to_get (y ∷ ys) x (inl e) = (0, ap Some e)
to_get (y ∷ ys) x (inr h) = let rest = to_get ys x h in (suc rest.0, rest.1)

pub any_from : {X : Type 0} (P : X → Type 0) (xs : List X) (x : X) → In xs x → P x → Any P xs
any_from P [] x h p = absurd h
any_from P (y ∷ ys) x (inl e) p = (0, y, omega arith, refl, subst P (sym e) p)
any_from P (y ∷ ys) x (inr h) p = let rest = any_from P ys x h p in (suc rest.0, rest.1, omega (arith, rest.2), rest.3, rest.4)

-- ---- tests

pub test_from : {X : Type 0} (p : X → Bool) (xs : List X) (x : X) → In xs x → p x ≡ true → list_any p xs ≡ true
test_from p [] x h e = absurd h
test_from p (y ∷ ys) x (inl same) e = ap (λ b. b || list_any p ys) (ap p same ∙ e)
test_from {X} p (y ∷ ys) x (inr h) e = go (p y) (test_from p ys x h e)
  where
    go : (b : Bool) → list_any p ys ≡ true → (b || list_any p ys) ≡ true
    go true rest = refl
    go false rest = rest

pub from_test : {X : Type 0} (p : X → Bool) (xs : List X) → list_any p xs ≡ true → (x : X) × In xs x × (p x ≡ true)
from_test p [] e = absurd (false≢true e)
from_test {X} p (y ∷ ys) e = go (p y) refl e (λ h. from_test p ys h)
  where
    go : (b : Bool) → p y ≡ b → (b || list_any p ys) ≡ true → (list_any p ys ≡ true → (x : X) × In ys x × (p x ≡ true)) → (x : X) × In (y ∷ ys) x × (p x ≡ true)
    go true here h rest = (y, inl refl, here)
    go false here h rest = let other = rest h in (other.0, inr other.1, other.2)

pub all_in : {X : Type 0} (P : X → Type 0) (xs : List X) (x : X) → AllByRecursion P xs → In xs x → P x
all_in P [] x all h = absurd h
all_in P (y ∷ ys) x all (inl e) = subst P e all.0
all_in P (y ∷ ys) x all (inr h) = all_in P ys x all.1 h

-- the last of values that rise is one of them, or above it
pub last_above : {X : Type 0} (R : X → X → Type 0) (xs : List X) → Up R xs → (x : X) → In xs x → (l : X) × (slice_get xs (length xs - 1) ≡ Some l) × ((x ≡ l) ⊎ R x l)
last_above R [] up x h = absurd h
last_above R (y ∷ []) up x (inl e) = (y, refl, inl (sym e))
last_above R (y ∷ []) up x (inr h) = absurd h
last_above {X} R (y ∷ z ∷ ys) up x h = go h (last_above R (z ∷ ys) up.1 z (inl refl)) (λ g. last_above R (z ∷ ys) up.1 x g)
  where
    place : length (y ∷ z ∷ ys) - 1 ≡ suc (length (z ∷ ys) - 1)
    place = omega arith

    go : In (y ∷ z ∷ ys) x → (l : X) × (slice_get (z ∷ ys) (length (z ∷ ys) - 1) ≡ Some l) × ((z ≡ l) ⊎ R z l)
        → (In (z ∷ ys) x → (l : X) × (slice_get (z ∷ ys) (length (z ∷ ys) - 1) ≡ Some l) × ((x ≡ l) ⊎ R x l))
        → (l : X) × (slice_get (y ∷ z ∷ ys) (length (y ∷ z ∷ ys) - 1) ≡ Some l) × ((x ≡ l) ⊎ R x l)
    go (inl e) (l, at, _) later =
        (l, ap (slice_get (y ∷ z ∷ ys)) place ∙ at, inr (subst (λ w. R w l) e (all_in (R y) (z ∷ ys) l up.0 (from_get (z ∷ ys) (length (z ∷ ys) - 1) l at))))
    go (inr g) first later = let rest = later g in (rest.0, ap (slice_get (y ∷ z ∷ ys)) place ∙ rest.1, rest.2)

-- ---- elements at their places, and those that pass a test

pub in_places : {X : Type 0} (first : ℕ) (xs : List X) (k : ℕ) (x : X) → slice_get xs k ≡ Some x → In (enumerate_from first xs) (first + k, x)
in_places first [] k x e = absurd (none-some x e)
in_places first (y ∷ ys) zero x e = inl (let same : first ≡ first + 0 = omega arith in λ i. (same i, same_Some y x e i))
in_places first (y ∷ ys) (suc k) x e = inr (let same : (first + 1) + k ≡ first + suc k = omega arith in subst (λ n. In (enumerate_from (first + 1) ys) (n, x)) same (in_places (first + 1) ys k x e))

pub from_places : {X : Type 0} (first : ℕ) (xs : List X) (n : ℕ) (x : X) → In (enumerate_from first xs) (n, x) → (k : ℕ) × (n ≡ first + k) × (slice_get xs k ≡ Some x)
from_places first [] n x h = absurd h
from_places {X} first (y ∷ ys) n x (inl e) = (0, (let same : first ≡ n = ap (λ (p : ℕ × X). p.0) e in omega arith), ap (λ (p : ℕ × X). Some p.1) e)
from_places first (y ∷ ys) n x (inr h) =
    let rest = from_places (first + 1) ys n x h in
    (suc rest.0, (let same = rest.1 in omega arith), rest.2)

pub in_passing : {X : Type 0} (test : X → Bool) (xs : List X) (x : X) → In xs x → test x ≡ true → In (filter test xs) x
in_passing test [] x h e = absurd h
in_passing {X} test (y ∷ ys) x h e = go (test y) refl h (λ g. in_passing test ys x g e)
  where
    go : (b : Bool) → test y ≡ b → (y ≡ x) ⊎ In ys x → (In ys x → In (filter test ys) x) → In (cond b (y ∷ filter test ys) (filter test ys)) x
    go true t (inl same) rest = inl same
    go true t (inr there) rest = inr (rest there)
    go false t (inl same) rest = absurd (false≢true (sym t ∙ ap test same ∙ e))
    go false t (inr there) rest = rest there

pub from_passing : {X : Type 0} (test : X → Bool) (xs : List X) (x : X) → In (filter test xs) x → In xs x × (test x ≡ true)
from_passing test [] x h = absurd h
from_passing {X} test (y ∷ ys) x h = go (test y) refl h (λ g. from_passing test ys x g)
  where
    go : (b : Bool) → test y ≡ b → In (cond b (y ∷ filter test ys) (filter test ys)) x → (In (filter test ys) x → In ys x × (test x ≡ true)) → In (y ∷ ys) x × (test x ≡ true)
    go true t (inl same) rest = (inl same, ap test (sym same) ∙ t)
    go true t (inr there) rest = let both = rest there in (inr both.0, both.1)
    go false t there rest = let both = rest there in (inr both.0, both.1)

-- ---- messages

-- what passes two tests passes the first
in_both : {X Y : Type 0} (f : X → Y) (p q : X → Bool) (xs : List X) (y : Y) → In (map f (filter (λ x. p x && q x) xs)) y → In (map f (filter p xs)) y
in_both f p q [] y h = h
in_both f p q (x ∷ xs) y h = go (λ g. in_both f p q xs y g) (p x) (q x) h
  where
    go : (In (map f (filter (λ z. p z && q z) xs)) y → In (map f (filter p xs)) y) → (a b : Bool)
        → In (map f (cond (a && b) (x ∷ filter (λ z. p z && q z) xs) (filter (λ z. p z && q z) xs))) y → In (map f (cond a (x ∷ filter p xs) (filter p xs))) y
    go rest true true (inl e) = inl e
    go rest true true (inr g) = inr (rest g)
    go rest true false g = inr (rest g)
    go rest false b g = rest g

-- what only an update brings across is ready
pub far_is_ready : (ms : List PacketMsg) (order : Order) (near reach : Option ℕ) (m : PacketMsg) → In (ready_beyond ms order near reach) m → In (ready ms order reach) m
far_is_ready ms order near None m h = h
far_is_ready ms order near (Some reach) m h =
    in_both (λ (x : ℕ × PacketMsg). x.1) (λ (x : ℕ × PacketMsg). is_ready order reach ms x.0 x.1) (λ (x : ℕ × PacketMsg). not (is_near order near ms x.0 x.1)) (enumerate_from 0 ms) m h
