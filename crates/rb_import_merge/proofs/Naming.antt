-- The places of the sets that headers and records name.
use Rattle.std.proofs.Common.{◌≡◌, ◌↔◌, ℕ, zero, suc, ◌<◌, ◌≤◌, ◌+◌, ◌==◌, ◌⊎◌, List, [], ◌∷◌, ◌++◌, length, get_or, take, Some, None, inl, inr, refl, sym, subst, ap, ◌∙◌, arith, Contains}
use Rattle.std.specs.Prelude.{Any, Vec, slice_get}
use Rattle.std.specs.Global.{Global}
use Rattle.std.specs.List.{dedup}
use Rattle.std.specs.List.Sorted.{IsPermutation, IsStrictlyIncreasing}
use Rattle.std.proofs.lemmas.Bool.{cases_lt}
use Rattle.std.proofs.lemmas.List.{take_all, take_more}
use Rattle.std.proofs.lemmas.List.Elements.{Contains-append_left, Contains-push, Contains-push_cases}
use Rattle.std.proofs.lemmas.List.Quantifiers.{Any-push}
use Rattle.std.proofs.lemmas.List.Kept.{Contains-dedup_nat, Contains-from_dedup}
use Rattle.std.proofs.lemmas.List.Sorted.{Contains-permutation, IsPermutation-sym}
use Rattle.std.proofs.lemmas.Option.{none-some, same_Some, slice_get_read, slice_get_within}
use Rattle.rb_import_setup.specs.declared.setup.ClientSetup.{ClientSetup}
use Rattle.rb_import_setup.specs.declared.setup.ImportSetup.{ImportSetup}
use Rattle.rb_import_check.specs.declared.chain.SeenChain.{SeenChain}
use Rattle.rb_import_check.specs.declared.client.Stored.{Stored}
use Rattle.rb_import_check.specs.declared.sets.SeenSet.{SeenSet}
use Rattle.rb_import_check.specs.Sets.{IsPlaceOf, WasSeen}
use Rattle.rb_import_merge.specs.declared.kept.KeptSets.{KeptSets}
use Rattle.rb_import_merge.specs.Sets.{Gains, IsNamed, IsNextOfRecord, KeepsHighest, KeepsHighestOf, NamesNext}

-- ---- places that come to others

pub gains_none : (Has : ℕ → Type 0) (xs : List ℕ) → ((p : ℕ) → Has p → ⊥) → Gains Has xs xs
unfolding Gains
gains_none Has xs none = λ p. (λ w. inl w, λ w. only p w)
  where
    only : (p : ℕ) → Contains xs p ⊎ Has p → Contains xs p
    only p (inl there) = there
    only p (inr has) = absurd (none p has)

pub gains_one : (Has : ℕ → Type 0) (xs ys : List ℕ) (q : ℕ) → ys ≡ xs ++ q ∷ [] → Has q → ((p : ℕ) → Has p → p ≡ q) → Gains Has xs ys
unfolding Gains
gains_one Has xs ys q now has only = λ p. (λ w. from p (Contains-push_cases xs q p (subst (λ l. Contains l p) now w)), λ w. subst (λ l. Contains l p) (sym now) (to p w))
  where
    from : (p : ℕ) → Contains xs p ⊎ (q ≡ p) → Contains xs p ⊎ Has p
    from p (inl there) = inl there
    from p (inr same) = inr (subst Has same has)

    to : (p : ℕ) → Contains xs p ⊎ Has p → Contains (xs ++ q ∷ []) p
    to p (inl there) = Contains-append_left xs (q ∷ []) p there
    to p (inr its) = subst (Contains (xs ++ q ∷ [])) (sym (only p its)) (Contains-push xs q)

pub gains_both : (P Q : ℕ → Type 0) (xs ys zs : List ℕ) → Gains P xs ys → Gains Q ys zs → Gains (λ p. P p ⊎ Q p) xs zs
unfolding Gains
gains_both P Q xs ys zs first second = λ p. (λ w. from p ((second p).0 w), λ w. (second p).1 (to p w))
  where
    again : (p : ℕ) → Contains xs p ⊎ P p → Contains xs p ⊎ (P p ⊎ Q p)
    again p (inl there) = inl there
    again p (inr its) = inr (inl its)

    from : (p : ℕ) → Contains ys p ⊎ Q p → Contains xs p ⊎ (P p ⊎ Q p)
    from p (inl there) = again p ((first p).0 there)
    from p (inr its) = inr (inr its)

    to : (p : ℕ) → Contains xs p ⊎ (P p ⊎ Q p) → Contains ys p ⊎ Q p
    to p (inl there) = inl ((first p).1 (inl there))
    to p (inr (inl its)) = inl ((first p).1 (inr its))
    to p (inr (inr its)) = inr its

pub gains_as : (P Q : ℕ → Type 0) (xs ys : List ℕ) → ((p : ℕ) → P p → Q p) → ((p : ℕ) → Q p → P p) → Gains P xs ys → Gains Q xs ys
unfolding Gains
gains_as P Q xs ys to from gained = λ p. (λ w. forth p ((gained p).0 w), λ w. (gained p).1 (back p w))
  where
    forth : (p : ℕ) → Contains xs p ⊎ P p → Contains xs p ⊎ Q p
    forth p (inl there) = inl there
    forth p (inr its) = inr (to p its)

    back : (p : ℕ) → Contains xs p ⊎ Q p → Contains xs p ⊎ P p
    back p (inl there) = inl there
    back p (inr its) = inr (from p its)

-- ---- the set of a hash

was_seen : (sets : List SeenSet) (hash : List ℕ) (p : ℕ) → IsPlaceOf sets hash p → WasSeen sets hash
was_seen [] hash zero is = absurd is
was_seen [] hash (suc p) is = absurd is
was_seen (s ∷ sets) hash zero is = (0, s, omega arith, refl, is)
was_seen (s ∷ sets) hash (suc p) is =
    let (k, t, small, read, same) = was_seen sets hash p is in
    (suc k, t, omega (arith, small), read, same)

pub not_seen : (sets : List SeenSet) (hash : List ℕ) (xs : List ℕ) → (WasSeen sets hash → ⊥) → Gains (IsPlaceOf sets hash) xs xs
not_seen sets hash xs none = gains_none (IsPlaceOf sets hash) xs (λ p is. none (was_seen sets hash p is))

-- ---- those that one of some elements names

any_cases : {A : Type 0} (P : A → Type 0) (xs : List A) (x : A) → Any P (xs ++ x ∷ []) → Any P xs ⊎ P x
any_cases P [] x (zero, y, small, is, p) = inr (subst P (sym is) p)
any_cases P [] x (suc k, y, small, is, p) = absurd (omega (arith, small))
any_cases P (y ∷ xs) x (zero, z, small, is, p) = inl (zero, z, omega arith, is, p)
any_cases P (y ∷ xs) x (suc k, z, small, is, p) = further (any_cases P xs x (k, z, omega (arith, small), is, p))
  where
    further : Any P xs ⊎ P x → Any P (y ∷ xs) ⊎ P x
    further (inl (j, a, low, at, has)) = inl (suc j, a, omega (arith, low), at, has)
    further (inr has) = inr has

any_left : {A : Type 0} (P : A → Type 0) (xs : List A) (x : A) → Any P xs → Any P (xs ++ x ∷ [])
any_left P [] x (k, y, small, is, p) = absurd (omega (arith, small))
any_left P (y ∷ xs) x (zero, z, small, is, p) = (zero, z, omega arith, is, p)
any_left P (y ∷ xs) x (suc k, z, small, is, p) =
    let (j, a, low, at, has) = any_left P xs x (k, z, omega (arith, small), is, p) in
    (suc j, a, omega (arith, low), at, has)

-- an element more
pub gains_more : {A : Type 0} (Names : ℕ → A → Type 0) (xs : List A) (i : ℕ) (x : A) (old before after : List ℕ) → i < length xs → x ≡ get_or xs i x → Gains (λ p. Any (Names p) (take i xs)) old before
    → Gains (λ p. Names p x) before after → Gains (λ p. Any (Names p) (take (i + 1) xs)) old after
gains_more Names xs i x old before after small is gained more =
    gains_as (λ p. Any (Names p) (take i xs) ⊎ Names p x) (λ p. Any (Names p) (take (i + 1) xs)) old after
    (λ p w. subst (Any (Names p)) (sym longer) (to p w)) (λ p w. any_cases (Names p) (take i xs) x (subst (Any (Names p)) longer w))
    (gains_both (λ p. Any (Names p) (take i xs)) (λ p. Names p x) old before after gained more)
  where
    longer : take (i + 1) xs ≡ take i xs ++ x ∷ []
    longer = take_more xs i x small ∙ ap (λ y. take i xs ++ y ∷ []) (sym is)

    to : (p : ℕ) → Any (Names p) (take i xs) ⊎ Names p x → Any (Names p) (take i xs ++ x ∷ [])
    to p (inl any) = any_left (Names p) (take i xs) x any
    to p (inr its) = Any-push (Names p) (take i xs) x its

pub gains_start : {A : Type 0} (Names : ℕ → A → Type 0) (xs : List A) (old : List ℕ) → Gains (λ p. Any (Names p) (take 0 xs)) old old
gains_start {A = A} Names xs old = gains_none (λ p. Any (Names p) (take 0 xs)) old (λ p w. none p xs w)
  where
    none : (p : ℕ) (ys : List A) → Any (Names p) (take 0 ys) → ⊥
    none p [] (k, y, small, is, has) = omega (arith, small)
    none p (y ∷ ys) (k, z, small, is, has) = omega (arith, small)

pub gains_all : {A : Type 0} (Names : ℕ → A → Type 0) (xs : List A) (i : ℕ) (old now : List ℕ) → length xs ≤ i → Gains (λ p. Any (Names p) (take i xs)) old now → Gains (λ p. Any (Names p) xs) old now
gains_all Names xs i old now whole gained = subst (λ l. Gains (λ p. Any (Names p) l) old now) (take_all i xs whole) gained

-- ---- those that the first so many clients' records name

abbrev pub NextBefore : ℕ → ImportSetup → List (Vec Stored Global) → ℕ → List SeenSet → ℕ → Type 0
NextBefore n setup records place sets p =
    (i : ℕ) × (c : ClientSetup) × (written : Vec Stored Global) × (i < n) × (slice_get setup.clients.items i ≡ Some c) × (slice_get records i ≡ Some written)
    × (c.tracks ≡ place) × Any (NamesNext sets p) written.items

pub next_start : (setup : ImportSetup) (records : List (Vec Stored Global)) (place : ℕ) (sets : List SeenSet) (old : List ℕ) → Gains (NextBefore 0 setup records place sets) old old
next_start setup records place sets old = gains_none (NextBefore 0 setup records place sets) old (λ p w. omega (arith, w.3))

pub next_more : (setup : ImportSetup) (records : List (Vec Stored Global)) (place : ℕ) (sets : List SeenSet) (n : ℕ) (c : ClientSetup) (written : Vec Stored Global) (old before after : List ℕ)
    → n < length setup.clients.items → c ≡ get_or setup.clients.items n c → slice_get records n ≡ Some written → c.tracks ≡ place
    → Gains (NextBefore n setup records place sets) old before → Gains (λ p. Any (NamesNext sets p) written.items) before after → Gains (NextBefore (n + 1) setup records place sets) old after
next_more setup records place sets n c written old before after small is there tracks gained more =
    gains_as (λ p. NextBefore n setup records place sets p ⊎ Any (NamesNext sets p) written.items) (NextBefore (n + 1) setup records place sets) old after to
    (λ p w. from p w (cases_lt w.0 n)) (gains_both (NextBefore n setup records place sets) (λ p. Any (NamesNext sets p) written.items) old before after gained more)
  where
    at : slice_get setup.clients.items n ≡ Some c
    at = slice_get_read setup.clients.items (length setup.clients.items) n c refl small is

    to : (p : ℕ) → NextBefore n setup records place sets p ⊎ Any (NamesNext sets p) written.items → NextBefore (n + 1) setup records place sets p
    to p (inl (i, x, other, low, read, got, follows, any)) = (i, x, other, omega (arith, low), read, got, follows, any)
    to p (inr any) = (n, c, written, omega arith, at, there, tracks, any)

    from : (p : ℕ) (w : NextBefore (n + 1) setup records place sets p) → (w.0 < n) ⊎ (n ≤ w.0) → NextBefore n setup records place sets p ⊎ Any (NamesNext sets p) written.items
    from p (i, x, other, low, read, got, follows, any) (inl earlier) = inl (i, x, other, earlier, read, got, follows, any)
    from p (i, x, other, low, read, got, follows, any) (inr later) =
        let here : i ≡ n = omega (arith, low, later) in
        let same : other ≡ written = same_Some other written (sym got ∙ ap (slice_get records) here ∙ there) in
        inr (subst (λ (y : Vec Stored Global). Any (NamesNext sets p) y.items) same any)

pub next_same : (setup : ImportSetup) (records : List (Vec Stored Global)) (place : ℕ) (sets : List SeenSet) (n : ℕ) (c : ClientSetup) (old now : List ℕ)
    → n < length setup.clients.items → c ≡ get_or setup.clients.items n c → (c.tracks ≡ place → slice_get records n ≡ None)
    → Gains (NextBefore n setup records place sets) old now → Gains (NextBefore (n + 1) setup records place sets) old now
next_same setup records place sets n c old now small is gone gained =
    gains_as (NextBefore n setup records place sets) (NextBefore (n + 1) setup records place sets) old now
    (λ p (i, x, other, low, read, got, follows, any). (i, x, other, omega (arith, low), read, got, follows, any)) (λ p w. from p w (cases_lt w.0 n)) gained
  where
    at : slice_get setup.clients.items n ≡ Some c
    at = slice_get_read setup.clients.items (length setup.clients.items) n c refl small is

    from : (p : ℕ) (w : NextBefore (n + 1) setup records place sets p) → (w.0 < n) ⊎ (n ≤ w.0) → NextBefore n setup records place sets p
    from p (i, x, other, low, read, got, follows, any) (inl earlier) = (i, x, other, earlier, read, got, follows, any)
    from p (i, x, other, low, read, got, follows, any) (inr later) =
        let here : i ≡ n = omega (arith, low, later) in
        let same : x ≡ c = same_Some x c (sym read ∙ ap (slice_get setup.clients.items) here ∙ at) in
        let none : slice_get records n ≡ None = gone (ap (λ (y : ClientSetup). y.tracks) (sym same) ∙ follows) in
        absurd (none-some other (sym (sym got ∙ ap (slice_get records) here ∙ none)))

pub next_all : (setup : ImportSetup) (records : List (Vec Stored Global)) (place : ℕ) (sets : List SeenSet) (n : ℕ) (old now : List ℕ) → length setup.clients.items ≤ n
    → Gains (NextBefore n setup records place sets) old now → Gains (IsNextOfRecord setup records place sets) old now
unfolding IsNextOfRecord
next_all setup records place sets n old now whole gained =
    gains_as (NextBefore n setup records place sets) (IsNextOfRecord setup records place sets) old now
    (λ p (i, x, other, low, read, got, follows, any). (i, x, other, read, got, follows, any))
    (λ p (i, x, other, read, got, follows, any). (i, x, other, within i x read, read, got, follows, any)) gained
  where
    within : (i : ℕ) (c : ClientSetup) → slice_get setup.clients.items i ≡ Some c → i < n
    within i c at = omega (arith, whole, slice_get_within setup.clients.items i c at)

-- ---- those that are kept

-- what is sorted, each once, has what was given
pub same_places : (given sorted all : List ℕ) → IsPermutation given sorted → all ≡ dedup (λ (x y : ℕ). x == y) sorted → (p : ℕ) → Contains all p ↔ Contains given p
same_places given sorted all moved is p = (
  λ w. Contains-permutation sorted given p (IsPermutation-sym given sorted moved) (Contains-from_dedup (λ (x y : ℕ). x == y) sorted p (subst (λ l. Contains l p) is w)),
  λ w. subst (λ l. Contains l p) (sym is) (Contains-dedup_nat sorted p (Contains-permutation given sorted p moved w)),
)

-- of places that are sorted, each once
pub keeps_highest : (given all : List ℕ) (kept : KeptSets) → IsStrictlyIncreasing all → ((p : ℕ) → Contains all p ↔ Contains given p) → KeepsHighest all kept → KeepsHighestOf (Contains given) kept
unfolding KeepsHighestOf
keeps_highest given all kept rises same highest = (all, rises, same, highest)

pub keeps_named : (setup : ImportSetup) (records : List (Vec Stored Global)) (place : ℕ) (chain : SeenChain) (named : List ℕ) (kept : KeptSets) → Gains (IsNamed setup records place chain) [] named
    → KeepsHighestOf (Contains named) kept → KeepsHighestOf (IsNamed setup records place chain) kept
unfolding KeepsHighestOf Gains
keeps_named setup records place chain named kept gained (all, rises, same, highest) =
    (all, rises, λ p. (λ w. from p ((gained p).0 ((same p).0 w)), λ w. (same p).1 ((gained p).1 (inr w))), highest)
  where
    from : (p : ℕ) → Contains [] p ⊎ IsNamed setup records place chain p → IsNamed setup records place chain p
    from p (inl (k, small, is)) = absurd (omega (arith, small))
    from p (inr its) = its
