-- Records that are taken once each.
use Rattle.std.proofs.Common.{◌≡◌, ◌≢◌, ◌⊎◌, ℕ, zero, suc, ◌+◌, ◌<◌, ◌≤◌, List, [], ◌∷◌, ◌++◌, length, get_or, take, map, Option, Some, None, Ok, Err, All, inl, inr, refl, sym, subst, ap, ◌∙◌, arith}
use Rattle.std.specs.Prelude.{Any, Contains, IfErr, IfOk, IfSome, IsSomeAnd, MatchOption, Result}
use Rattle.std.specs.List.Sorted.{IsNonDecreasingBy, IsPermutation, IsStrictlyIncreasing}
use Rattle.std.proofs.lemmas.Bool.{cases_lt}
use Rattle.std.proofs.lemmas.List.{get_or-take, get_or_default, length-map, length-take-le, map_push, take_more}
use Rattle.std.proofs.lemmas.List.Elements.{All-contains, All-map, All-more, All-nil, All-push, Contains-append_left, Contains-push}
use Rattle.std.proofs.lemmas.List.Sorted.{All-permutation, Contains-permutation, IsPermutation-sym}
use Rattle.rb_import_answers.specs.declared.client.ConsensusState.{ConsensusState}
use Rattle.rb_import_check.specs.declared.client.Stored.{Stored}
use Rattle.rb_import_check.specs.declared.error.ImportError.{ImportError}
use Rattle.rb_import_check.specs.declared.error.ImportError.TheVariants as errors
use Rattle.rb_import_check.specs.Clients.{AreFilesInSomeOrder, AreStatesInSomeOrder, AreStatesOfFiles, FiledState, HaveStates, filed_state}
use Rattle.rb_import_check.specs.Named.{NamesTwo, NamesTwoAmong}
use Rattle.rb_import_check.proofs.Pages.{rises_push}

abbrev pub height_of : Stored → ℕ
height_of s = s.state.now.height

abbrev pub state_of : Stored → ConsensusState
state_of s = s.state.now

-- it is one of these, and none is higher; where there is none, these are none
abbrev pub IsHighest : List Stored → Option Stored → Type 0
IsHighest stored last = MatchOption last (stored ≡ []) (λ l. Contains stored l × All (λ (s : Stored). height_of s ≤ height_of l) stored)

pub none_among : (told : List Stored) → All (Contains (take 0 told)) []
none_among told = All-nil _

-- those so far are so among one more
among_more : (told : List Stored) (i : ℕ) (s : Stored) (stored : List Stored) → i < length told → s ≡ get_or told i s → All (Contains (take i told)) stored → All (Contains (take (i + 1) told)) stored
among_more told i s stored small is among = λ k d within.
    subst (λ l. Contains l (get_or stored k d)) (sym (take_more told i s small)) (Contains-append_left (take i told) (get_or told i s ∷ []) (get_or stored k d) (among k d within))

here : (told : List Stored) (i : ℕ) (s : Stored) → i < length told → s ≡ get_or told i s → Contains (take (i + 1) told) s
here told i s small is =
    subst (λ l. Contains l s) (sym (take_more told i s small ∙ ap (λ x. take i told ++ x ∷ []) (sym is))) (Contains-push (take i told) s)

among_push : (told : List Stored) (i : ℕ) (s : Stored) (stored : List Stored) → i < length told → s ≡ get_or told i s → All (Contains (take i told)) stored → All (Contains (take (i + 1) told)) (stored ++ s ∷ [])
among_push told i s stored small is among = All-push (Contains (take (i + 1) told)) stored s (among_more told i s stored small is among) (here told i s small is)

contains_view : {A : Type 0} (view : Stored → A) (xs : List Stored) (s : Stored) → Contains xs s → Contains (map view xs) (view s)
contains_view view xs s (k, small, is) = (k, subst (λ n. k < n) (sym (length-map xs view)) small, at xs k s small ∙ ap view is)
  where
    at : (ys : List Stored) (k : ℕ) (d : Stored) → k < length ys → get_or (map view ys) k (view d) ≡ view (get_or ys k d)
    at [] k d small = absurd (omega (arith, small))
    at (y ∷ ys) zero d small = refl
    at (y ∷ ys) (suc k) d small = at ys k d (omega (arith, small))

-- a record that repeats one that is taken
all_repeated : (told : List Stored) (i : ℕ) (s : Stored) (stored : List Stored) (last : Option Stored) → i < length told → s ≡ get_or told i s → IsHighest stored last
    → IsSomeAnd last (λ l. l.state.now ≡ s.state.now) → All (λ (t : Stored). Contains (map state_of stored) t.state.now) (take i told)
    → All (λ (t : Stored). Contains (map state_of stored) t.state.now) (take (i + 1) told)
all_repeated told i s stored (Some l) small is highest same all =
    All-more (λ (t : Stored). Contains (map state_of stored) t.state.now) told i s small all
    (subst (λ (t : Stored). Contains (map state_of stored) t.state.now) is (subst (Contains (map state_of stored)) same (contains_view state_of stored l highest.0)))
all_repeated told i s stored None small is highest same all = absurd same

-- and one that is taken
all_push : (told : List Stored) (i : ℕ) (s : Stored) (stored : List Stored) → i < length told → s ≡ get_or told i s
    → All (λ (t : Stored). Contains (map state_of stored) t.state.now) (take i told) → All (λ (t : Stored). Contains (map state_of (stored ++ s ∷ [])) t.state.now) (take (i + 1) told)
all_push told i s stored small is all =
    All-more (λ (t : Stored). Contains (map state_of (stored ++ s ∷ [])) t.state.now) told i s small
    (λ k d within. subst (λ l. Contains l (state_of (get_or (take i told) k d))) (sym (map_push state_of stored s)) (Contains-append_left (map state_of stored) (state_of s ∷ []) _ (all k d within)))
    (subst (λ (t : Stored). Contains (map state_of (stored ++ s ∷ [])) t.state.now) is (contains_view state_of (stored ++ s ∷ []) s (Contains-push stored s)))

-- one of the records so far isn't above the next
not_above : (told : List Stored) (i : ℕ) (s l : Stored) → IsNonDecreasingBy height_of told → i < length told → s ≡ get_or told i s → Contains (take i told) l → height_of l ≤ height_of s
not_above told i s l order small is (k, within, at) =
    let low : k < i = subst (λ n. k < n) (length-take-le i told (omega (arith, small))) within in
    let there : l ≡ get_or told k l = sym at ∙ get_or-take i told k l low in
    let up : height_of (get_or told k l) ≤ height_of (get_or told i l) = order k i l (omega (arith, low)) small in
    let first : height_of l ≡ height_of (get_or told k l) = ap height_of there in
    let second : height_of s ≡ height_of (get_or told i l) = ap height_of (is ∙ get_or_default told i s l small) in
    omega (arith, up, first, second)

below : (last : Option Stored) (s : Stored) (stored : List Stored) → IsHighest stored last → IfSome last (λ l. height_of l < height_of s) → All (λ (t : Stored). height_of t < height_of s) stored
below (Some l) s stored highest less = λ k d within. let low = highest.1 k d within in omega (arith, low, less)
below None s stored none less = subst (All (λ (t : Stored). height_of t < height_of s)) (sym none) (All-nil _)

apart : (m n : ℕ) → m ≤ n → (m ≡ n → ⊥) → m < n
apart m n le other = elim (cases_lt m n) [ inl low ↦ low | inr up ↦ absurd (other (omega (arith, le, up))) ]

-- a record of another height than the last one is above those that are taken
higher : (told : List Stored) (i : ℕ) (s : Stored) (stored : List Stored) (last : Option Stored) → IsNonDecreasingBy height_of told → i < length told → s ≡ get_or told i s
    → All (Contains (take i told)) stored → IsHighest stored last → IfSome last (λ l. height_of l ≢ height_of s) → All (λ (t : Stored). height_of t < height_of s) stored
higher told i s stored (Some l) order small is among highest other =
    below (Some l) s stored highest (apart (height_of l) (height_of s) (not_above told i s l order small is (All-contains (Contains (take i told)) stored l among highest.0)) other)
higher told i s stored None order small is among highest other = below None s stored highest tt

rising_push : (told : List Stored) (i : ℕ) (s : Stored) (stored : List Stored) (last : Option Stored) → IsNonDecreasingBy height_of told → i < length told → s ≡ get_or told i s
    → All (Contains (take i told)) stored → IsHighest stored last → IfSome last (λ l. height_of l ≢ height_of s) → IsStrictlyIncreasing (map height_of stored)
    → IsStrictlyIncreasing (map height_of (stored ++ s ∷ []))
rising_push told i s stored last order small is among highest other rising =
    subst IsStrictlyIncreasing (sym (map_push height_of stored s))
    (rises_push (map height_of stored) (height_of s) rising (All-map (λ n. n < height_of s) height_of stored (higher told i s stored last order small is among highest other)))

highest_push : (told : List Stored) (i : ℕ) (s : Stored) (stored : List Stored) (last : Option Stored) → IsNonDecreasingBy height_of told → i < length told → s ≡ get_or told i s
    → All (Contains (take i told)) stored → IsHighest stored last → IfSome last (λ l. height_of l ≢ height_of s) → IsHighest (stored ++ s ∷ []) (Some s)
highest_push told i s stored last order small is among highest other =
    (Contains-push stored s, All-push (λ (t : Stored). height_of t ≤ height_of s) stored s (weaker (higher told i s stored last order small is among highest other)) (omega arith))
  where
    weaker : All (λ (t : Stored). height_of t < height_of s) stored → All (λ (t : Stored). height_of t ≤ height_of s) stored
    weaker low k d within = let less = low k d within in omega (arith, less)

-- what holds of the records that are taken, after so many
abbrev pub AreTaken : List Stored → ℕ → List Stored → Option Stored → Type 0
AreTaken told i stored last =
    IsStrictlyIncreasing (map height_of stored) × All (Contains (take i told)) stored
    × All (λ (t : Stored). Contains (map state_of stored) t.state.now) (take i told) × IsHighest stored last

pub one_taken : (told : List Stored) (i : ℕ) (s : Stored) (stored : List Stored) (last : Option Stored) → IsNonDecreasingBy height_of told → i < length told → s ≡ get_or told i s
    → IfSome last (λ l. height_of l ≢ height_of s) → AreTaken told i stored last → AreTaken told (i + 1) (stored ++ s ∷ []) (Some s)
one_taken told i s stored last order small is other (rising, among, all, highest) = (
  rising_push told i s stored last order small is among highest other rising,
  among_push told i s stored small is among,
  all_push told i s stored small is all,
  highest_push told i s stored last order small is among highest other,
)

pub one_repeated : (told : List Stored) (i : ℕ) (s : Stored) (stored : List Stored) (last : Option Stored) → i < length told → s ≡ get_or told i s
    → IsSomeAnd last (λ l. l.state.now ≡ s.state.now) → AreTaken told i stored last → AreTaken told (i + 1) stored last
one_repeated told i s stored last small is same (rising, among, all, highest) =
    (rising, among_more told i s stored small is among, all_repeated told i s stored last small is highest same all, highest)

-- the last record and the next are two of all
pub two_among : (told : List Stored) (i : ℕ) (s : Stored) (stored : List Stored) (last : Option Stored) (e : ImportError) → i < length told → s ≡ get_or told i s
    → All (Contains (take i told)) stored → IsHighest stored last → IsSomeAnd last (λ l. NamesTwo l s e) → NamesTwoAmong told e
two_among told i s stored (Some l) (errors.CheckError p) small is among highest names =
    let (k, within, at) = All-contains (Contains (take i told)) stored l among highest.0 in
    let low : k < i = subst (λ n. k < n) (length-take-le i told (omega (arith, small))) within in
    (k, l, omega (arith, low, small), sym (get_or-take i told k l low) ∙ at, (i, s, small, sym is, names))
two_among told i s stored (Some l) errors.NoMemory small is among highest names = tt
two_among told i s stored None (errors.CheckError p) small is among highest names = absurd names
two_among told i s stored None errors.NoMemory small is among highest names = tt

-- ---- what was told

-- what holds of all that were told holds of those that are taken
pub all_taken : (P : Stored → Type 0) (told stored : List Stored) → All P told → All (Contains told) stored → All P stored
all_taken P told stored all among = λ k d small. All-contains P told (get_or stored k d) all (among k d small)

viewed : {A : Type 0} (view : Stored → A) (all : List A) (told stored : List Stored) → IsPermutation all (map view told) → All (Contains told) stored → All (λ (s : Stored). Contains all (view s)) stored
viewed view all told stored same among = λ k d small.
    Contains-permutation (map view told) all (view (get_or stored k d)) (IsPermutation-sym all _ same) (contains_view view told (get_or stored k d) (among k d small))

pub have_states : (states : List ConsensusState) (told stored : List Stored) → AreStatesInSomeOrder states told → All (Contains told) stored
    → All (λ (s : Stored). Contains (map state_of stored) s.state.now) told → HaveStates states stored
have_states states told stored same among all =
    (viewed state_of states told stored same among, All-permutation (Contains (map state_of stored)) (map state_of told) states (IsPermutation-sym states _ same) (All-map (Contains (map state_of stored)) state_of told all))

pub are_of_files : (files : List FiledState) (told stored : List Stored) → AreFilesInSomeOrder files told → All (Contains told) stored → AreStatesOfFiles files stored
are_of_files files told stored same among = viewed filed_state files told stored same among

-- what follows of a result follows of each
pub ok_so : {A E : Type 0} (P Q R : A → Type 0) (r : Result A E) → ((a : A) → P a → Q a → R a) → IfOk r P → IfOk r Q → IfOk r R
ok_so P Q R (Ok a) so p q = so a p q
ok_so P Q R (Err e) so p q = tt

pub err_so : {A E : Type 0} (P Q : E → Type 0) (r : Result A E) → ((e : E) → P e → Q e) → IfErr r P → IfErr r Q
err_so P Q (Ok a) so p = tt
err_so P Q (Err e) so p = so e p

pub ruleset repeating = (none_among, two_among)
