-- What the answers of a client have that are refused.
use Rattle.std.proofs.Common.{◌≡◌, ◌≢◌, ◌⊎◌, ℕ, zero, suc, ◌+◌, ◌<◌, ◌≤◌, ◌==◌, List, [], ◌∷◌, ◌++◌, length, get_or, take, map, filter, Option, Some, None, Bool, true, false, cond, inl, inr, refl, sym, subst, ap, ◌∙◌, All, arith, eq-eqb}
use Rattle.std.proofs.lemmas.Bool.{leb-true}
use Rattle.std.specs.Prelude.{Any, Contains, nat_le, MatchOption, count_by, sum_by, slice_index}
use Rattle.std.specs.List.{flat_map}
use Rattle.std.specs.List.Sorted.{IsNonDecreasingBy}
use Rattle.std.specs.Str.Parse.{digits_value}
use Rattle.std.proofs.lemmas.List.{length-append}
use Rattle.std.proofs.lemmas.List.Sums.{sum_by-cons}
use Rattle.std.proofs.lemmas.List.Sorted.{sum_by-IsPermutation, Contains-permutation, IsPermutation-sym}
use Rattle.rb_import_answers.specs.Revisions.{IsRevision, IsNumbered, at_last_dash}
use Rattle.rb_import_answers.specs.declared.answer.NodeAnswer.{NodeAnswer}
use Rattle.rb_import_answers.specs.declared.answer.NodeAnswer.TheVariants as answers
use Rattle.rb_import_answers.specs.declared.client.TendermintClientState.{TendermintClientState}
use Rattle.rb_import_answers.specs.declared.client.ConsensusPage.{ConsensusPage}
use Rattle.rb_import_answers.specs.declared.client.ConsensusState.{ConsensusState}
use Rattle.rb_import_answers.specs.declared.query.OtherQuery.{OtherQuery}
use Rattle.rb_import_setup.specs.declared.setup.ClientSetup.{ClientSetup}
use Rattle.rb_import_check.specs.declared.client.Stored.{Stored}
use Rattle.rb_import_check.specs.declared.error.CheckError.{CheckError}
use Rattle.rb_import_check.specs.declared.error.CheckErrorName.{CheckErrorName}
use Rattle.rb_import_check.specs.declared.error.ImportError.{ImportError}
use Rattle.rb_import_check.specs.declared.error.ImportError.TheVariants as errors
use Rattle.rb_import_check.specs.declared.saved.Saved.{Saved}
use Rattle.rb_import_check.specs.Clients.{AreStatesInSomeOrder, HasReason, HasOtherRevision, HasTwoRecords, TellsTwice, Refuses, IsOfRevision, client_states_in, client_states_of, stored_of, current_of, is_of_client}
use Rattle.rb_import_check.specs.Errors.{IsTold}
use Rattle.rb_import_check.specs.Named.{NamesTwo, NamesTwoAmong}
use Rattle.rb_import_check.proofs.Sorting.{taken}

-- ---- one revision

same_number : (o : Option (List ℕ × List ℕ)) (n m : ℕ) (P : List ℕ × List ℕ → Type 0) (f : List ℕ × List ℕ → ℕ)
    → MatchOption o (n ≡ 0) (λ parts. (P parts × (n ≡ f parts)) ⊎ ((¬ P parts) × (n ≡ 0)))
    → MatchOption o (m ≡ 0) (λ parts. (P parts × (m ≡ f parts)) ⊎ ((¬ P parts) × (m ≡ 0))) → n ≡ m
same_number None n m P f a b = a ∙ sym b
same_number (Some parts) n m P f (inl a) (inl b) = a.1 ∙ sym b.1
same_number (Some parts) n m P f (inl a) (inr b) = absurd (b.0 a.0)
same_number (Some parts) n m P f (inr a) (inl b) = absurd (a.0 b.0)
same_number (Some parts) n m P f (inr a) (inr b) = a.1 ∙ sym b.1

pub other_revision : (id : List ℕ) (n m : ℕ) → IsRevision id n → m ≢ n → IsRevision id m → ⊥
other_revision id n m is other also = other (same_number (at_last_dash id) m n IsNumbered (λ parts. digits_value 10 parts.1) also is)

-- ---- some element

pub any_there : {A : Type 0} (P : A → Type 0) (x : A) (xs : List A) → Any P xs → Any P (x ∷ xs)
any_there P x xs (k, y, small, is, p) = (suc k, y, omega arith, is, p)

pub any_left : {A : Type 0} (P : A → Type 0) (xs ys : List A) → Any P xs → Any P (xs ++ ys)
any_left P [] ys (k, y, small, is, p) = absurd (omega arith)
any_left P (x ∷ xs) ys (zero, y, small, is, p) = (zero, y, omega arith, is, p)
any_left P (x ∷ xs) ys (suc k, y, small, is, p) = any_there P x (xs ++ ys) (any_left P xs ys (k, y, omega arith, is, p))

any_right : {A : Type 0} (P : A → Type 0) (xs ys : List A) → Any P ys → Any P (xs ++ ys)
any_right P [] ys w = w
any_right P (x ∷ xs) ys w = any_there P x (xs ++ ys) (any_right P xs ys w)

-- what is in an element is in all
any_in : {X A : Type 0} (P : A → Type 0) (f : X → List A) (xs : List X) (i : ℕ) (x : X) → i < length xs → get_or xs i x ≡ x → Any P (f x) → Any P (flat_map f xs)
any_in P f [] i x small is w = absurd (omega arith)
any_in P f (y ∷ xs) zero x small is w = any_left P (f y) (flat_map f xs) (subst (λ z. Any P (f z)) (sym is) w)
any_in P f (y ∷ xs) (suc i) x small is w = any_right P (f y) (flat_map f xs) (any_in P f xs i x (omega arith) is w)

pub any_one : {X A : Type 0} (P : A → Type 0) (f : X → List A) (xs : List X) (i : ℕ) (x : X) (a : A) → i < length xs → x ≡ get_or xs i x → f x ≡ a ∷ [] → P a → Any P (flat_map f xs)
any_one P f xs i x a small is there p = any_in P f xs i x small (sym is) (subst (Any P) (sym there) (zero, a, omega arith, refl, p))

-- ---- what belongs elsewhere

pub is_foreign : (a : NodeAnswer) → ((state : TendermintClientState) → a ≡ answers.ClientState state → ⊥) → ((page : ConsensusPage) → a ≡ answers.ConsensusStates page → ⊥)
    → ((query : OtherQuery) → a ≡ answers.Other query → ⊥) → is_of_client a ≡ false
is_foreign (answers.Commit header) first second third = refl
is_foreign (answers.Validators page) first second third = refl
is_foreign (answers.ClientState state) first second third = absurd (first state refl)
is_foreign (answers.ConsensusStates page) first second third = absurd (second page refl)
is_foreign (answers.Transactions page) first second third = refl
is_foreign (answers.Pending p) first second third = refl
is_foreign (answers.Verdicts v) first second third = refl
is_foreign (answers.Other query) first second third = absurd (third query refl)

-- ---- what the client's states have

pub other_chain : (tracked : List ℕ) (saved : List Saved) (i : ℕ) (s : Saved) (x : TendermintClientState) → i < length saved → s ≡ get_or saved i s → client_states_in s.answer ≡ x ∷ []
    → x.chain ≢ tracked → Any (λ state. state.chain ≢ tracked) (client_states_of saved)
other_chain tracked saved i s x small is there other = any_one (λ (state : TendermintClientState). state.chain ≢ tracked) (λ (t : Saved). client_states_in t.answer) saved i s x small is there other

pub other_state : (tracked : List ℕ) (saved : List Saved) (i : ℕ) (s : Saved) (x : TendermintClientState) (n : ℕ) → i < length saved → s ≡ get_or saved i s → client_states_in s.answer ≡ x ∷ []
    → IsRevision tracked n → x.revision ≢ n → HasOtherRevision tracked saved
other_state tracked saved i s x n small is there number other =
    inl (any_one (λ (state : TendermintClientState). ¬ IsRevision tracked state.revision) (λ (t : Saved). client_states_in t.answer) saved i s x small is there (other_revision tracked n x.revision number other))

longer : {X A : Type 0} (f : X → List A) (xs : List X) (i : ℕ) → length (flat_map f (take i xs)) ≤ length (flat_map f xs)
longer f [] zero = omega arith
longer f [] (suc i) = omega arith
longer f (x ∷ xs) zero = omega arith
longer f (x ∷ xs) (suc i) =
    let more : length (flat_map f (take i xs)) ≤ length (flat_map f xs) = longer f xs i in
    let short : length (f x ++ flat_map f (take i xs)) ≡ length (f x) + length (flat_map f (take i xs)) = length-append (f x) _ in
    let long : length (f x ++ flat_map f xs) ≡ length (f x) + length (flat_map f xs) = length-append (f x) _ in
    omega arith

pub two_states : (tracked : List ℕ) (saved : List Saved) (i : ℕ) (s : Saved) (x y : TendermintClientState) → i < length saved → s ≡ get_or saved i s → x ∷ [] ≡ client_states_of (take i saved)
    → client_states_in s.answer ≡ y ∷ [] → TellsTwice tracked saved
two_states tracked saved i s x y small is before there =
    let f : Saved → List TendermintClientState = λ t. client_states_in t.answer in
    let both : flat_map f (take (i + 1) saved) ≡ x ∷ y ∷ [] = taken f saved i s small is ∙ ap (λ l. l ++ f s) (sym before) ∙ ap (λ l. x ∷ l) there in
    let two : length (flat_map f (take (i + 1) saved)) ≡ 2 = ap length both in
    let most : length (flat_map f (take (i + 1) saved)) ≤ length (flat_map f saved) = longer f saved (i + 1) in
    inl (omega arith)

-- ---- what its records have

abbrev pub height_of : Stored → ℕ
height_of s = s.state.now.height

abbrev pub at_height : ℕ → ConsensusState → Bool
at_height h s = s.height == h

in_map : (P : ConsensusState → Type 0) (stored : List Stored) → Any (λ (s : Stored). P s.state.now) stored → (s : ConsensusState) × Contains (map (λ (t : Stored). t.state.now) stored) s × P s
in_map P [] (k, s, small, is, p) = absurd (omega arith)
in_map P (x ∷ xs) (zero, s, small, is, p) = (s.state.now, (zero, omega arith, ap (λ (t : Stored). t.state.now) is), p)
in_map P (x ∷ xs) (suc k, s, small, is, p) =
    let w = in_map P xs (k, s, omega arith, is, p) in
    (w.0, (suc w.1.0, omega arith, w.1.2), w.2)

above : (m n : ℕ) → m ≤ n → n ≢ m → m < n
above zero zero le other = absurd (other refl)
above zero (suc n) le other = omega arith
above (suc m) zero le other = absurd (omega (arith, le))
above (suc m) (suc n) le other = let w = above m n (omega (arith, le)) (λ e. other (ap (λ k. suc k) e)) in omega (arith, w)

in_states : (P : ConsensusState → Type 0) (states : List ConsensusState) (told : List Stored) → AreStatesInSomeOrder states told → Any (λ (s : Stored). P s.state.now) told → Any P states
in_states P states told same w =
    let found = in_map P told w in
    let there = Contains-permutation _ states found.0 (IsPermutation-sym states _ same) found.1 in
    (there.0, found.0, there.1, there.2, found.2)

any_said : {X : Type 0} (P Q : X → Type 0) (xs : List X) → ((x : X) → P x → Q x) → Any P xs → Any Q xs
any_said P Q xs f (k, x, small, is, p) = (k, x, small, is, f x p)

-- two records of one height that differ are two of the answers
two_records : (states : List ConsensusState) (told : List Stored) (e : CheckError) → AreStatesInSomeOrder states told
    → Any (λ (s : Stored). Any (λ (t : Stored). NamesTwo s t (errors.CheckError e)) told) told → HasTwoRecords states
two_records states told e same w =
    let Two : ConsensusState → ConsensusState → Type 0 = λ a b. (a.height ≡ b.height) × (a ≢ b) in
    in_states (λ (a : ConsensusState). Any (Two a) states) states told same
    (any_said (λ (s : Stored). Any (λ (t : Stored). NamesTwo s t (errors.CheckError e)) told) (λ (s : Stored). Any (Two s.state.now) states) told
    (λ s other. in_states (Two s.state.now) states told same (any_said (λ (t : Stored). NamesTwo s t (errors.CheckError e)) (λ (t : Stored). Two s.state.now t.state.now) told (λ t names. (names.1, names.2)) other))
    w)

pub named_twice : (e : CheckError) (told : List Stored) → Any (λ (s : Stored). Any (λ (t : Stored). NamesTwo s t (errors.CheckError e)) told) told → e.name ≡ CheckErrorName.TwoAnswers
named_twice e told (k, s, small, is, (l, t, less, also, names)) = names.0

-- ---- the reasons of the errors

pub tells_foreign : (setup : ClientSetup) (tracked : List ℕ) (saved : List Saved) (e : ImportError) → IsTold CheckErrorName.WrongFolder (Any (λ s. is_of_client s.answer ≡ false) saved) e
    → HasReason setup tracked saved e
tells_foreign setup tracked saved (errors.CheckError p) w = subst (λ name. Refuses name setup tracked saved) (sym w.0) w.1
tells_foreign setup tracked saved errors.NoMemory w = tt

from_at : (p : ConsensusState → Bool) (Q : ConsensusState → Type 0) (b : Bool) (x : ConsensusState) (xs ys : List ConsensusState) → p x ≡ b
    → (Any Q xs → Any (λ s. (p s ≡ true) × Q s) ys) → Any Q (cond b (x ∷ xs) xs) → Any (λ s. (p s ≡ true) × Q s) (x ∷ ys)
from_at p Q true x xs ys e next (zero, y, small, is, q) = (zero, x, omega arith, refl, (e, subst Q (sym is) q))
from_at p Q true x xs ys e next (suc k, y, small, is, q) = any_there (λ s. (p s ≡ true) × Q s) x ys (next (k, y, omega arith, is, q))
from_at p Q false x xs ys e next w = any_there (λ s. (p s ≡ true) × Q s) x ys (next w)

-- some of those that pass is one of all, and passes
from_filter : (p : ConsensusState → Bool) (Q : ConsensusState → Type 0) (xs : List ConsensusState) → Any Q (filter p xs) → Any (λ s. (p s ≡ true) × Q s) xs
from_filter p Q [] (k, y, small, is, q) = absurd (omega (arith, small))
from_filter p Q (x ∷ xs) w = from_at p Q (p x) x (filter p xs) xs refl (from_filter p Q xs) w

any_so : (P Q : ConsensusState → Type 0) (xs : List ConsensusState) → ((s : ConsensusState) → P s → Q s) → Any P xs → Any Q xs
any_so P Q xs f (k, y, small, is, p) = (k, y, small, is, f y p)

-- one that isn't earlier, and of another revision, is of a later one
later : (revision : ℕ) (saved : List Saved) → Any (λ s. s.revision ≢ revision) (current_of revision saved) → Any (λ s. revision < s.revision) (stored_of saved)
later revision saved w =
    any_so (λ (s : ConsensusState). (nat_le revision s.revision ≡ true) × (s.revision ≢ revision)) (λ (s : ConsensusState). revision < s.revision) (stored_of saved)
    (λ s h. let low : revision ≤ s.revision = leb-true revision s.revision h.0 in above revision s.revision low h.1)
    (from_filter (λ (s : ConsensusState). nat_le revision s.revision) (λ (s : ConsensusState). s.revision ≢ revision) (stored_of saved) w)

pub tells_revision : (setup : ClientSetup) (tracked : List ℕ) (saved : List Saved) (revision : ℕ) (stored : List Stored) (e : ImportError) → IsRevision tracked revision
    → AreStatesInSomeOrder (current_of revision saved) stored → IsTold CheckErrorName.OtherRevision (Any (λ s. s.state.now.revision ≢ revision) stored) e → HasReason setup tracked saved e
tells_revision setup tracked saved revision stored (errors.CheckError p) is same w =
    subst (λ name. Refuses name setup tracked saved) (sym w.0)
    (inr (revision, is, later revision saved (in_states (λ (s : ConsensusState). s.revision ≢ revision) (current_of revision saved) stored same w.1)))
tells_revision setup tracked saved revision stored errors.NoMemory is same w = tt

pub tells_twice : (setup : ClientSetup) (tracked : List ℕ) (saved : List Saved) (revision : ℕ) (told : List Stored) (e : ImportError) → IsRevision tracked revision
    → AreStatesInSomeOrder (current_of revision saved) told → NamesTwoAmong told e → HasReason setup tracked saved e
tells_twice setup tracked saved revision told (errors.CheckError p) is same w =
    subst (λ name. Refuses name setup tracked saved) (sym (named_twice p told w)) (inr (revision, is, two_records (current_of revision saved) told p same w))
tells_twice setup tracked saved revision told errors.NoMemory is same w = tt

-- records of the chain's revision number are of its revision
pub are_of_revision : (tracked : List ℕ) (revision : ℕ) (stored : List Stored) → IsRevision tracked revision → All (λ (s : Stored). s.state.now.revision ≡ revision) stored → All (IsOfRevision tracked) stored
are_of_revision tracked revision stored is h = λ k d small. subst (IsRevision tracked) (sym (h k d small)) is

pub ruleset recording = (tells_foreign, tells_revision, tells_twice, are_of_revision)
