-- Why a chain's answers are refused.
use Rattle.std.proofs.Common.{◌≡◌, ◌≢◌, ℕ, zero, suc, ◌+◌, ◌<◌, ◌≤◌, ◌==◌, List, [], ◌∷◌, ◌++◌, length, get_or, take, map, All, Bool, true, false, cond, inl, inr, refl, sym, subst, ap, ◌∙◌, arith, eq-eqb}
use Rattle.std.specs.Prelude.{Any, Contains, count_by, sum_by, slice_index, string_bytes}
use Rattle.std.specs.List.{flat_map}
use Rattle.std.specs.List.Sorted.{IsNonDecreasingBy, IsPermutation, IsStrictlyIncreasing}
use Rattle.std.proofs.lemmas.Bool.{eqb-true, ne_eqb}
use Rattle.std.proofs.lemmas.List.Elements.{All-tail}
use Rattle.std.proofs.lemmas.List.Kept.{AllPairs-from_increasing}
use Rattle.std.proofs.lemmas.List.{length-append}
use Rattle.std.proofs.lemmas.List.Sums.{sum_by-cons}
use Rattle.std.proofs.lemmas.List.Sorted.{sum_by-IsPermutation, Contains-permutation, IsPermutation-sym}
use Rattle.rb_import_answers.specs.declared.answer.NodeAnswer.{NodeAnswer}
use Rattle.rb_import_answers.specs.declared.answer.NodeAnswer.TheVariants as answers
use Rattle.rb_import_answers.specs.declared.commit.SignedHeader.{SignedHeader}
use Rattle.rb_import_answers.specs.declared.query.OtherQuery.{OtherQuery}
use Rattle.rb_import_answers.specs.declared.validators.ValidatorsPage.{ValidatorsPage}
use Rattle.rb_import_answers.specs.declared.verdicts.Verdicts.{Verdicts}
use Rattle.rb_import_check.specs.declared.chain.Commit.{Commit}
use Rattle.rb_import_check.specs.declared.error.CheckErrorName.{CheckErrorName}
use Rattle.rb_import_check.specs.declared.error.ImportError.{ImportError}
use Rattle.rb_import_check.specs.declared.error.ImportError.TheVariants as errors
use Rattle.rb_import_check.specs.declared.saved.Saved.{Saved}
use Rattle.rb_import_check.specs.Chains.{AreOfDifferentHeights, Filed, HaveHeaders, IsOfChain, IsOfItsBlock, headers_in, headers_of}
use Rattle.rb_import_check.specs.Clients.{Falls}
use Rattle.rb_import_check.specs.Errors.{IsTold}
use Rattle.rb_import_check.specs.Refusals.{HasReasonOf, Refuses, is_of_chain}
use Rattle.rb_import_check.specs.Verdicts.{TellsOtherVotes, verdict_list, verdicts_in, verdicts_of}
use Rattle.rb_import_check.proofs.ReasonsLemmas.{any_one}
use Rattle.rb_import_check.proofs.Sorting.{taken}

-- ---- what belongs elsewhere

pub is_elsewhere : (a : NodeAnswer) → ((header : SignedHeader) → a ≡ answers.Commit header → ⊥) → ((page : ValidatorsPage) → a ≡ answers.Validators page → ⊥)
    → ((v : Verdicts) → a ≡ answers.Verdicts v → ⊥) → ((query : OtherQuery) → a ≡ answers.Other query → ⊥) → is_of_chain a ≡ false
is_elsewhere (answers.Commit header) first second third fourth = absurd (first header refl)
is_elsewhere (answers.Validators page) first second third fourth = absurd (second page refl)
is_elsewhere (answers.ClientState state) first second third fourth = refl
is_elsewhere (answers.ConsensusStates page) first second third fourth = refl
is_elsewhere (answers.Transactions page) first second third fourth = refl
is_elsewhere (answers.Pending p) first second third fourth = refl
is_elsewhere (answers.Verdicts v) first second third fourth = absurd (third v refl)
is_elsewhere (answers.Other query) first second third fourth = absurd (fourth query refl)

-- ---- what is seen of some element

in_views : {X A : Type 0} (view : X → A) (P : A → Type 0) (xs : List X) → Any (λ x. P (view x)) xs → (a : A) × Contains (map view xs) a × P a
in_views view P [] (k, x, small, is, p) = absurd (omega (arith, small))
in_views view P (y ∷ xs) (zero, x, small, is, p) = (view x, (zero, omega arith, ap view is), p)
in_views view P (y ∷ xs) (suc k, x, small, is, p) =
    let w = in_views view P xs (k, x, omega (arith, small), is, p) in
    (w.0, (suc w.1.0, omega (arith, w.1.1), w.1.2), w.2)

-- what holds of the view of some element holds of some view
pub any_map : {X A : Type 0} (view : X → A) (P : A → Type 0) (xs : List X) → Any (λ x. P (view x)) xs → Any P (map view xs)
any_map view P xs w = let found = in_views view P xs w in (found.1.0, found.0, found.1.1, found.1.2, found.2)

pub any_viewed : {X A : Type 0} (view : X → A) (P : A → Type 0) (all : List A) (xs : List X) → IsPermutation all (map view xs) → Any (λ x. P (view x)) xs → Any P all
any_viewed view P all xs same w =
    let found = in_views view P xs w in
    let there = Contains-permutation _ all found.0 (IsPermutation-sym all _ same) found.1 in
    (there.0, found.0, there.1, there.2, found.2)

-- ---- two of one height

module _ {X A : Type 0} (view : X → A) (height : A → ℕ) where
  at_height : ℕ → A → Bool
  at_height h a = height a == h

  sum_map : (h : ℕ) (xs : List X) → count_by (λ a. height a == h) (map view xs) ≡ count_by (λ x. height (view x) == h) xs
  sum_map h [] = refl
  sum_map h (x ∷ xs) =
      sum_by-cons (λ a. cond (height a == h) 1 0) (view x) (map view xs)
      ∙ ap (λ n. cond (height (view x) == h) 1 0 + n) (sum_map h xs) ∙ sym (sum_by-cons (λ y. cond (height (view y) == h) 1 0) x xs)

  two_at : (h : ℕ) (xs : List X) (i : ℕ) (d : X) → i + 1 < length xs → height (view (get_or xs i d)) ≡ h → height (view (get_or xs (i + 1) d)) ≡ h → 1 < count_by (λ x. height (view x) == h) xs
  two_at h [] i d small one two = absurd (omega arith)
  two_at h (x ∷ []) i d small one two = absurd (omega arith)
  two_at h (x ∷ y ∷ xs) zero d small one two =
      let f : X → ℕ = λ z. cond (height (view z) == h) 1 0 in
      let first : f x ≡ 1 = ap (λ b. cond b 1 0) (eq-eqb (height (view x)) h one) in
      let second : f y ≡ 1 = ap (λ b. cond b 1 0) (eq-eqb (height (view y)) h two) in
      let whole : sum_by f (x ∷ y ∷ xs) ≡ f x + sum_by f (y ∷ xs) = sum_by-cons f x (y ∷ xs) in
      let rest : sum_by f (y ∷ xs) ≡ f y + sum_by f xs = sum_by-cons f y xs in
      omega arith
  two_at h (x ∷ y ∷ xs) (suc i) d small one two =
      let f : X → ℕ = λ z. cond (height (view z) == h) 1 0 in
      let next : suc i + 1 ≡ suc (i + 1) = omega arith in
      let below : 1 < sum_by f (y ∷ xs) = two_at h (y ∷ xs) i d (omega arith) one (subst (λ k. height (view (get_or (x ∷ y ∷ xs) k d)) ≡ h) next two) in
      let whole : sum_by f (x ∷ y ∷ xs) ≡ f x + sum_by f (y ∷ xs) = sum_by-cons f x (y ∷ xs) in
      omega arith

  index_map : (xs : List X) (k : ℕ) (d : X) → k < length xs → slice_index (map (λ x. height (view x)) xs) k ≡ height (view (get_or xs k d))
  index_map [] k d small = absurd (omega arith)
  index_map (x ∷ xs) zero d small = refl
  index_map (x ∷ xs) (suc k) d small = index_map xs k d (omega arith)

  length_map : (xs : List X) → length (map (λ x. height (view x)) xs) ≡ length xs
  length_map [] = refl
  length_map (x ∷ xs) = ap (λ n. suc n) (length_map xs)

  pub two_of_one : (all : List A) (xs : List X) → IsPermutation all (map view xs) → IsNonDecreasingBy (λ x. height (view x)) xs → Falls (map (λ x. height (view x)) xs)
      → (h : ℕ) × (1 < count_by (λ a. height a == h) all)
  two_of_one all [] same order (i, small, low) = absurd (omega arith)
  two_of_one all (x ∷ xs) same order (i, small, low) =
      let these : List X = x ∷ xs in
      let in_range : i + 1 < length these = subst (λ n. i + 1 < n) (length_map these) small in
      let one : slice_index (map (λ y. height (view y)) these) i ≡ height (view (get_or these i x)) = index_map these i x (omega arith) in
      let two : slice_index (map (λ y. height (view y)) these) (i + 1) ≡ height (view (get_or these (i + 1) x)) = index_map these (i + 1) x in_range in
      let rising : height (view (get_or these i x)) ≤ height (view (get_or these (i + 1) x)) = order i (i + 1) x (omega arith) in_range in
      let both : height (view (get_or these (i + 1) x)) ≡ height (view (get_or these i x)) = omega arith in
      let h : ℕ = height (view (get_or these i x)) in
      let many : 1 < count_by (λ y. height (view y) == h) these = two_at h these i x in_range refl both in
      (h, subst (λ n. 1 < n) (sym (sum_map h these) ∙ sum_by-IsPermutation (λ a. cond (height a == h) 1 0) all _ same) many)

-- ---- one of each height

none_at : (h : ℕ) (ns : List ℕ) → All (λ n. h < n) ns → count_by (λ n. n == h) ns ≡ 0
none_at h [] above = refl
none_at h (n ∷ ns) above =
    let f : ℕ → ℕ = λ m. cond (m == h) 1 0 in
    let high : h < n = above 0 n (omega arith) in
    let own : f n ≡ 0 = ap (λ b. cond b 1 0) (ne_eqb n h (omega (arith, high))) in
    let rest : sum_by f ns ≡ 0 = none_at h ns (All-tail (λ m. h < m) n ns above) in
    let whole : sum_by f (n ∷ ns) ≡ f n + sum_by f ns = sum_by-cons f n ns in
    omega (arith, own, rest, whole)

-- the first of numbers that rise, and the others of which one at most is this one
one_first : (h n : ℕ) (ns : List ℕ) → IsStrictlyIncreasing (n ∷ ns) → count_by (λ m. m == h) ns ≤ 1 → count_by (λ m. m == h) (n ∷ ns) ≤ 1
one_first h n ns rises one = at (n == h) refl
  where
    f : ℕ → ℕ
    f m = cond (m == h) 1 0

    whole : sum_by f (n ∷ ns) ≡ f n + sum_by f ns
    whole = sum_by-cons f n ns

    above : All (λ m. n < m) ns
    above k d small = AllPairs-from_increasing (n ∷ ns) rises 0 (suc k) d (omega arith) (omega (arith, small))

    at : (b : Bool) → (n == h) ≡ b → sum_by f (n ∷ ns) ≤ 1
    at true is =
        let same : n ≡ h = eqb-true n h is in
        let own : f n ≡ 1 = ap (λ b. cond b 1 0) is in
        let rest : sum_by f ns ≡ 0 = none_at h ns (subst (λ m. All (λ k. m < k) ns) same above) in
        omega (arith, whole, own, rest)
    at false is =
        let own : f n ≡ 0 = ap (λ b. cond b 1 0) is in
        omega (arith, whole, own, one)

rise_later : (n : ℕ) (ns : List ℕ) → IsStrictlyIncreasing (n ∷ ns) → IsStrictlyIncreasing ns
rise_later n ns rises k small =
    let next : suc k + 1 ≡ suc (k + 1) = omega arith in
    subst (λ j. get_or ns k 0 < get_or (n ∷ ns) j 0) next (rises (suc k) (omega (arith, small)))

-- of numbers that rise one at most is this one
one_at : (h : ℕ) (ns : List ℕ) → IsStrictlyIncreasing ns → count_by (λ n. n == h) ns ≤ 1
one_at h [] rises = omega arith
one_at h (n ∷ ns) rises = one_first h n ns rises (one_at h ns (rise_later n ns rises))

-- where the heights of the commits rise, no two of the headers are of one height
pub one_each : (all : List SignedHeader) (commits : List Commit) → HaveHeaders all commits → IsStrictlyIncreasing (map (λ (c : Commit). c.header.now.height) commits) → AreOfDifferentHeights all
one_each all commits same rises = λ h.
    let f : SignedHeader → ℕ = λ a. cond (a.height == h) 1 0 in
    let moved : sum_by f (map (λ (c : Commit). c.header.now) commits) ≡ sum_by f all = sum_by-IsPermutation f all _ same in
    let seen : sum_by f (map (λ (c : Commit). c.header.now) commits) ≡ count_by (λ (c : Commit). c.header.now.height == h) commits =
    sum_map (λ (c : Commit). c.header.now) (λ (a : SignedHeader). a.height) h commits in
    let numbers : count_by (λ n. n == h) (map (λ (c : Commit). c.header.now.height) commits) ≡ count_by (λ (c : Commit). c.header.now.height == h) commits =
    sum_map (λ (c : Commit). c.header.now.height) (λ n. n) h commits in
    let one : count_by (λ n. n == h) (map (λ (c : Commit). c.header.now.height) commits) ≤ 1 = one_at h _ rises in
    omega (arith, moved, seen, numbers, one)

-- ---- verdicts

pub longer : {X A : Type 0} (f : X → List A) (xs : List X) (i : ℕ) → length (flat_map f (take i xs)) ≤ length (flat_map f xs)
longer f [] zero = omega arith
longer f [] (suc i) = omega arith
longer f (x ∷ xs) zero = omega arith
longer f (x ∷ xs) (suc i) =
    let more : length (flat_map f (take i xs)) ≤ length (flat_map f xs) = longer f xs i in
    let short : length (f x ++ flat_map f (take i xs)) ≡ length (f x) + length (flat_map f (take i xs)) = length-append (f x) _ in
    let long : length (f x ++ flat_map f xs) ≡ length (f x) + length (flat_map f xs) = length-append (f x) _ in
    omega arith

-- the verdicts at a place are of another chain
pub other_verdicts : (id : List ℕ) (saved : List Saved) (i : ℕ) (s : Saved) (v : Verdicts) → i < length saved → s ≡ get_or saved i s → verdicts_in s.answer ≡ v ∷ [] → v.chain ≢ id
    → Any (λ w. w.chain ≢ id) (verdicts_of saved)
other_verdicts id saved i s v small is there other = any_one (λ (w : Verdicts). w.chain ≢ id) (λ (t : Saved). verdicts_in t.answer) saved i s v small is there other

-- there were verdicts before those at a place
pub two_files : (saved : List Saved) (i : ℕ) (s : Saved) (v w : Verdicts) → i < length saved → s ≡ get_or saved i s → v ∷ [] ≡ verdicts_of (take i saved) → verdicts_in s.answer ≡ w ∷ [] → 1 < length (verdicts_of saved)
two_files saved i s v w small is before there =
    let f : Saved → List Verdicts = λ t. verdicts_in t.answer in
    let both : flat_map f (take (i + 1) saved) ≡ v ∷ w ∷ [] = taken f saved i s small is ∙ ap (λ l. l ++ f s) (sym before) ∙ ap (λ l. v ∷ l) there in
    let two : length (flat_map f (take (i + 1) saved)) ≡ 2 = ap length both in
    let most : length (flat_map f (take (i + 1) saved)) ≤ length (flat_map f saved) = longer f saved (i + 1) in
    omega arith

-- ---- the reasons of the errors

pub tells_chain : (id : List ℕ) (saved : List Saved) (commits : List Commit) (e : ImportError) → HaveHeaders (headers_of saved) commits
    → IsTold CheckErrorName.OtherChain (Any (λ c. ¬ IsOfChain id c) commits) e → HasReasonOf id saved e
tells_chain id saved commits (errors.CheckError p) same w =
    subst (λ name. Refuses name id saved) (sym w.0)
    (inl (any_viewed (λ (c : Commit). c.header.now) (λ (h : SignedHeader). h.chain ≢ id) (headers_of saved) commits same w.1))
tells_chain id saved commits errors.NoMemory same w = tt

pub tells_block : (id : List ℕ) (saved : List Saved) (commits : List Commit) (e : ImportError) → HaveHeaders (headers_of saved) commits
    → IsTold CheckErrorName.OtherHeader (Any (λ c. ¬ IsOfItsBlock c) commits) e → HasReasonOf id saved e
tells_block id saved commits (errors.CheckError p) same w =
    subst (λ name. Refuses name id saved) (sym w.0)
    (any_viewed (λ (c : Commit). c.header.now) (λ (h : SignedHeader). h.hash ≢ h.block) (headers_of saved) commits same w.1)
tells_block id saved commits errors.NoMemory same w = tt

pub tells_twice : (id : List ℕ) (saved : List Saved) (commits : List Commit) (e : ImportError) → HaveHeaders (headers_of saved) commits
    → IsNonDecreasingBy (λ (c : Commit). c.header.now.height) commits
    → IsTold CheckErrorName.TwoAnswers (Falls (map (λ (c : Commit). c.header.now.height) commits)) e → HasReasonOf id saved e
tells_twice id saved commits (errors.CheckError p) same order w =
    subst (λ name. Refuses name id saved) (sym w.0)
    (inr (two_of_one (λ (c : Commit). c.header.now) (λ (h : SignedHeader). h.height) (headers_of saved) commits same order w.1))
tells_twice id saved commits errors.NoMemory same order w = tt

pub tells_votes : (id : List ℕ) (saved : List Saved) (i : ℕ) (s : Saved) (h : SignedHeader) (e : ImportError) → i < length saved → s ≡ get_or saved i s → headers_in s.answer ≡ h ∷ []
    → IsTold CheckErrorName.OtherVerdict (TellsOtherVotes (verdict_list (verdicts_of saved)) s.digest (length h.signatures.items)) e → HasReasonOf id saved e
tells_votes id saved i s h (errors.CheckError p) small is there w =
    subst (λ name. Refuses name id saved) (sym w.0)
    (any_one (λ (f : Filed). TellsOtherVotes (verdict_list (verdicts_of saved)) f.1 (length f.0.signatures.items)) (λ (t : Saved). map (λ (x : SignedHeader). (x, t.digest, string_bytes t.file)) (headers_in t.answer))
    saved i s (h, s.digest, string_bytes s.file) small is (ap (map (λ (x : SignedHeader). (x, s.digest, string_bytes s.file))) there) w.1)
tells_votes id saved i s h errors.NoMemory small is there w = tt
