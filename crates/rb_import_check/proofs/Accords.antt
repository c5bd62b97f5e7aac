-- What a search by height says of a record's header.
use Rattle.std.proofs.Common.{◌≡◌, ℕ, ◌<◌, ◌≤◌, ◌⊎◌, List, length, get_or, map, Ok, Err, inl, inr, sym, subst, ap, ◌∙◌, arith}
use Rattle.std.specs.Prelude.{Any}
use Rattle.std.specs.List.Sorted.{IsStrictlyIncreasing, IsBinarySearchResult}
use Rattle.std.specs.Ordering.{nat_cmp}
use Rattle.std.proofs.lemmas.Bool.{cases_lt}
use Rattle.std.proofs.lemmas.List.{get_or-map, get_or_default, length-map}
use Rattle.std.proofs.lemmas.List.Kept.{AllPairs-from_increasing}
use Rattle.std.proofs.lemmas.List.Sorted.{searched}
use Rattle.rb_import_check.specs.declared.chain.Commit.{Commit}
use Rattle.rb_import_check.specs.declared.client.Stored.{Stored}
use Rattle.rb_import_check.specs.declared.error.CheckErrorName.{CheckErrorName}
use Rattle.rb_import_check.specs.declared.error.ImportError.{ImportError}
use Rattle.rb_import_check.specs.declared.error.ImportError.TheVariants as errors
use Rattle.rb_import_check.specs.Accord.{AgreesWith, DiffersFrom, IsAsHeader, NamesDifference}
use Rattle.rb_import_check.specs.Errors.{IsTold}

abbrev pub height_of : Commit → ℕ
height_of c = c.header.now.height

rise : (xs : List ℕ) → IsStrictlyIncreasing xs → (i j : ℕ) → i < j → j < length xs → get_or xs i 0 < get_or xs j 0
rise xs rises i j below small = AllPairs-from_increasing xs rises i j 0 below small

not_falling : (xs : List ℕ) → IsStrictlyIncreasing xs → (i j : ℕ) → i ≤ j → j < length xs → get_or xs i 0 ≤ get_or xs j 0
not_falling xs rises i j le small =
    elim (cases_lt i j) [
      | inl less ↦ (let up = rise xs rises i j less small in omega (arith, up))
      | inr more ↦ (let same : i ≡ j = omega (arith, le, more) in let e = ap (λ k. get_or xs k 0) same in omega (arith, e))
    ]

at_height : (commits : List Commit) (k : ℕ) (d : Commit) → k < length commits → get_or (map height_of commits) k 0 ≡ height_of (get_or commits k d)
at_height commits k d small = get_or-map height_of commits k d 0 small

-- a record agrees where no header is of its height
pub agrees_where_absent : (commits : List Commit) (s : Stored) (i : ℕ) → IsStrictlyIncreasing (map height_of commits)
    → IsBinarySearchResult (λ y. nat_cmp y s.state.now.height) (map height_of commits) (Err i) → AgreesWith commits s
unfolding AgreesWith
agrees_where_absent commits s i rises answer = λ k d small same. absurd (apart k d small same (cases_lt k i))
  where
    place : (i ≤ length (map height_of commits)) × ((k : ℕ) → k < i → get_or (map height_of commits) k 0 < s.state.now.height) × ((k : ℕ) → i ≤ k → k < length (map height_of commits) → s.state.now.height < get_or (map height_of commits) k 0)
    place = searched (map height_of commits) s.state.now.height (Err i) answer (not_falling (map height_of commits) rises)

    apart : (k : ℕ) (d : Commit) → k < length commits → height_of (get_or commits k d) ≡ s.state.now.height → (k < i) ⊎ (i ≤ k) → ⊥
    apart k d small same (inl before) =
        let low = place.1 k before in
        let is = at_height commits k d small in
        omega (arith, low, is, same)
    apart k d small same (inr behind) =
        let long : length (map height_of commits) ≡ length commits = length-map commits height_of in
        let high = place.2 k behind (omega (arith, long, small)) in
        let is = at_height commits k d small in
        omega (arith, high, is, same)

-- the header at a place that was found is of the record's height
pub found_height : (commits : List Commit) (s : Stored) (i : ℕ) (c : Commit) → IsStrictlyIncreasing (map height_of commits)
    → IsBinarySearchResult (λ y. nat_cmp y s.state.now.height) (map height_of commits) (Ok i) → i < length commits → c ≡ get_or commits i c → height_of c ≡ s.state.now.height
found_height commits s i c rises answer small is =
    let place = searched (map height_of commits) s.state.now.height (Ok i) answer (not_falling (map height_of commits) rises) in
    ap height_of is ∙ sym (at_height commits i c small) ∙ place.1

-- a record agrees where it is as that header
pub agrees_where_found : (commits : List Commit) (s : Stored) (i : ℕ) (c : Commit) → IsStrictlyIncreasing (map height_of commits) → i < length commits → c ≡ get_or commits i c
    → height_of c ≡ s.state.now.height → IsAsHeader s c → AgreesWith commits s
unfolding AgreesWith
agrees_where_found commits s i c rises within is at as_header = λ k d small same. subst (IsAsHeader s) (sym (only k d small same (cases_lt k i) (cases_lt i k))) as_header
  where
    long : length (map height_of commits) ≡ length commits
    long = length-map commits height_of

    here : get_or (map height_of commits) i 0 ≡ s.state.now.height
    here = at_height commits i c within ∙ ap height_of (sym is) ∙ at

    only : (k : ℕ) (d : Commit) → k < length commits → height_of (get_or commits k d) ≡ s.state.now.height → (k < i) ⊎ (i ≤ k) → (i < k) ⊎ (k ≤ i) → get_or commits k d ≡ c
    only k d small same (inl before) other =
        let up = rise (map height_of commits) rises k i before (omega (arith, long, within)) in
        let there = at_height commits k d small in
        absurd (omega (arith, up, there, same, here))
    only k d small same (inr behind) (inl after) =
        let up = rise (map height_of commits) rises i k after (omega (arith, long, small)) in
        let there = at_height commits k d small in
        absurd (omega (arith, up, there, same, here))
    only k d small same (inr behind) (inr before) =
        let k_is : k ≡ i = omega (arith, behind, before) in
        ap (λ j. get_or commits j d) k_is ∙ get_or_default commits i d c within ∙ sym is

-- it doesn't where it isn't as that header
pub disagrees : (commits : List Commit) (s : Stored) (i : ℕ) (c : Commit) → i < length commits → c ≡ get_or commits i c → height_of c ≡ s.state.now.height → (IsAsHeader s c → ⊥) → AgreesWith commits s → ⊥
unfolding AgreesWith
disagrees commits s i c within is at other agrees = other (subst (IsAsHeader s) (sym is) (agrees i c within (ap height_of (sym is) ∙ at)))

-- of some records, where it is told of one
pub tells_other : (commits : List Commit) (stored : List Stored) (i : ℕ) (s : Stored) (e : ImportError) → i < length stored → s ≡ get_or stored i s
    → IsTold CheckErrorName.OtherRecord (AgreesWith commits s → ⊥) e → IsTold CheckErrorName.OtherRecord (Any (λ (x : Stored). ¬ AgreesWith commits x) stored) e
tells_other commits stored i s (errors.CheckError p) small is w = (w.0, (i, s, small, sym is, w.1))
tells_other commits stored i s errors.NoMemory small is w = tt

-- of some records, where it names one and its header
pub names_difference : (commits : List Commit) (stored : List Stored) (i : ℕ) (s : Stored) (e : ImportError) → i < length stored → s ≡ get_or stored i s
    → Any (λ c. DiffersFrom c s e) commits → NamesDifference commits stored e
names_difference commits stored i s (errors.CheckError p) small is w = (i, s, small, sym is, w)
names_difference commits stored i s errors.NoMemory small is w = tt

pub ruleset according = (tells_other, agrees_where_found, disagrees)
