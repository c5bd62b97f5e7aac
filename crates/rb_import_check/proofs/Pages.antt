-- The validators of pages, and the sets of the pages so far.
use Rattle.std.proofs.Common.{◌≡◌, ℕ, ◌+◌, ◌<◌, ◌≤◌, ◌==◌, List, [], ◌∷◌, ◌++◌, length, get_or, take, filter, Bool, true, false, cond, inl, inr, refl, sym, subst, ap, ◌∙◌, All, arith}
use Rattle.std.specs.Prelude.{IfSome, IsSomeAnd, Option, Some, None, slice_get}
use Rattle.std.specs.List.{AllZip}
use Rattle.std.specs.List.Sorted.{IsNonDecreasingBy, IsStrictlyIncreasing}
use Rattle.std.proofs.lemmas.Bool.{cases_lt, eqb-true}
use Rattle.std.proofs.lemmas.Grind.{common_steps}
use Rattle.std.proofs.lemmas.Option.{none-some, same_Some}
use Rattle.std.proofs.lemmas.List.{get_or_default, length-map}
use Rattle.std.proofs.lemmas.List.Elements.{All-tail, All-map, All-more, All-push, All-weaker}
use Rattle.rb_valset.specs.Validator.{Member}
use Rattle.rb_valset.specs.ValidatorSet.{set_hash, in_set_order}
use Rattle.rb_import_answers.specs.declared.validators.ValidatorsPage.{ValidatorsPage}
use Rattle.rb_import_check.specs.declared.chain.Commit.{Commit}
use Rattle.rb_import_check.specs.declared.chain.Page.{Page}
use Rattle.rb_import_check.specs.declared.saved.Saved.{Saved}
use Rattle.rb_import_check.specs.declared.sets.SeenSet.{SeenSet}
use Rattle.rb_import_check.specs.Chains.{AreAllPages, AreWhole, AreSetsAt, HasItsValidators, HasValidators, HaveSets, IsSetAt, IsSetOf, TakesSetOf, pages_at, validators_at, validators_of, without_files}
use Rattle.rb_import_check.specs.Sets.{KeepsSet, WasSeen}
use Rattle.rb_import_check.proofs.ReasonsLemmas.{any_left}

-- ---- how many validators there are

abbrev pub height_of : Page → ℕ
height_of p = p.page.now.height

abbrev pub total_of : Page → ℕ
total_of p = p.page.now.total

-- the pages tell the total of the last one of them
abbrev pub TellTotal : Option Page → List Page → Type 0
TellTotal last pages = All (λ (p : Page). IsSomeAnd last (λ (l : Page). total_of p ≡ total_of l)) pages

pub one_total : (last : Option Page) (pages : List Page) → TellTotal last pages → (total : ℕ) × All (λ (p : Page). total_of p ≡ total) pages
one_total (Some l) pages all = (total_of l, all)
one_total None pages all = (0, λ k d small. absurd (all k d small))

pub few_each : (last : Option Page) (pages : List Page) (n : ℕ) → TellTotal last pages → IfSome last (λ (l : Page). n ≤ total_of l) → All (λ (p : Page). n ≤ total_of p) pages
few_each (Some l) pages n all few = λ k d small. subst (λ t. n ≤ t) (sym (all k d small)) few
few_each None pages n all few = λ k d small. absurd (all k d small)

told_again : (last : Option Page) (page : Page) (pages : List Page) → TellTotal last pages → IfSome last (λ (l : Page). total_of l ≡ total_of page) → All (λ (p : Page). total_of p ≡ total_of page) pages
told_again (Some l) page pages all same = λ k d small. all k d small ∙ same
told_again None page pages all same = λ k d small. absurd (all k d small)

pub total_more : (last : Option Page) (page : Page) (pages : List Page) (i : ℕ) → i < length pages → page ≡ get_or pages i page → TellTotal last (take i pages) → IfSome last (λ (l : Page). total_of l ≡ total_of page) → All (λ (p : Page). total_of p ≡ total_of page) (take (i + 1) pages)
total_more last page pages i small is all same =
    All-more (λ (p : Page). total_of p ≡ total_of page) pages i page small (told_again last page (take i pages) all same) (ap (λ (p : Page). total_of p) (sym is))

-- pages are all there where there is one, and they have as many validators as it tells
pub are_all : (pages : List Page) (first : Page) (members : List Member) → Some first ≡ slice_get pages 0 → members ≡ validators_of (without_files pages)
    → (total : ℕ) × All (λ (p : Page). total_of p ≡ total) pages → All (λ (p : Page). length members ≤ total_of p) pages → total_of first ≤ length members → AreAllPages (without_files pages)
are_all [] first members there is one few enough = absurd (none-some first (sym there))
are_all (p ∷ ps) first members there is one few enough =
    let same : first ≡ p = same_Some first p there in
    let low : length members ≤ total_of p = few 0 p (omega arith) in
    let high : total_of p ≤ length members = subst (λ (q : Page). total_of q ≤ length members) same enough in
    let exact : total_of p ≡ length (validators_of (without_files (p ∷ ps))) = omega (arith, ap length is) in
    (omega arith, All-map (λ q. q.total ≡ length (validators_of (without_files (p ∷ ps)))) (λ (q : Page). q.page.now) (p ∷ ps) (λ k d small. one.1 k d small ∙ sym (one.1 0 p (omega arith)) ∙ exact))

-- and not where they have fewer
pub not_all : (pages : List Page) (first : Page) (members : List Member) → Some first ≡ slice_get pages 0 → members ≡ validators_of (without_files pages)
    → length members < total_of first → AreAllPages (without_files pages) → ⊥
not_all [] first members there is less all = none-some first (sym there)
not_all (p ∷ ps) first members there is less all =
    let same : first ≡ p = same_Some first p there in
    let fewer : length members < total_of p = subst (λ (q : Page). length members < total_of q) same less in
    let exact : total_of p ≡ length (validators_of (without_files (p ∷ ps))) = all.1 0 p.page.now all.0 in
    omega (arith, ap length is)

-- ---- the sets so far

-- what was seen stays, and what is new is the set that was kept
pub stays_seen : (seen : SeenSet) (before after : List SeenSet) (hash : List ℕ) → KeepsSet seen before after → WasSeen before hash → WasSeen after hash
stays_seen seen before after hash (inl w) was = subst (λ l. WasSeen l hash) (sym w.1) was
stays_seen seen before after hash (inr w) was = subst (λ l. WasSeen l hash) (sym w.1) (any_left _ before (seen ∷ []) was)

pub takes_set : (pages : List ValidatorsPage) (seen : SeenSet) (before after : List SeenSet) → KeepsSet seen before after → IsSetOf pages seen.set → TakesSetOf pages before after
takes_set pages seen before after (inl w) is = inl w.1
takes_set pages seen before after (inr w) is = inr (seen, is, w.1)

-- where the answers have all the validators of this height, their set was seen
abbrev pub IsSeenAt : List Saved → List SeenSet → ℕ → Type 0
IsSeenAt saved sets height = AreWhole saved height → WasSeen sets (set_hash (in_set_order (validators_at saved height)))

-- each set so far is that of a height, by rising heights, none of which is above the last one
abbrev pub AreBelow : List Saved → List SeenSet → Option ℕ → Type 0
AreBelow saved sets last = (heights : List ℕ) × AreSetsAt saved heights sets × All (λ h. IsSomeAnd last (λ l. h ≤ l)) heights

-- the sets so far are of the answers, and those of the pages so far were seen, and that of the last height
abbrev pub AreSoFar : List Saved → List SeenSet → List Page → Option ℕ → Type 0
AreSoFar saved sets pages last = AreBelow saved sets last × All (λ (p : Page). IsSeenAt saved sets p.page.now.height) pages × IfSome last (IsSeenAt saved sets)

-- no page from a place on is below the last height
abbrev pub IsReached : List Page → ℕ → Option ℕ → Type 0
IsReached pages i last = IfSome last (λ l. (j : ℕ) (d : Page) → i ≤ j → j < length pages → l ≤ height_of (get_or pages j d))

pub reached_more : (pages : List Page) (i : ℕ) (last : Option ℕ) → IsReached pages i last → IsReached pages (i + 1) last
reached_more pages i (Some l) reached = λ j d low small. reached j d (omega (arith, low)) small
reached_more pages i None reached = tt

pub reached_next : (pages : List Page) (i : ℕ) (page : Page) → IsNonDecreasingBy height_of pages → i < length pages → page ≡ get_or pages i page → IsReached pages (i + 1) (Some (height_of page))
reached_next pages i page rises small is = λ j d low within.
    let up : height_of (get_or pages i d) ≤ height_of (get_or pages j d) = rises i j d (omega (arith, low)) within in
    let here : height_of page ≡ height_of (get_or pages i d) = ap height_of (is ∙ get_or_default pages i page d small) in
    omega (arith, up, here)

-- a page of another height is above the last one
above : (pages : List Page) (i : ℕ) (page : Page) (last : Option ℕ) → i < length pages → page ≡ get_or pages i page → IsReached pages i last → (last ≡ Some (height_of page) → ⊥) → IfSome last (λ l. l < height_of page)
above pages i page None small is reached other = tt
above pages i page (Some l) small is reached other =
    let low : l ≤ height_of page = subst (λ (p : Page). l ≤ height_of p) (sym is) (reached i page (omega arith) small) in
    less l (height_of page) low (λ same. other (ap Some same))
  where
    less : (m n : ℕ) → m ≤ n → (m ≡ n → ⊥) → m < n
    less m n le apart = elim (cases_lt m n) [ inl below ↦ below | inr upper ↦ absurd (apart (omega (arith, le, upper))) ]

-- ---- a height more

all_zip_push : {A B : Type 0} (R : A → B → Type 0) (xs : List A) (ys : List B) (x : A) (y : B) → AllZip R xs ys → R x y → AllZip R (xs ++ x ∷ []) (ys ++ y ∷ [])
all_zip_push R [] [] x y all it = (it, tt)
all_zip_push R [] (b ∷ ys) x y all it = absurd all
all_zip_push R (a ∷ xs) [] x y all it = absurd all
all_zip_push R (a ∷ xs) (b ∷ ys) x y (first, all) it = (first, all_zip_push R xs ys x y all it)

pub rises_push : (xs : List ℕ) (h : ℕ) → IsStrictlyIncreasing xs → All (λ x. x < h) xs → IsStrictlyIncreasing (xs ++ h ∷ [])
rises_push xs h rises low k small =
    elim (cases_lt (k + 1) (length xs)) [
      | inl inner ↦ grind (arith, common_steps, rises k inner)
      | inr outer ↦ grind (arith, common_steps, low k 0)
    ]

lower : (last : Option ℕ) (height : ℕ) (heights : List ℕ) → IfSome last (λ l. l < height) → All (λ h. IsSomeAnd last (λ l. h ≤ l)) heights → All (λ h. h < height) heights
lower (Some l) height heights less all = λ k d small. let low = all k d small in omega (arith, low, less)
lower None height heights less all = λ k d small. absurd (all k d small)

not_above : (height : ℕ) (heights : List ℕ) → All (λ h. h < height) heights → All (λ h. IsSomeAnd (Some height) (λ l. h ≤ l)) heights
not_above height heights all = λ k d small. let low = all k d small in omega (arith, low)

below_next : (saved : List Saved) (before after : List SeenSet) (last : Option ℕ) (height : ℕ) (these : List ValidatorsPage) → these ≡ pages_at saved height → IfSome last (λ l. l < height)
    → TakesSetOf these before after → AreBelow saved before last → AreBelow saved after (Some height)
below_next saved before after last height these are less (inl same) (heights, (rises, each), bound) =
    (heights, (rises, subst (AllZip (λ h (s : SeenSet). IsSetAt saved h s.set) heights) (sym same) each), not_above height heights (lower last height heights less bound))
below_next saved before after last height these are less (inr (s, is, now)) (heights, (rises, each), bound) =
    let Is : ℕ → SeenSet → Type 0 = λ h x. IsSetAt saved h x.set in
    let its : IsSetAt saved height s.set = subst (λ l. IsSetOf l s.set) are is in
    let low : All (λ h. h < height) heights = lower last height heights less bound in (
      heights ++ height ∷ [],
      (rises_push heights height rises low, subst (AllZip Is (heights ++ height ∷ [])) (sym now) (all_zip_push Is heights before height s each its)),
      All-push (λ h. IsSomeAnd (Some height) (λ l. h ≤ l)) heights height (not_above height heights low) (omega arith),
    )

-- a page more, of the last height or of another
pub same_height : (saved : List Saved) (sets : List SeenSet) (pages : List Page) (i : ℕ) (page : Page) → i < length pages → page ≡ get_or pages i page
    → AreSoFar saved sets (take i pages) (Some page.page.now.height) → AreSoFar saved sets (take (i + 1) pages) (Some page.page.now.height)
same_height saved sets pages i page small is (sound, seen, last) =
    (sound, All-more (λ (p : Page). IsSeenAt saved sets p.page.now.height) pages i page small seen (subst (λ (p : Page). IsSeenAt saved sets p.page.now.height) is last), last)

pub next_height : (saved : List Saved) (before after : List SeenSet) (pages : List Page) (i : ℕ) (page : Page) (last : Option ℕ) (these : List ValidatorsPage)
    → i < length pages → page ≡ get_or pages i page → these ≡ pages_at saved page.page.now.height → (last ≡ Some page.page.now.height → ⊥) → IsReached pages i last
    → ((hash : List ℕ) → WasSeen before hash → WasSeen after hash)
    → TakesSetOf these before after
    → (AreAllPages these → WasSeen after (set_hash (in_set_order (validators_of these))))
    → AreSoFar saved before (take i pages) last → AreSoFar saved after (take (i + 1) pages) (Some page.page.now.height)
next_height saved before after pages i page last these small is are other reached kept takes new (sound, seen, old) =
    let height = page.page.now.height in
    let now : IsSeenAt saved after height = subst (λ l. AreAllPages l → WasSeen after (set_hash (in_set_order (validators_of l)))) are new in (
      below_next saved before after last height these are (above pages i page last small is reached other) takes sound,
      All-more (λ (p : Page). IsSeenAt saved after p.page.now.height) pages i page small
          (All-weaker (λ (p : Page). IsSeenAt saved before p.page.now.height) (λ (p : Page). IsSeenAt saved after p.page.now.height) (λ p was whole. kept _ (was whole)) (take i pages) seen)
          (subst (λ (p : Page). IsSeenAt saved after p.page.now.height) is now),
      now,
    )

pub none_so_far : (saved : List Saved) (sets : List SeenSet) (pages : List Page) → sets ≡ [] → AreSoFar saved sets (take 0 pages) None × IsReached pages 0 None
none_so_far saved sets pages none = (
  (([], ((λ k small. absurd (omega (arith, small))), subst (AllZip (λ h (s : SeenSet). IsSetAt saved h s.set) []) (sym none) tt), λ k d small. absurd (omega (arith, small))), (λ k d small. absurd (omega (arith, small))), tt),
  tt,
)

-- what holds of the height of each page holds of a height of which there is one
of_some : (P : ℕ → Type 0) (pages : List Page) (height : ℕ) → All (λ (p : Page). P p.page.now.height) pages → 0 < length (filter (λ (p : Page). p.page.now.height == height) pages) → P height
of_some P [] height all some = absurd (omega arith)
of_some P (p ∷ ps) height all some =
    at (p.page.now.height == height) refl (of_some P ps height (All-tail (λ (q : Page). P q.page.now.height) p ps all))
  where
    at : (b : Bool) → (p.page.now.height == height) ≡ b → (0 < length (filter (λ (q : Page). q.page.now.height == height) ps) → P height) → P height
    at true e rest = subst P (eqb-true _ _ e) (all 0 p (omega arith))
    at false e rest = rest (subst (λ o. 0 < length (cond o (p ∷ filter (λ (q : Page). q.page.now.height == height) ps) (filter (λ (q : Page). q.page.now.height == height) ps))) e some)

pub have_sets : (saved : List Saved) (sets : List SeenSet) (pages : List Page) (last : Option ℕ)
    → ((height : ℕ) → without_files (filter (λ (p : Page). p.page.now.height == height) pages) ≡ pages_at saved height)
    → AreSoFar saved sets pages last → HaveSets saved sets
unfolding HaveSets
have_sets saved sets pages last same ((heights, are, bound), seen, old) =
    ((heights, are), λ height whole. of_some (IsSeenAt saved sets) pages height seen (omega (arith, whole.0, ap length (same height), length-map (filter (λ (p : Page). p.page.now.height == height) pages) (λ (p : Page). p.page.now))) whole)

-- ---- the commits of the heights so far

-- the set of these pages is that of each commit of their height
pub takes_all : (commits : List Commit) (height : ℕ) (commit : Option Commit) (pages : List ValidatorsPage) (set : List Member)
    → All (λ (c : Commit). c.header.now.height ≡ height → commit ≡ Some c) commits → IfSome commit (λ (c : Commit). c.header.now.set ≡ set_hash set)
    → set ≡ in_set_order (validators_of pages) → All (HasValidators pages height) commits
unfolding HasValidators
takes_all commits height (Some c) pages set only its is = λ k d small same all.
    subst (λ l. set_hash l ≡ (get_or commits k d).header.now.set) is (sym its ∙ ap (λ (x : Commit). x.header.now.set) (same_Some c (get_or commits k d) (only k d small same)))
takes_all commits height None pages set only its is = λ k d small same all. absurd (none-some (get_or commits k d) (only k d small same))

-- these aren't all pages of their height
pub takes_few : (commits : List Commit) (height : ℕ) (pages : List ValidatorsPage) → (AreAllPages pages → ⊥) → All (HasValidators pages height) commits
unfolding HasValidators
takes_few commits height pages few = λ k d small same all. absurd (few all)

-- where there are pages of a height, its commits have their validators
abbrev pub IsTakenAt : List Saved → List Commit → ℕ → Type 0
IsTakenAt saved commits height = 0 < length (pages_at saved height) → All (HasValidators (pages_at saved height) height) commits

-- this is so of the pages so far, and of the last height
abbrev pub AreTaken : List Saved → List Commit → List Page → Option ℕ → Type 0
AreTaken saved commits pages last = All (λ (p : Page). IsTakenAt saved commits p.page.now.height) pages × IfSome last (IsTakenAt saved commits)

pub none_taken : (saved : List Saved) (commits : List Commit) (pages : List Page) → AreTaken saved commits (take 0 pages) None
none_taken saved commits pages = ((λ k d small. absurd (omega (arith, small))), tt)

pub taken_at : (saved : List Saved) (commits : List Commit) (height : ℕ) (group : List Page) → without_files group ≡ pages_at saved height
    → (0 < length group → All (HasValidators (without_files group) height) commits) → IsTakenAt saved commits height
taken_at saved commits height group are its =
    subst (λ l. 0 < length l → All (HasValidators l height) commits) are (λ some. its (omega (arith, some, length-map group (λ (p : Page). p.page.now))))

-- a page more
pub taken_next : (saved : List Saved) (commits : List Commit) (pages : List Page) (i : ℕ) (page : Page) (last : Option ℕ) → i < length pages → page ≡ get_or pages i page
    → IsTakenAt saved commits page.page.now.height → AreTaken saved commits (take i pages) last → AreTaken saved commits (take (i + 1) pages) (Some page.page.now.height)
taken_next saved commits pages i page last small is now (each, old) =
    (All-more (λ (p : Page). IsTakenAt saved commits p.page.now.height) pages i page small each (subst (λ (p : Page). IsTakenAt saved commits p.page.now.height) is now), now)

pub have_validators : (saved : List Saved) (commits : List Commit) (pages : List Page) (last : Option ℕ)
    → ((height : ℕ) → without_files (filter (λ (p : Page). p.page.now.height == height) pages) ≡ pages_at saved height)
    → AreTaken saved commits pages last → All (HasItsValidators saved) commits
unfolding HasValidators HasItsValidators
have_validators saved commits pages last same (each, old) = λ k d small whole.
    let height : ℕ = (get_or commits k d).header.now.height in
    let long = length-map (filter (λ (p : Page). p.page.now.height == height) pages) (λ (p : Page). p.page.now) in
    let taken : IsTakenAt saved commits height = of_some (IsTakenAt saved commits) pages height each (omega (arith, whole.0, ap length (same height), long)) in
    taken whole.0 k d small refl whole
