-- The sets of which all pages are there.
use Rattle.std.proofs.Common.{◌≡◌, ◌⊎◌, ℕ, zero, suc, ◌+◌, ◌<◌, ◌==◌, List, [], ◌∷◌, ◌++◌, append-nil, length, get_or, take, map, filter, Bool, true, false, cond, All, Some, None, inl, inr, refl, sym, subst, ap, ◌∙◌, arith}
use Rattle.std.specs.Prelude.{◌↔◌, Any, IfSome, Option}
use Rattle.std.specs.Borrow.{Bor}
use Rattle.std.specs.List.{cons_option, filter_map, list_all}
use Rattle.std.proofs.Math.Logic.{∥∥₁_elim, ∥∥₁_prop}
use Rattle.std.proofs.Props.{props}
use Rattle.std.proofs.lemmas.Bool.{eq-eqb, eqb-true, true≢false}
use Rattle.std.proofs.lemmas.List.{length-map, map_push, take_more}
use Rattle.std.proofs.lemmas.List.Elements.{All-map, All-more, All-nil, All-tail, All-weaker, filter_map-append}
use Rattle.std.proofs.lemmas.List.Folds.{list_all-map}
use Rattle.std.proofs.lemmas.List.Sums.{AllPass-from_list_all, list_all-from_AllPass}
use Rattle.rb_valset.specs.Refusal.{set_refusal}
use Rattle.rb_valset.specs.Validator.{Member}
use Rattle.rb_valset.specs.ValidatorSet.{in_set_order, set_hash}
use Rattle.rb_import_answers.specs.declared.validators.ValidatorsPage.{ValidatorsPage}
use Rattle.rb_import_check.specs.Chains.{AreAllPages, validators_of}
use Rattle.rb_import_check.specs.Sets.{KeepsSet, WasSeen}
use Rattle.rb_import_check.specs.declared.sets.SeenSet.{SeenSet}
use Rattle.rb_want_requests.specs.declared.content.Content.{Content}
use Rattle.rb_want.specs.Clients.{AreSetsThere, IsSetThere, MakeSet, MayMake, if_at, page_in, pages_at}

abbrev pub page : Bor ValidatorsPage → ValidatorsPage
page p = p.now

abbrev pub height_of : Bor ValidatorsPage → ℕ
height_of p = p.now.height

-- ---- pages

-- one page more
pub page_more : (done : List (Bor ValidatorsPage)) (p : Bor ValidatorsPage) (there : List Content) (i : ℕ) (c : Content)
    → i < length there → c ≡ get_or there i c → map page done ≡ filter_map page_in (take i there) → page_in c ≡ Some p.now
    → map page (done ++ p ∷ []) ≡ filter_map page_in (take (i + 1) there)
page_more done p there i c small is was here =
    let more : filter_map page_in (take (i + 1) there) ≡ filter_map page_in (take i there) ++ cons_option (page_in c) [] =
    ap (filter_map page_in) (take_more there i c small ∙ ap (λ y. take i there ++ y ∷ []) (sym is)) ∙ filter_map-append page_in (take i there) (c ∷ []) in
    map_push page done p ∙ ap (λ l. l ++ p.now ∷ []) was ∙ sym (more ∙ ap (λ o. filter_map page_in (take i there) ++ cons_option o []) here)

-- a content that is no page
pub page_none : (done : List (Bor ValidatorsPage)) (there : List Content) (i : ℕ) (c : Content)
    → i < length there → c ≡ get_or there i c → map page done ≡ filter_map page_in (take i there) → page_in c ≡ None
    → map page done ≡ filter_map page_in (take (i + 1) there)
page_none done there i c small is was none =
    let more : filter_map page_in (take (i + 1) there) ≡ filter_map page_in (take i there) ++ cons_option (page_in c) [] =
    ap (filter_map page_in) (take_more there i c small ∙ ap (λ y. take i there ++ y ∷ []) (sym is)) ∙ filter_map-append page_in (take i there) (c ∷ []) in
    was ∙ sym (more ∙ ap (λ o. filter_map page_in (take i there) ++ cons_option o []) none ∙ append-nil (filter_map page_in (take i there)))

pub ruleset gathering = (page_more, page_none)

-- of all pages those of a height
pub of_all : (height : ℕ) (there : List Content) → filter (λ p. p.height == height) (filter_map page_in there) ≡ pages_at height there
of_all height [] = refl
of_all height (c ∷ cs) = go (page_in c) (of_all height cs)
  where
    at : (p : ValidatorsPage) (b : Bool) → filter (λ q. q.height == height) (filter_map page_in cs) ≡ pages_at height cs
        → cond b (p ∷ filter (λ q. q.height == height) (filter_map page_in cs)) (filter (λ q. q.height == height) (filter_map page_in cs))
        ≡ cons_option (cond b (Some p) None) (pages_at height cs)
    at p true rest = ap (λ l. p ∷ l) rest
    at p false rest = rest

    go : (o : Option ValidatorsPage) → filter (λ q. q.height == height) (filter_map page_in cs) ≡ pages_at height cs
        → filter (λ p. p.height == height) (cons_option o (filter_map page_in cs)) ≡ cons_option (if_at height o) (pages_at height cs)
    go None rest = rest
    go (Some p) rest = at p (p.height == height) rest

-- ---- the set of a height

-- each page says as many validators as there are
pub all_there : (pages : List (Bor ValidatorsPage)) (n : ℕ) → 0 < length pages → list_all (λ p. p.now.total == n) pages ≡ true
    → n ≡ length (validators_of (map page pages)) → AreAllPages (map page pages)
all_there pages n some each is =
    let total = length (validators_of (map page pages)) in (
      omega (arith, some, length-map pages page),
      All-map (λ q. q.total ≡ total) page pages (λ k d small. eqb-true _ _ (AllPass-from_list_all (λ (p : Bor ValidatorsPage). p.now.total == n) pages each k d small) ∙ is),
    )

-- and not where one says another number
pub not_all : (pages : List (Bor ValidatorsPage)) (n : ℕ) → list_all (λ p. p.now.total == n) pages ≡ false
    → n ≡ length (validators_of (map page pages)) → AreAllPages (map page pages) → ⊥
not_all pages n denied is all =
    let each : list_all (λ (q : ValidatorsPage). q.total == n) (map page pages) ≡ true =
    list_all-from_AllPass (λ (q : ValidatorsPage). q.total == n) (map page pages) (λ k d small. eq-eqb _ _ (all.1 k d small ∙ sym is)) in
    true≢false (sym each ∙ list_all-map (λ (q : ValidatorsPage). q.total == n) page pages ∙ denied)

-- there are pages
pub some_pages : (pages : List (Bor ValidatorsPage)) → (length pages == 0) ≡ false → 0 < length pages
some_pages [] none = absurd (true≢false none)
some_pages (p ∷ ps) some = omega arith

pub none_there : (pages : List (Bor ValidatorsPage)) → (length pages == 0) ≡ true → AreAllPages (map page pages) → ⊥
none_there pages none all = let empty : length pages ≡ 0 = eqb-true _ _ none in omega (arith, empty, all.0, length-map pages page)

-- no set is made where not all pages are there
pub unmade : (pages : List ValidatorsPage) (hash : List ℕ) → (AreAllPages pages → ⊥) → MakeSet pages hash → ⊥
unfolding MakeSet
unmade pages hash denied makes = denied makes.0

-- nor where the validators are refused
pub refused : (pages : List (Bor ValidatorsPage)) (members : List Member) (hash : List ℕ) → members ≡ validators_of (map page pages)
    → MayMake members None → MakeSet (map page pages) hash → ⊥
unfolding MakeSet
refused pages members hash is other makes = other (ap set_refusal is ∙ makes.1)

-- the set that these validators make
pub made : (pages : List (Bor ValidatorsPage)) (members set : List Member) → AreAllPages (map page pages) → members ≡ validators_of (map page pages)
    → MayMake members (Some set) → MakeSet (map page pages) (set_hash set)
unfolding MakeSet
made pages members set all is (accepted, order) =
    (all, ap set_refusal (sym is) ∙ accepted, ap set_hash (sym (order ∙ ap in_set_order is)))

-- and no other one
made_only : (pages : List (Bor ValidatorsPage)) (members set : List Member) (hash : List ℕ) → members ≡ validators_of (map page pages)
    → MayMake members (Some set) → MakeSet (map page pages) hash → set_hash set ≡ hash
unfolding MakeSet
made_only pages members set hash is (accepted, order) makes = ap set_hash (order ∙ ap in_set_order is) ∙ makes.2

-- it is among those that are there
pub made_there : (pages : List (Bor ValidatorsPage)) (members set : List Member) (sets : List SeenSet) (hash : List ℕ) → members ≡ validators_of (map page pages)
    → MayMake members (Some set) → WasSeen sets (set_hash set) → MakeSet (map page pages) hash → WasSeen sets hash
made_there pages members set sets hash is makes_one there makes = subst (WasSeen sets) (made_only pages members set hash is makes_one makes) there

any_last : {A : Type 0} (P : A → Type 0) (xs : List A) (y : A) → Any P (xs ++ y ∷ []) → Any P xs ⊎ P y
any_last P [] y (k, x, small, is, holds) = inr (subst P (sym (same_at k small is)) holds)
  where
    same_at : (k : ℕ) → k < 1 → get_or (y ∷ []) k x ≡ x → y ≡ x
    same_at zero small is = is
    same_at (suc k) small is = absurd (omega (arith, small))
any_last P (z ∷ xs) y (zero, x, small, is, holds) = inl (0, x, omega arith, is, holds)
any_last P (z ∷ xs) y (suc k, x, small, is, holds) =
    elim (any_last P xs y (k, x, omega (arith, small), is, holds)) [
      | inl (n, w, lt, at, has) ↦ inl (suc n, w, omega (arith, lt), at, has)
      | inr has ↦ inr has
    ]

-- what is new is the set that was added
pub only_more : (pages : List ValidatorsPage) (seen : SeenSet) (before after : List SeenSet) (hash : List ℕ) → KeepsSet seen before after
    → MakeSet pages (set_hash seen.set) → WasSeen after hash → WasSeen before hash ⊎ MakeSet pages hash
only_more pages seen before after hash (inl w) makes was = inl (subst (λ l. WasSeen l hash) w.1 was)
only_more pages seen before after hash (inr w) makes was =
    elim (any_last (λ (s : SeenSet). set_hash s.set ≡ hash) before seen (subst (λ l. WasSeen l hash) w.1 was)) [
      | inl old ↦ inl old
      | inr same ↦ inr (subst (MakeSet pages) same makes)
    ]

-- ---- the sets so far

-- where all pages of this height are there, a set with the hash of theirs was seen
abbrev pub IsSeenAt : List Content → List SeenSet → ℕ → Type 0
IsSeenAt there sets height = (hash : List ℕ) → MakeSet (pages_at height there) hash → WasSeen sets hash

-- each set so far is there, and those of the pages so far were seen, and that of the last height
abbrev pub AreSoFar : List Content → List SeenSet → List (Bor ValidatorsPage) → Option ℕ → Type 0
AreSoFar there sets pages last =
    ((hash : List ℕ) → WasSeen sets hash → (height : ℕ) × MakeSet (pages_at height there) hash)
    × All (λ (p : Bor ValidatorsPage). IsSeenAt there sets p.now.height) pages × IfSome last (IsSeenAt there sets)

pub none_so_far : (there : List Content) (sets : List SeenSet) (pages : List (Bor ValidatorsPage)) → sets ≡ [] → AreSoFar there sets (take 0 pages) None
none_so_far there sets pages none = (
  (λ hash was. let w = subst (λ l. WasSeen l hash) none was in absurd (omega (arith, w.2))),
  All-nil (λ (p : Bor ValidatorsPage). IsSeenAt there sets p.now.height),
  tt,
)

-- a page more, of the last height
pub same_height : (there : List Content) (sets : List SeenSet) (pages : List (Bor ValidatorsPage)) (i : ℕ) (p : Bor ValidatorsPage)
    → i < length pages → p ≡ get_or pages i p → AreSoFar there sets (take i pages) (Some p.now.height) → AreSoFar there sets (take (i + 1) pages) (Some p.now.height)
same_height there sets pages i p small is (sound, seen, last) = (
  sound,
  All-more (λ (q : Bor ValidatorsPage). IsSeenAt there sets q.now.height) pages i p small seen
      (subst (λ (q : Bor ValidatorsPage). IsSeenAt there sets q.now.height) is last),
  last,
)

-- a page more, of another height: the set of its height is added
pub next_height : (there : List Content) (before after : List SeenSet) (pages : List (Bor ValidatorsPage)) (i : ℕ) (p : Bor ValidatorsPage) (last : Option ℕ)
    (these : List ValidatorsPage) → i < length pages → p ≡ get_or pages i p → these ≡ pages_at p.now.height there
    → ((hash : List ℕ) → WasSeen before hash → WasSeen after hash)
    → ((hash : List ℕ) → MakeSet these hash → WasSeen after hash)
    → ((hash : List ℕ) → WasSeen after hash → WasSeen before hash ⊎ MakeSet these hash)
    → AreSoFar there before (take i pages) last → AreSoFar there after (take (i + 1) pages) (Some p.now.height)
next_height there before after pages i p last these small is are stays added only (sound, seen, old) =
    let now : IsSeenAt there after p.now.height = λ hash makes. added hash (subst (λ l. MakeSet l hash) (sym are) makes) in (
      (λ hash was. elim (only hash was) [
        | inl earlier ↦ sound hash earlier
        | inr makes ↦ (p.now.height, subst (λ l. MakeSet l hash) are makes)
      ]),
      All-more (λ (q : Bor ValidatorsPage). IsSeenAt there after q.now.height) pages i p small
          (All-weaker (λ (q : Bor ValidatorsPage). IsSeenAt there before q.now.height) (λ (q : Bor ValidatorsPage). IsSeenAt there after q.now.height)
          (λ q was hash makes. stays hash (was hash makes)) (take i pages) seen)
          (subst (λ (q : Bor ValidatorsPage). IsSeenAt there after q.now.height) is now),
      now,
    )

-- what holds of the height of each page holds of a height of which there is one
of_some : (P : ℕ → Type 0) (pages : List (Bor ValidatorsPage)) (height : ℕ) → All (λ (p : Bor ValidatorsPage). P p.now.height) pages
    → 0 < length (filter (λ (p : Bor ValidatorsPage). p.now.height == height) pages) → P height
of_some P [] height all some = absurd (omega (arith, some))
of_some P (p ∷ ps) height all some =
    at (p.now.height == height) refl (of_some P ps height (All-tail (λ (q : Bor ValidatorsPage). P q.now.height) p ps all))
  where
    at : (b : Bool) → (p.now.height == height) ≡ b → (0 < length (filter (λ (q : Bor ValidatorsPage). q.now.height == height) ps) → P height) → P height
    at true e rest = subst P (eqb-true _ _ e) (all 0 p (omega arith))
    at false e rest =
        rest (subst (λ o. 0 < length (cond o (p ∷ filter (λ (q : Bor ValidatorsPage). q.now.height == height) ps) (filter (λ (q : Bor ValidatorsPage). q.now.height == height) ps))) e some)

some_there : (pages : List ValidatorsPage) (hash : List ℕ) → MakeSet pages hash → 0 < length pages
unfolding MakeSet
some_there pages hash makes = makes.0.0

-- once all pages were gone through, the sets are those that are there
pub have_sets : (there : List Content) (sets : List SeenSet) (pages : List (Bor ValidatorsPage)) (last : Option ℕ)
    → ((height : ℕ) → map page (filter (λ (p : Bor ValidatorsPage). p.now.height == height) pages) ≡ pages_at height there)
    → AreSoFar there sets pages last → AreSetsThere there sets
have_sets there sets pages last same (sound, seen, old) = λ hash. (
  λ was. ∥∥₁_elim was ∥∥₁_prop (λ one. ∣ sound hash one ∣₁),
  λ at. ∥∥₁_elim at ∥∥₁_prop (λ one. ∣ all hash one ∣₁),
)
  where
    all : (hash : List ℕ) → ((height : ℕ) × MakeSet (pages_at height there) hash) → WasSeen sets hash
    all hash (height, makes) =
        of_some (IsSeenAt there sets) pages height seen
        (omega (
          arith,
          some_there (pages_at height there) hash makes,
          ap length (same height),
          length-map (filter (λ (p : Bor ValidatorsPage). p.now.height == height) pages) page,
        )) hash makes

-- what was seen is there, and what is there was seen
pub there_seen : (b : Bool) (there : List Content) (sets : List SeenSet) (hash : List ℕ) → ((b ≡ true) ↔ WasSeen sets hash) → AreSetsThere there sets
    → (b ≡ true) ↔ IsSetThere there hash
there_seen b there sets hash iff are = (
  λ yes. (are hash).0 ∣ iff.0 yes ∣₁,
  λ at. ∥∥₁_elim ((are hash).1 at) (hlevel props) (λ one. iff.1 one),
)
