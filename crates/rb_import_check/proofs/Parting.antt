-- Headers that are parted by how they stand to the sets of their chain.
use Rattle.std.proofs.Common.{◌≡◌, ℕ, ◌+◌, ◌<◌, List, [], ◌∷◌, ◌++◌, length, get_or, take, map, All, inl, inr, sym, subst, ap, ◌∙◌, arith}
use Rattle.std.specs.List.Sorted.{IsPermutation, IsStrictlyIncreasing}
use Rattle.std.proofs.lemmas.List.{get_or-map, get_or_append_left, length-append, length-map, map_push, take_more}
use Rattle.std.proofs.lemmas.List.Elements.{All-map, All-nil, All-push, All-weaker}
use Rattle.std.proofs.lemmas.List.Sorted.{All-permutation, IsPermutation-append, IsPermutation-append_comm, IsPermutation-middle, IsPermutation-push_more, IsPermutation-refl, IsPermutation-sym}
use Rattle.rb_import_check.specs.declared.chain.Commit.{Commit}
use Rattle.rb_import_check.specs.declared.parts.Parts.{Parts}
use Rattle.rb_import_check.specs.declared.parts.Standing.{Standing}
use Rattle.rb_import_check.specs.declared.sets.SeenSet.{SeenSet}
use Rattle.rb_import_check.specs.declared.signed.Signatures.{Signatures}
use Rattle.rb_import_check.specs.declared.saved.Saved.{Saved}
use Rattle.rb_import_check.specs.Chains.{FitsSet, HasItsValidators, HasSet, IsBare, IsJudged, IsLeftOut, IsOfChain, IsOfItsBlock}
use Rattle.rb_import_check.specs.Sets.{WasSeen}
use Rattle.rb_import_check.specs.Signed.{IsSigned, IsUnsigned}
use Rattle.rb_import_check.specs.Standing.{Stands, Takes}
use Rattle.rb_import_check.proofs.Accords.{height_of}
use Rattle.rb_import_check.proofs.Pages.{rises_push}
use Rattle.rb_import_check.proofs.Sorting.{assoc}

-- ---- three parts are a whole

module _ {X : Type 0} (whole first second third : List X) (x : X) (same : IsPermutation whole (first ++ second ++ third)) where
  between : (before after : List X) → IsPermutation whole (before ++ after) → IsPermutation (whole ++ x ∷ []) (before ++ x ∷ after)
  between before after are = IsPermutation-push_more whole (before ++ after) (before ++ x ∷ after) x are (IsPermutation-sym _ _ (IsPermutation-middle before x after))

  pub to_first : IsPermutation (whole ++ x ∷ []) ((first ++ x ∷ []) ++ second ++ third)
  to_first =
      subst (IsPermutation (whole ++ x ∷ [])) (assoc first (x ∷ []) (second ++ third) ∙ assoc (first ++ x ∷ []) second third)
      (between first (second ++ third) (subst (IsPermutation whole) (sym (assoc first second third)) same))

  pub to_second : IsPermutation (whole ++ x ∷ []) (first ++ (second ++ x ∷ []) ++ third)
  to_second =
      subst (IsPermutation (whole ++ x ∷ [])) (assoc (first ++ second) (x ∷ []) third ∙ ap (λ l. l ++ third) (sym (assoc first second (x ∷ []))))
      (between (first ++ second) third same)

  pub to_third : IsPermutation (whole ++ x ∷ []) (first ++ second ++ (third ++ x ∷ []))
  to_third =
      subst (IsPermutation (whole ++ x ∷ [])) (sym (assoc (first ++ second) third (x ∷ [])))
      (IsPermutation-append whole (first ++ second ++ third) (x ∷ []) (x ∷ []) same (IsPermutation-refl (x ∷ [])))

-- ---- heights that rise

-- the heights of these commits rise, and are below the height at a place
abbrev pub AreBelow : List ℕ → ℕ → List Commit → Type 0
AreBelow heights i these = IsStrictlyIncreasing (map height_of these) × (i < length heights → All (λ (c : Commit). height_of c < get_or heights i 0) these)

none_below : (heights : List ℕ) (i : ℕ) → AreBelow heights i []
none_below heights i = ((λ k small. absurd (omega (arith, small))), λ small. All-nil _)

still_below : (heights : List ℕ) (i : ℕ) (these : List Commit) → IsStrictlyIncreasing heights → AreBelow heights i these → AreBelow heights (i + 1) these
still_below heights i these rises (up, below) = (
  up,
  λ small.
      let next : get_or heights i 0 < get_or heights (i + 1) 0 = rises i small in
      All-weaker (λ (c : Commit). height_of c < get_or heights i 0) (λ (c : Commit). height_of c < get_or heights (i + 1) 0) (λ c low. omega (arith, low, next)) these (below (omega (arith, small))),
)

one_below : (heights : List ℕ) (i : ℕ) (these : List Commit) (c : Commit) → IsStrictlyIncreasing heights → i < length heights → height_of c ≡ get_or heights i 0 → AreBelow heights i these → AreBelow heights (i + 1) (these ++ c ∷ [])
one_below heights i these c rises within is (up, below) =
    let low : All (λ (d : Commit). height_of d < height_of c) these = subst (λ n. All (λ (d : Commit). height_of d < n) these) (sym is) (below within) in
    let rest = (still_below heights i these rises (up, below)).1 in (
      subst IsStrictlyIncreasing (sym (map_push height_of these c)) (rises_push (map height_of these) (height_of c) up (All-map (λ n. n < height_of c) height_of these low)),
      λ small.
          let next : get_or heights i 0 < get_or heights (i + 1) 0 = rises i small in
          All-push (λ (d : Commit). height_of d < get_or heights (i + 1) 0) these c (rest small) (omega (arith, next, is)),
    )

-- ---- the parts of the headers so far

-- these are the parts of the commits before a place
pub record AreParted (signatures : Signatures) (sets : List SeenSet) (all : List Commit) (i : ℕ) (commits bare unsigned : List Commit) : Type 0 where
  pub whole : IsPermutation (take i all) (commits ++ bare ++ unsigned)
  pub rising : AreBelow (map height_of all) i commits
  pub bare_rising : AreBelow (map height_of all) i bare
  pub unsigned_rising : AreBelow (map height_of all) i unsigned
  pub have : All (HasSet sets) commits
  pub signed : All (IsSigned signatures sets) commits
  pub without : All (IsBare sets) bare
  pub few : All (IsUnsigned signatures sets) unsigned

pub none_parted : (signatures : Signatures) (sets : List SeenSet) (all commits bare unsigned : List Commit) → commits ≡ [] → bare ≡ [] → unsigned ≡ [] → AreParted signatures sets all 0 commits bare unsigned
none_parted signatures sets all commits bare unsigned first second third =
    let none : AreParted signatures sets all 0 [] [] [] = record {
      whole = IsPermutation-refl [];
      rising = none_below (map height_of all) 0;
      bare_rising = none_below (map height_of all) 0;
      unsigned_rising = none_below (map height_of all) 0;
      have = All-nil _;
      signed = All-nil _;
      without = All-nil _;
      few = All-nil _;
    } in
    subst (λ l. AreParted signatures sets all 0 l bare unsigned) (sym first)
    (subst (λ l. AreParted signatures sets all 0 [] l unsigned) (sym second) (subst (AreParted signatures sets all 0 [] []) (sym third) none))

-- a header that a set signed has its set
was_seen : (signatures : Signatures) (sets : List SeenSet) (c : Commit) → IsSigned signatures sets c → WasSeen sets c.header.now.set
was_seen signatures sets c (k, s, small, is, (hash, by)) = (k, s, small, is, hash)

has_set : (sets : List SeenSet) (c : Commit) → FitsSet sets c → WasSeen sets c.header.now.set → HasSet sets c
has_set sets c (inl bare) seen = absurd (bare seen)
has_set sets c (inr has) seen = has

module _ (signatures : Signatures) (sets : List SeenSet) (all : List Commit) (rises : IsStrictlyIncreasing (map height_of all)) (i : ℕ) (c : Commit) (small : i < length all) (is : c ≡ get_or all i c) (fits : FitsSet sets c) where
  heights : List ℕ
  heights = map height_of all

  within : i < length (map height_of all)
  within = omega (arith, small, length-map all height_of)

  its : height_of c ≡ get_or (map height_of all) i 0
  its = ap height_of is ∙ sym (get_or-map height_of all i c 0 small)

  longer : (l : List Commit) → IsPermutation (take i all ++ c ∷ []) l → IsPermutation (take (i + 1) all) l
  longer l are = subst (λ t. IsPermutation t l) (sym (take_more all i c small ∙ ap (λ d. take i all ++ d ∷ []) (sym is))) are

  signed_more : (commits bare unsigned : List Commit) → IsSigned signatures sets c → AreParted signatures sets all i commits bare unsigned → AreParted signatures sets all (i + 1) (commits ++ c ∷ []) bare unsigned
  signed_more commits bare unsigned stands were = record {
    whole = longer _ (to_first (take i all) commits bare unsigned c were.whole);
    rising = one_below (map height_of all) i commits c rises within its were.rising;
    bare_rising = still_below (map height_of all) i bare rises were.bare_rising;
    unsigned_rising = still_below (map height_of all) i unsigned rises were.unsigned_rising;
    have = All-push (HasSet sets) commits c were.have (has_set sets c fits (was_seen signatures sets c stands));
    signed = All-push (IsSigned signatures sets) commits c were.signed stands;
    without = were.without;
    few = were.few;
  }

  bare_more : (commits bare unsigned : List Commit) → IsBare sets c → AreParted signatures sets all i commits bare unsigned → AreParted signatures sets all (i + 1) commits (bare ++ c ∷ []) unsigned
  bare_more commits bare unsigned stands were = record {
    whole = longer _ (to_second (take i all) commits bare unsigned c were.whole);
    rising = still_below (map height_of all) i commits rises were.rising;
    bare_rising = one_below (map height_of all) i bare c rises within its were.bare_rising;
    unsigned_rising = still_below (map height_of all) i unsigned rises were.unsigned_rising;
    have = were.have;
    signed = were.signed;
    without = All-push (IsBare sets) bare c were.without stands;
    few = were.few;
  }

  unsigned_more : (commits bare unsigned : List Commit) → IsUnsigned signatures sets c → AreParted signatures sets all i commits bare unsigned → AreParted signatures sets all (i + 1) commits bare (unsigned ++ c ∷ [])
  unsigned_more commits bare unsigned stands were = record {
    whole = longer _ (to_third (take i all) commits bare unsigned c were.whole);
    rising = still_below (map height_of all) i commits rises were.rising;
    bare_rising = still_below (map height_of all) i bare rises were.bare_rising;
    unsigned_rising = one_below (map height_of all) i unsigned c rises within its were.unsigned_rising;
    have = were.have;
    signed = were.signed;
    without = were.without;
    few = All-push (IsUnsigned signatures sets) unsigned c were.few stands;
  }

  same_lists : (A B D A' B' D' : List Commit) → A' ≡ A → B' ≡ B → D' ≡ D → AreParted signatures sets all (i + 1) A B D → AreParted signatures sets all (i + 1) A' B' D'
  same_lists A B D A' B' D' first second third are =
      subst (λ l. AreParted signatures sets all (i + 1) l B' D') (sym first)
      (subst (λ l. AreParted signatures sets all (i + 1) A l D') (sym second) (subst (AreParted signatures sets all (i + 1) A B) (sym third) are))

  -- a header more
  pub parted_more : (standing : Standing) (before after : Parts) → Stands signatures sets c standing → Takes standing c before after → AreParted signatures sets all i before.commits.items before.bare.items before.unsigned.items
      → AreParted signatures sets all (i + 1) after.commits.items after.bare.items after.unsigned.items
  parted_more Standing.Signed before after stands (first, second, third) were =
      same_lists _ _ _ _ _ _ first second third (signed_more before.commits.items before.bare.items before.unsigned.items stands were)
  parted_more Standing.Bare before after stands (first, second, third) were =
      same_lists _ _ _ _ _ _ first second third (bare_more before.commits.items before.bare.items before.unsigned.items stands were)
  parted_more Standing.Unsigned before after stands (first, second, third) were =
      same_lists _ _ _ _ _ _ first second third (unsigned_more before.commits.items before.bare.items before.unsigned.items (has_set sets c fits stands.0, stands.1) were)

-- all of them
pub all_parted : (signatures : Signatures) (sets : List SeenSet) (all : List Commit) (i : ℕ) (commits bare unsigned : List Commit) → take i all ≡ all → AreParted signatures sets all i commits bare unsigned
    → IsPermutation all (commits ++ bare ++ unsigned)
all_parted signatures sets all i commits bare unsigned is are = subst (λ l. IsPermutation l (commits ++ bare ++ unsigned)) is are.whole

-- what holds of all holds of each part
pub of_first : {X : Type 0} (P : X → Type 0) (first rest : List X) → All P (first ++ rest) → All P first
of_first P first rest all = λ k d small.
    subst P (get_or_append_left first rest d k small) (all k d (omega (arith, small, length-append first rest)))

pub of_rest : {X : Type 0} (P : X → Type 0) (first rest : List X) → All P (first ++ rest) → All P rest
of_rest P first rest all = of_first P rest first (All-permutation P _ _ (IsPermutation-append_comm first rest) all)

module _ (all first second third : List Commit) (same : IsPermutation all (first ++ second ++ third)) where
  pub in_first : (P : Commit → Type 0) → All P all → All P first
  in_first P each = of_first P first second (of_first P (first ++ second) third (All-permutation P _ _ same each))

  pub in_others : (P : Commit → Type 0) → All P all → All P (second ++ third)
  in_others P each = of_rest P first (second ++ third) (subst (All P) (sym (assoc first second third)) (All-permutation P _ _ same each))

  -- of the headers that are left out the same holds as of all
  pub left_out : (id : List ℕ) (saved : List Saved) → All (IsJudged saved) all → All (IsOfChain id) all → All IsOfItsBlock all → All (HasItsValidators saved) all → All (IsLeftOut id saved) (second ++ third)
  left_out id saved judged of_chain of_block validators =
      in_others (IsLeftOut id saved) (λ k d small. (judged k d small, of_chain k d small, of_block k d small, validators k d small))
