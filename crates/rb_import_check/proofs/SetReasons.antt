-- Why the validators and the signatures of a chain's answers are refused.
use Rattle.std.proofs.Common.{◌≡◌, ◌≢◌, ◌⊎◌, ℕ, zero, suc, ◌+◌, ◌<◌, ◌≤◌, List, [], ◌∷◌, ◌++◌, length, get_or, take, map, Option, Some, None, inl, inr, sym, subst, ap, ◌∙◌, arith}
use Rattle.std.specs.Prelude.{Any, Contains, IfSome, IsSome, IsSomeAnd}
use Rattle.std.specs.List.{AllZip, flat_map}
use Rattle.std.specs.List.Sorted.{IsPermutation}
use Rattle.std.proofs.lemmas.List.Sorted.{Contains-permutation, IsPermutation-sym}
use Rattle.std.proofs.lemmas.List.Folds.{flat_map-map}
use Rattle.rb_valset.specs.Refusal.{set_refusal}
use Rattle.rb_valset.specs.Validator.{Member}
use Rattle.rb_valset.specs.ValidatorSet.{set_hash, in_set_order}
use Rattle.rb_import_answers.specs.declared.commit.SignedHeader.{SignedHeader}
use Rattle.rb_import_answers.specs.declared.validators.ValidatorsPage.{ValidatorsPage}
use Rattle.rb_import_check.specs.declared.chain.Commit.{Commit}
use Rattle.rb_import_check.specs.declared.chain.Page.{Page}
use Rattle.rb_import_check.specs.declared.error.CheckErrorName.{CheckErrorName}
use Rattle.rb_import_check.specs.declared.error.ImportError.{ImportError}
use Rattle.rb_import_check.specs.declared.error.ImportError.TheVariants as errors
use Rattle.rb_import_check.specs.declared.saved.Saved.{Saved}
use Rattle.rb_import_check.specs.declared.sets.SeenSet.{SeenSet}
use Rattle.rb_import_check.specs.Chains.{AreAllPages, AreWhole, Differ, HaveHeaders, HaveSets, IsAmong, IsSetAt, headers_of, pages_at, validators_at, validators_of, without_files}
use Rattle.rb_import_check.specs.Errors.{IsTold, IsToldBy}
use Rattle.rb_import_check.specs.Refusals.{HasReasonOf, HaveTooMany, HaveTwoTotals, Refuses, RefusesCommit, RefusesPages}
use Rattle.rb_import_check.proofs.ChainReasons.{any_map, any_viewed, longer}
use Rattle.rb_import_check.proofs.Sorting.{added_more}

abbrev pub page_of : Page → ValidatorsPage
page_of p = p.page.now

abbrev pub header_of : Commit → SignedHeader
header_of c = c.header.now

pub any_of : {A : Type 0} (P : A → Type 0) (all bs : List A) → IsPermutation all bs → Any P bs → Any P all
any_of P all bs same (k, a, small, is, p) =
    let there = Contains-permutation bs all a (IsPermutation-sym all bs same) (k, small, is) in
    (there.0, a, there.1, there.2, p)

-- ---- pages

module _ (id : List ℕ) (saved : List Saved) (commits : List Commit) (same : HaveHeaders (headers_of saved) commits) where
  abbrev Pages : CheckErrorName → Type 0
  Pages name = (height : ℕ) × RefusesPages name (map header_of commits) height (pages_at saved height)

  of_pages : (name : CheckErrorName) → Pages name → Refuses name id saved
  of_pages CheckErrorName.OtherTotal w = w
  of_pages CheckErrorName.TooManyValidators w = w
  of_pages CheckErrorName.BadSet w = w
  of_pages CheckErrorName.OtherSet (height, (all, there)) =
      (height, (all, any_of (λ (h : SignedHeader). (h.height ≡ height) × (h.set ≡ set_hash (in_set_order (validators_at saved height)) → ⊥)) (headers_of saved) (map header_of commits) same there))
  of_pages CheckErrorName.WrongFolder w = absurd w.1
  of_pages CheckErrorName.OtherChain w = absurd w.1
  of_pages CheckErrorName.OtherRevision w = absurd w.1
  of_pages CheckErrorName.TwoAnswers w = absurd w.1
  of_pages CheckErrorName.OtherHeader w = absurd w.1
  of_pages CheckErrorName.SignatureCount w = absurd w.1
  of_pages CheckErrorName.OtherSigner w = absurd w.1
  of_pages CheckErrorName.MissingClientState w = absurd w.1
  of_pages CheckErrorName.MissingConsensusStates w = absurd w.1
  of_pages CheckErrorName.OtherRecord w = absurd w.1
  of_pages CheckErrorName.MissingCommitments w = absurd w.1
  of_pages CheckErrorName.MissingTransactions w = absurd w.1
  of_pages CheckErrorName.TwoChannels w = absurd w.1
  of_pages CheckErrorName.MissingSend w = absurd w.1
  of_pages CheckErrorName.MissingReceive w = absurd w.1
  of_pages CheckErrorName.OtherVerdict w = absurd w.1
  of_pages CheckErrorName.ScriptTooBig w = absurd w.1

  pub tells_pages : (e : ImportError) → IsToldBy Pages e → HasReasonOf id saved e
  tells_pages (errors.CheckError p) w = of_pages p.name w
  tells_pages errors.NoMemory w = tt

-- ---- sets

zip_at : {A B : Type 0} (R : A → B → Type 0) (xs : List A) (ys : List B) (y : B) → AllZip R xs ys → Contains ys y → (x : A) × R x y
zip_at R [] [] y all (k, small, is) = absurd (omega (arith, small))
zip_at R [] (b ∷ ys) y all w = absurd all
zip_at R (a ∷ xs) [] y all w = absurd all
zip_at R (a ∷ xs) (b ∷ ys) y (first, all) (zero, small, is) = (a, subst (R a) is first)
zip_at R (a ∷ xs) (b ∷ ys) y (first, all) (suc k, small, is) = zip_at R xs ys y all (k, omega (arith, small), is)

-- a set that was seen is that of all the validators of a height
set_at : (saved : List Saved) (sets : List SeenSet) (s : SeenSet) → HaveSets saved sets → Contains sets s → (height : ℕ) × IsSetAt saved height s.set
unfolding HaveSets
set_at saved sets s ((heights, (rises, each)), all) there = zip_at (λ height (x : SeenSet). IsSetAt saved height x.set) heights sets s each there

module _ (id : List ℕ) (saved : List Saved) (commits : List Commit) (sets : List SeenSet) (same : HaveHeaders (headers_of saved) commits) (have : HaveSets saved sets) where
  pub discord : (name : CheckErrorName) (h : SignedHeader) (s : SeenSet) → Contains sets s → set_hash s.set ≡ h.set → Differ name h.signatures.items s.set
      → (height : ℕ) × AreWhole saved height × (set_hash (in_set_order (validators_at saved height)) ≡ h.set) × Differ name h.signatures.items (in_set_order (validators_at saved height))
  discord name h s there hash differ =
      let (height, (whole, is)) = set_at saved sets s have there in
      (height, whole, ap set_hash (sym is) ∙ hash, subst (Differ name h.signatures.items) is differ)

  abbrev Discord : CheckErrorName → SignedHeader → Type 0
  Discord name h =
      (height : ℕ) × AreWhole saved height × (set_hash (in_set_order (validators_at saved height)) ≡ h.set)
      × Differ name h.signatures.items (in_set_order (validators_at saved height))

  of_commit : (name : CheckErrorName) → Any (RefusesCommit name sets) commits → Refuses name id saved
  of_commit CheckErrorName.SignatureCount (k, c, small, is, (s, there, hash, differ)) =
      any_viewed header_of (Discord CheckErrorName.SignatureCount) (headers_of saved) commits same (k, c, small, is, discord CheckErrorName.SignatureCount c.header.now s there hash differ)
  of_commit CheckErrorName.OtherSigner (k, c, small, is, (s, there, hash, differ)) =
      any_viewed header_of (Discord CheckErrorName.OtherSigner) (headers_of saved) commits same (k, c, small, is, discord CheckErrorName.OtherSigner c.header.now s there hash differ)
  of_commit CheckErrorName.WrongFolder (k, c, small, is, (s, there, hash, differ)) = absurd differ
  of_commit CheckErrorName.OtherChain (k, c, small, is, (s, there, hash, differ)) = absurd differ
  of_commit CheckErrorName.OtherRevision (k, c, small, is, (s, there, hash, differ)) = absurd differ
  of_commit CheckErrorName.TwoAnswers (k, c, small, is, (s, there, hash, differ)) = absurd differ
  of_commit CheckErrorName.OtherTotal (k, c, small, is, (s, there, hash, differ)) = absurd differ
  of_commit CheckErrorName.TooManyValidators (k, c, small, is, (s, there, hash, differ)) = absurd differ
  of_commit CheckErrorName.BadSet (k, c, small, is, (s, there, hash, differ)) = absurd differ
  of_commit CheckErrorName.OtherSet (k, c, small, is, (s, there, hash, differ)) = absurd differ
  of_commit CheckErrorName.OtherHeader (k, c, small, is, (s, there, hash, differ)) = absurd differ
  of_commit CheckErrorName.MissingClientState (k, c, small, is, (s, there, hash, differ)) = absurd differ
  of_commit CheckErrorName.MissingConsensusStates (k, c, small, is, (s, there, hash, differ)) = absurd differ
  of_commit CheckErrorName.OtherRecord (k, c, small, is, (s, there, hash, differ)) = absurd differ
  of_commit CheckErrorName.MissingCommitments (k, c, small, is, (s, there, hash, differ)) = absurd differ
  of_commit CheckErrorName.MissingTransactions (k, c, small, is, (s, there, hash, differ)) = absurd differ
  of_commit CheckErrorName.TwoChannels (k, c, small, is, (s, there, hash, differ)) = absurd differ
  of_commit CheckErrorName.MissingSend (k, c, small, is, (s, there, hash, differ)) = absurd differ
  of_commit CheckErrorName.MissingReceive (k, c, small, is, (s, there, hash, differ)) = absurd differ
  of_commit CheckErrorName.OtherVerdict (k, c, small, is, (s, there, hash, differ)) = absurd differ
  of_commit CheckErrorName.ScriptTooBig (k, c, small, is, (s, there, hash, differ)) = absurd differ

  pub tells_set : (e : ImportError) → IsToldBy (λ name. Any (RefusesCommit name sets) commits) e → HasReasonOf id saved e
  tells_set (errors.CheckError p) w = of_commit p.name w
  tells_set errors.NoMemory w = tt

-- ---- what a problem tells of one tells it of more

pub told_more : (P Q : CheckErrorName → Type 0) (e : ImportError) → ((name : CheckErrorName) → P name → Q name) → IsToldBy P e → IsToldBy Q e
told_more P Q (errors.CheckError p) more w = more p.name w
told_more P Q errors.NoMemory more w = tt

pub told_so : (name : CheckErrorName) (P Q : Type 0) (e : ImportError) → (P → Q) → IsTold name P e → IsTold name Q e
told_so name P Q (errors.CheckError p) more w = (w.0, more w.1)
told_so name P Q errors.NoMemory more w = tt

pub told_by : (Tells : CheckErrorName → Type 0) (name : CheckErrorName) (e : ImportError) → IsTold name (Tells name) e → IsToldBy Tells e
told_by Tells name (errors.CheckError p) w = subst Tells (sym w.0) w.1
told_by Tells name errors.NoMemory w = tt

-- ---- the pages of a height

-- a page tells another total than one before it
pub two_totals : (before : Option Page) (pages : List Page) (page : Page) (i : ℕ) (e : ImportError) → i < length pages → page ≡ get_or pages i page → IfSome before (Contains pages)
    → IsTold CheckErrorName.OtherTotal (IsSomeAnd before (λ (lower : Page). lower.page.now.total ≢ page.page.now.total)) e → IsTold CheckErrorName.OtherTotal (HaveTwoTotals (without_files pages)) e
two_totals before pages page i errors.NoMemory small is there told = tt
two_totals None pages page i (errors.CheckError p) small is there told = absurd told.1
two_totals (Some lower) pages page i (errors.CheckError p) small is (k, within, at) told =
    let here : Any (λ (q : ValidatorsPage). lower.page.now.total ≢ q.total) (without_files pages) =
    any_map page_of (λ (q : ValidatorsPage). lower.page.now.total ≢ q.total) pages (i, page, small, sym is, told.1) in
    (told.0, any_map page_of (λ (q : ValidatorsPage). Any (λ (r : ValidatorsPage). q.total ≢ r.total) (without_files pages)) pages (k, lower, within, at, here))

-- the pages so far have more validators than a page says that there are
pub too_many : (pages : List Page) (page : Page) (i : ℕ) (members before : List Member) → i < length pages → page ≡ get_or pages i page
    → before ≡ flat_map (λ (p : Page). p.page.now.validators.items) (take i pages) → members ≡ before ++ page.page.now.validators.items → page.page.now.total < length members
    → HaveTooMany (without_files pages)
too_many pages page i members before small is was now more =
    let f : Page → List Member = λ p. p.page.now.validators.items in
    let these : members ≡ flat_map f (take (i + 1) pages) = added_more f before members pages i page small is was now in
    let few : length (flat_map f (take (i + 1) pages)) ≤ length (flat_map f pages) = longer f pages (i + 1) in
    let all : validators_of (without_files pages) ≡ flat_map f pages = flat_map-map (λ (p : ValidatorsPage). p.validators.items) page_of pages in
    let most : page.page.now.total < length (validators_of (without_files pages)) = omega (arith, more, few, ap length these, ap length all) in
    any_map page_of (λ (q : ValidatorsPage). q.total < length (validators_of (without_files pages))) pages (i, page, small, sym is, most)

pub refuses_total : (headers : List SignedHeader) (height : ℕ) (pages : List ValidatorsPage) (e : ImportError)
    → IsTold CheckErrorName.OtherTotal (HaveTwoTotals pages) e ⊎ IsTold CheckErrorName.TooManyValidators (HaveTooMany pages) e → IsToldBy (λ name. RefusesPages name headers height pages) e
refuses_total headers height pages e (inl told) = told_by (λ name. RefusesPages name headers height pages) CheckErrorName.OtherTotal e told
refuses_total headers height pages e (inr told) = told_by (λ name. RefusesPages name headers height pages) CheckErrorName.TooManyValidators e told

pub refuses_set : (headers : List SignedHeader) (height : ℕ) (pages : List ValidatorsPage) (members : List Member) (e : ImportError) → AreAllPages pages → members ≡ validators_of pages
    → IsTold CheckErrorName.BadSet (IsSome (set_refusal members)) e → IsToldBy (λ name. RefusesPages name headers height pages) e
refuses_set headers height pages members errors.NoMemory all is told = tt
refuses_set headers height pages members (errors.CheckError p) all is told =
    subst (λ name. RefusesPages name headers height pages) (sym told.0) (all, subst (λ l. IsSome (set_refusal l)) is told.1)

pub refuses_other : (commits : List Commit) (commit : Option Commit) (height : ℕ) (pages : List ValidatorsPage) (set : List Member) (e : ImportError) → IfSome commit (IsAmong commits height)
    → AreAllPages pages → set ≡ in_set_order (validators_of pages)
    → IsTold CheckErrorName.OtherSet (IsSomeAnd commit (λ (c : Commit). c.header.now.set ≢ set_hash set)) e → IsToldBy (λ name. RefusesPages name (map header_of commits) height pages) e
refuses_other commits commit height pages set errors.NoMemory among all is told = tt
refuses_other commits None height pages set (errors.CheckError p) among all is told = absurd told.1
refuses_other commits (Some c) height pages set (errors.CheckError p) among all is told =
    let other : c.header.now.set ≢ set_hash (in_set_order (validators_of pages)) = subst (λ l. c.header.now.set ≢ set_hash l) is told.1 in
    let Other : SignedHeader → Type 0 = λ h. (h.height ≡ height) × (h.set ≢ set_hash (in_set_order (validators_of pages))) in
    subst (λ name. RefusesPages name (map header_of commits) height pages) (sym told.0)
    (all, any_map header_of Other commits (among.0.0, c, among.0.1, among.0.2, (among.1, other)))

-- ---- the pages of some height

abbrev pub RefusesSome : List SignedHeader → List Saved → CheckErrorName → Type 0
RefusesSome headers saved name = (height : ℕ) × RefusesPages name headers height (pages_at saved height)

pub refuses_at : (headers : List SignedHeader) (saved : List Saved) (height : ℕ) (pages : List ValidatorsPage) (e : ImportError) → pages ≡ pages_at saved height
    → IsToldBy (λ name. RefusesPages name headers height pages) e → IsToldBy (RefusesSome headers saved) e
refuses_at headers saved height pages errors.NoMemory are told = tt
refuses_at headers saved height pages (errors.CheckError p) are told = (height, subst (RefusesPages p.name headers height) are told)
