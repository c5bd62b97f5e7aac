-- What an error names of answers.
use Rattle.std.proofs.Common.{◌≡◌, ◌≢◌, ◌⊎◌, ℕ, zero, suc, ◌+◌, ◌<◌, ◌≤◌, List, [], ◌∷◌, ◌++◌, length, get_or, take, map, Option, Some, None, inl, inr, refl, sym, subst, ap, ◌∙◌, arith}
use Rattle.std.specs.Prelude.{⊤, Any, Contains, IfSome, IsSomeAnd, slice_get, slice_index, string_bytes}
use Rattle.std.specs.List.{flat_map}
use Rattle.std.specs.Option.{unwrap_or}
use Rattle.std.specs.List.Sorted.{IsNonDecreasingBy, IsPermutation}
use Rattle.std.proofs.lemmas.List.{get_or_default, length-map}
use Rattle.std.proofs.lemmas.List.Sorted.{IsPermutation-cons, IsPermutation-map, IsPermutation-refl, IsPermutation-swap, IsPermutation-trans}
use Rattle.std.proofs.lemmas.Option.{none-some, same_Some}
use Rattle.rb_import_answers.specs.Revisions.{IsRevision}
use Rattle.rb_import_answers.specs.declared.answer.NodeAnswer.{NodeAnswer}
use Rattle.rb_import_answers.specs.declared.commit.SignedHeader.{SignedHeader}
use Rattle.rb_import_check.specs.declared.chain.Commit.{Commit}
use Rattle.rb_import_check.specs.declared.chain.Page.{Page}
use Rattle.rb_import_check.specs.declared.client.Stored.{Stored}
use Rattle.rb_import_check.specs.declared.error.CheckError.{CheckError}
use Rattle.rb_import_check.specs.declared.error.CheckErrorName.{CheckErrorName}
use Rattle.rb_import_check.specs.declared.error.ImportError.{ImportError}
use Rattle.rb_import_check.specs.declared.error.ImportError.TheVariants as errors
use Rattle.rb_import_check.specs.declared.saved.Saved.{Saved}
use Rattle.rb_import_check.specs.declared.sets.SeenSet.{SeenSet}
use Rattle.rb_import_check.specs.Chains.{AreOfFiles, Filed, HaveHeaders, HaveSets, IsAmong, filed, filed_of, headers_in, headers_of, pages_at}
use Rattle.rb_import_check.specs.Clients.{AreFilesInSomeOrder, FiledState, filed_state, filed_states_of}
use Rattle.rb_import_check.specs.Errors.{AreTwoAmong, IsAt, IsBetween, IsBetweenTwo, IsIn, IsTold, IsToldBy}
use Rattle.rb_import_check.specs.Named.{FiledPage, IsOfPage, Names, NamesByName, NamesCommit, NamesCommitBy, NamesDiscord, NamesFall, NamesForeign, NamesHeaderAndPage, NamesIn, NamesOf, NamesOfPages, NamesOtherHeader, NamesOtherRecord, NamesPages, NamesSomePages, NamesTwo, NamesTwoAmong, NamesTwoRecords, ShowsHeader, filed_page, filed_pages_at, with_files}
use Rattle.rb_import_check.specs.Refusals.{RefusesPages}
use Rattle.rb_import_check.specs.Verdicts.{TellsOtherVotes, verdict_list, verdicts_of}
use Rattle.rb_import_check.proofs.ChainReasons.{any_map, any_viewed}
use Rattle.rb_import_check.proofs.ReasonsLemmas.{any_one, named_twice}
use Rattle.rb_import_check.proofs.SetReasons.{any_of, discord}
use Rattle.rb_import_check.proofs.Sorting.{assoc, taken}

-- ---- two of a list

first_two : {X : Type 0} (x y : X) (xs : List X) → IsPermutation (x ∷ y ∷ xs) (y ∷ x ∷ xs)
first_two x y xs = IsPermutation-swap (x ∷ y ∷ xs) (y ∷ x ∷ xs) 0 1 (omega arith) (omega arith) refl

-- two neighbours are two of a list
pub neighbours : {X : Type 0} (xs : List X) (i : ℕ) (x y : X) → i + 1 < length xs → x ≡ get_or xs i x → y ≡ get_or xs (i + 1) y → AreTwoAmong x y xs
neighbours [] i x y small one two = absurd (omega arith)
neighbours (a ∷ []) i x y small one two = absurd (omega arith)
neighbours {X} (a ∷ b ∷ xs) zero x y small one two =
    let all : List X = a ∷ b ∷ xs in
    (xs, subst (λ z. IsPermutation all (z ∷ y ∷ xs)) (sym one) (subst (λ z. IsPermutation all (a ∷ z ∷ xs)) (sym two) (IsPermutation-refl all)))
neighbours {X} (a ∷ b ∷ xs) (suc i) x y small one two =
    let next : suc i + 1 ≡ suc (i + 1) = omega arith in
    let below : AreTwoAmong x y (b ∷ xs) = neighbours (b ∷ xs) i x y (omega arith) one (subst (λ k. y ≡ get_or (a ∷ b ∷ xs) k y) next two) in
    let others : List X = below.0 in (
      a ∷ others,
      IsPermutation-trans _ (a ∷ x ∷ y ∷ others) _ (IsPermutation-cons a _ _ below.1)
          (IsPermutation-trans _ (x ∷ a ∷ y ∷ others) _ (first_two a x (y ∷ others)) (IsPermutation-cons x _ _ (first_two a y others))),
    )

-- what elements hold is what the first ones hold, and what the others do
parts : {X A : Type 0} (f : X → List A) (xs : List X) (i : ℕ) → (rest : List A) × (flat_map f xs ≡ flat_map f (take i xs) ++ rest)
parts f [] zero = ([], refl)
parts f [] (suc i) = ([], refl)
parts f (x ∷ xs) zero = (flat_map f (x ∷ xs), refl)
parts f (x ∷ xs) (suc i) =
    let (rest, is) = parts f xs i in
    (rest, ap (λ l. f x ++ l) is ∙ assoc (f x) (flat_map f (take i xs)) rest)

-- what an element holds, and the one that those before it hold, are two of all
pub two_held : {X A : Type 0} (f : X → List A) (xs : List X) (i : ℕ) (x : X) (a b : A) → i < length xs → x ≡ get_or xs i x → a ∷ [] ≡ flat_map f (take i xs) → f x ≡ b ∷ [] → AreTwoAmong a b (flat_map f xs)
two_held f xs i x a b small is before there =
    let (rest, all) = parts f xs (i + 1) in
    let both : flat_map f (take (i + 1) xs) ≡ a ∷ b ∷ [] = taken f xs i x small is ∙ ap (λ l. l ++ f x) (sym before) ∙ ap (λ l. a ∷ l) there in
    (rest, subst (IsPermutation (flat_map f xs)) (all ∙ ap (λ l. l ++ rest) both) (IsPermutation-refl (flat_map f xs)))

-- ---- two of one height

pub two_files : {X A : Type 0} (view : X → A) (height : A → ℕ) (file : A → List ℕ) (all : List A) (xs : List X) (e : ImportError) (i : ℕ) (x y : X)
    → IsPermutation all (map view xs) → IsNonDecreasingBy (λ z. height (view z)) xs → i + 1 < length xs → x ≡ get_or xs i x → y ≡ get_or xs (i + 1) y
    → height (view y) ≤ height (view x) → IsAt (height (view x)) e → IsBetween (file (view x)) (file (view y)) e
    → IsBetweenTwo file (λ a b. (height a ≡ height b) × IsAt (height a) e) all e
two_files view height file all xs e i x y same order small one two low at between =
    let (others, both) = neighbours xs i x y small one two in
    let rising : height (view (get_or xs i y)) ≤ height (view (get_or xs (i + 1) y)) = order i (i + 1) y (omega arith) small in
    let first : height (view (get_or xs i y)) ≡ height (view x) = ap (λ z. height (view z)) (get_or_default xs i y x (omega arith) ∙ sym one) in
    let second : height (view (get_or xs (i + 1) y)) ≡ height (view y) = ap (λ z. height (view z)) (sym two) in
    (view x, view y, (map view others, IsPermutation-trans _ _ _ same (IsPermutation-map view _ _ both)), (omega arith, at), between)

index_at : {X : Type 0} (f : X → ℕ) (xs : List X) (k : ℕ) (x : X) → k < length xs → x ≡ get_or xs k x → slice_index (map f xs) k ≡ f x
index_at f [] k x small is = absurd (omega (arith, small))
index_at f (y ∷ xs) zero x small is = ap f (sym is)
index_at f (y ∷ xs) (suc k) x small is = index_at f xs k x (omega (arith, small)) is

names_fall : {X : Type 0} (height : X → ℕ) (file : X → List ℕ) (xs : List X) (e : ImportError) (i : ℕ) (x y : X) → i + 1 < length xs → x ≡ get_or xs i x → y ≡ get_or xs (i + 1) y
    → height y ≤ height x → IsAt (height x) e → IsBetween (file x) (file y) e → NamesFall height file xs e
names_fall height file xs (errors.CheckError p) i x y small one two low at between = (i, x, y, small, one, two, low, at, between)
names_fall height file xs errors.NoMemory i x y small one two low at between = tt

-- two whose heights don't rise, by the list of the heights
pub falls : {X : Type 0} (height : X → ℕ) (file : X → List ℕ) (heights : List ℕ) (xs : List X) (e : ImportError) (i : ℕ) (x y : X) → heights ≡ map height xs → i + 1 < length heights
    → slice_index heights (i + 1) ≤ slice_index heights i → x ≡ get_or xs i x → y ≡ get_or xs (i + 1) y → IsAt (height x) e → IsBetween (file x) (file y) e → NamesFall height file xs e
falls height file heights xs e i x y are small low one two at between =
    let long : length heights ≡ length xs = ap length are ∙ length-map xs height in
    let within : i + 1 < length xs = omega (arith, long, small) in
    let first : slice_index heights i ≡ height x = ap (λ l. slice_index l i) are ∙ index_at height xs i x (omega (arith, within)) one in
    let second : slice_index heights (i + 1) ≡ height y = ap (λ l. slice_index l (i + 1)) are ∙ index_at height xs (i + 1) y within two in
    names_fall height file xs e i x y within one two (omega (arith, first, second, low)) at between

-- ---- a chain's answers

pub names_chain : (id : List ℕ) (saved : List Saved) (commits : List Commit) (R : Type 0) (e : ImportError) → AreOfFiles (filed_of saved) commits
    → IsTold CheckErrorName.OtherChain R e → Any (λ c. NamesOtherHeader id (filed c) e) commits → NamesOf id saved e
names_chain id saved commits R (errors.CheckError p) same w named =
    subst (λ name. Names name id saved (errors.CheckError p)) (sym w.0)
    (inl (any_viewed filed (λ (f : Filed). NamesOtherHeader id f (errors.CheckError p)) (filed_of saved) commits same named))
names_chain id saved commits R errors.NoMemory same w named = tt

pub names_block : (id : List ℕ) (saved : List Saved) (commits : List Commit) (R : Type 0) (e : ImportError) → AreOfFiles (filed_of saved) commits
    → IsTold CheckErrorName.OtherHeader R e → Any (λ c. ShowsHeader (filed c) e) commits → NamesOf id saved e
names_block id saved commits R (errors.CheckError p) same w named =
    subst (λ name. Names name id saved (errors.CheckError p)) (sym w.0)
    (any_viewed filed (λ (f : Filed). ShowsHeader f (errors.CheckError p)) (filed_of saved) commits same named)
names_block id saved commits R errors.NoMemory same w named = tt

pub names_twice : (id : List ℕ) (saved : List Saved) (commits : List Commit) (R : Type 0) (e : ImportError) → AreOfFiles (filed_of saved) commits
    → IsNonDecreasingBy (λ (c : Commit). c.header.now.height) commits → IsTold CheckErrorName.TwoAnswers R e
    → NamesFall (λ (c : Commit). c.header.now.height) (λ (c : Commit). c.file.now) commits e → NamesOf id saved e
names_twice id saved commits R (errors.CheckError p) same order w (i, x, y, small, one, two, low, at, between) =
    subst (λ name. Names name id saved (errors.CheckError p)) (sym w.0)
    (inl (two_files filed (λ (f : Filed). f.0.height) (λ (f : Filed). f.2) (filed_of saved) commits (errors.CheckError p) i x y same order small one two low at between))
names_twice id saved commits R errors.NoMemory same order w named = tt

pub names_votes : (id : List ℕ) (saved : List Saved) (i : ℕ) (s : Saved) (h : SignedHeader) (e : ImportError) → i < length saved → s ≡ get_or saved i s → headers_in s.answer ≡ h ∷ []
    → IsTold CheckErrorName.OtherVerdict (TellsOtherVotes (verdict_list (verdicts_of saved)) s.digest (length h.signatures.items)) e → IsAt h.height e × IsIn (string_bytes s.file) e
    → NamesOf id saved e
names_votes id saved i s h (errors.CheckError p) small is there w named =
    subst (λ name. Names name id saved (errors.CheckError p)) (sym w.0)
    (any_one (λ (f : Filed). TellsOtherVotes (verdict_list (verdicts_of saved)) f.1 (length f.0.signatures.items) × IsAt f.0.height (errors.CheckError p) × IsIn f.2 (errors.CheckError p))
    (λ (t : Saved). map (λ (x : SignedHeader). (x, t.digest, string_bytes t.file)) (headers_in t.answer))
    saved i s (h, s.digest, string_bytes s.file) small is (ap (map (λ (x : SignedHeader). (x, s.digest, string_bytes s.file))) there) (w.1, named.0, named.1))
names_votes id saved i s h errors.NoMemory small is there w named = tt

-- one that an answer tells of, with its file
pub any_filed : {A : Type 0} (told : NodeAnswer → List A) (P : A × List ℕ → Type 0) (saved : List Saved) (i : ℕ) (s : Saved) (a : A) → i < length saved → s ≡ get_or saved i s
    → told s.answer ≡ a ∷ [] → P (a, string_bytes s.file) → Any P (with_files told saved)
any_filed {A} told P saved i s a small is there w =
    any_one P (λ (t : Saved). map (λ (x : A). (x, string_bytes t.file)) (told t.answer)) saved i s (a, string_bytes s.file) small is (ap (map (λ (x : A). (x, string_bytes s.file))) there) w

pub two_filed : {A : Type 0} (told : NodeAnswer → List A) (saved : List Saved) (i : ℕ) (s : Saved) (a b : A) (earlier : List ℕ) → i < length saved → s ≡ get_or saved i s
    → (a, earlier) ∷ [] ≡ with_files told (take i saved) → told s.answer ≡ b ∷ [] → AreTwoAmong (a, earlier) (b, string_bytes s.file) (with_files told saved)
two_filed {A} told saved i s a b earlier small is before there =
    two_held (λ (t : Saved). map (λ (x : A). (x, string_bytes t.file)) (told t.answer)) saved i s (a, earlier) (b, string_bytes s.file) small is before (ap (map (λ (x : A). (x, string_bytes s.file))) there)

-- ---- pages of a height

-- a page tells another total than one before it
pub names_totals : (before : Option Page) (pages : List Page) (page : Page) (i : ℕ) (e : ImportError) → i < length pages → page ≡ get_or pages i page → IfSome before (Contains pages)
    → IsTold CheckErrorName.OtherTotal (IsSomeAnd before (λ (lower : Page). lower.page.now.total ≢ page.page.now.total)) e
    → IsSomeAnd before (λ (lower : Page). IsAt lower.page.now.height e × IsBetween lower.file.now page.file.now e) → NamesOfPages 0 [] (map filed_page pages) e
names_totals before pages page i errors.NoMemory small is there told named = tt
names_totals None pages page i (errors.CheckError p) small is there told named = absurd told.1
names_totals (Some lower) pages page i (errors.CheckError p) small is (k, within, at) told named =
    let e : ImportError = errors.CheckError p in
    let Two : FiledPage → FiledPage → Type 0 = λ q r. (q.0.total ≢ r.0.total) × IsAt q.0.height e × IsBetween q.1 r.1 e in
    let here : Any (Two (filed_page lower)) (map filed_page pages) = any_map filed_page (Two (filed_page lower)) pages (i, page, small, sym is, (told.1, named.0, named.1)) in
    subst (λ name. NamesPages name 0 [] (map filed_page pages) e) (sym told.0)
    (any_map filed_page (λ q. Any (Two q) (map filed_page pages)) pages (k, lower, within, at, here))

-- two of the pages have too many validators
pub names_many : (pages : List Page) (lower page : Page) (e : ImportError) → Contains pages lower → Contains pages page → IsTold CheckErrorName.TooManyValidators ⊤ e
    → IsAt lower.page.now.height e → IsBetween lower.file.now page.file.now e → NamesOfPages 0 [] (map filed_page pages) e
names_many pages lower page errors.NoMemory first second told at between = tt
names_many pages lower page (errors.CheckError p) (i, small, is) (k, within, there) told at between =
    let e : ImportError = errors.CheckError p in
    let Two : FiledPage → FiledPage → Type 0 = λ q r. IsAt q.0.height e × IsBetween q.1 r.1 e in
    let here : Any (Two (filed_page lower)) (map filed_page pages) = any_map filed_page (Two (filed_page lower)) pages (k, page, within, there, (at, between)) in
    subst (λ name. NamesPages name 0 [] (map filed_page pages) e) (sym told.0)
    (any_map filed_page (λ q. Any (Two q) (map filed_page pages)) pages (i, lower, small, is, here))

-- the page before, or this one where there is none
pub lower_among : (before : Option Page) (pages : List Page) (page lower : Page) → IfSome before (Contains pages) → Contains pages page → lower ≡ unwrap_or before page → Contains pages lower
lower_among None pages page lower there here is = subst (Contains pages) (sym is) here
lower_among (Some x) pages page lower there here is = subst (Contains pages) (sym is) there

-- what is told of the totals needs no header
pub names_members : (height : ℕ) (headers : List Filed) (pages : List FiledPage) (P Q : Type 0) (e : ImportError) → IsTold CheckErrorName.OtherTotal P e ⊎ IsTold CheckErrorName.TooManyValidators Q e
    → NamesOfPages 0 [] pages e → NamesOfPages height headers pages e
names_members height headers pages P Q errors.NoMemory told named = tt
names_members height headers pages P Q (errors.CheckError p) (inl told) named =
    subst (λ name. NamesPages name height headers pages (errors.CheckError p)) (sym told.0) (subst (λ name. NamesPages name 0 [] pages (errors.CheckError p)) told.0 named)
names_members height headers pages P Q (errors.CheckError p) (inr told) named =
    subst (λ name. NamesPages name height headers pages (errors.CheckError p)) (sym told.0) (subst (λ name. NamesPages name 0 [] pages (errors.CheckError p)) told.0 named)

first_page : (P : FiledPage → Type 0) (pages : List Page) (first : Page) → Some first ≡ slice_get pages 0 → P (filed_page first) → Any P (map filed_page pages)
first_page P [] first is w = absurd (none-some first (sym is))
first_page P (q ∷ qs) first is w = (0, filed_page q, omega arith, refl, subst (λ (x : Page). P (filed_page x)) (same_Some first q is) w)

-- a header of the height of pages, and their first one
header_page : (commits : List Commit) (commit : Option Commit) (height : ℕ) (pages : List Page) (first : Page) (e : ImportError) → IfSome commit (IsAmong commits height)
    → Some first ≡ slice_get pages 0 → IsSomeAnd commit (λ (c : Commit). IsAt first.page.now.height e × IsBetween c.file.now first.file.now e)
    → NamesHeaderAndPage height (map filed commits) (map filed_page pages) e
header_page commits None height pages first e among is named = absurd named
header_page commits (Some c) height pages first e among is named =
    any_map filed (λ (f : Filed). (f.0.height ≡ height) × Any (λ (q : FiledPage). IsAt q.0.height e × IsBetween f.2 q.1 e) (map filed_page pages)) commits
    (among.0.0, c, among.0.1, among.0.2, (among.1, first_page (λ (q : FiledPage). IsAt q.0.height e × IsBetween c.file.now q.1 e) pages first is named))

pub names_other : (commits : List Commit) (commit : Option Commit) (height : ℕ) (pages : List Page) (first : Page) (R : Type 0) (e : ImportError) → IfSome commit (IsAmong commits height)
    → Some first ≡ slice_get pages 0 → IsTold CheckErrorName.OtherSet R e → IsSomeAnd commit (λ (c : Commit). IsAt first.page.now.height e × IsBetween c.file.now first.file.now e)
    → NamesOfPages height (map filed commits) (map filed_page pages) e
names_other commits commit height pages first R errors.NoMemory among is told named = tt
names_other commits commit height pages first R (errors.CheckError p) among is told named =
    subst (λ name. NamesPages name height (map filed commits) (map filed_page pages) (errors.CheckError p)) (sym told.0)
    (header_page commits commit height pages first (errors.CheckError p) among is named)

pub names_bad : (headers : List Filed) (height : ℕ) (pages : List Page) (first : Page) (R : Type 0) (e : ImportError) → Some first ≡ slice_get pages 0
    → IsTold CheckErrorName.BadSet R e → IsOfPage first e → NamesOfPages height headers (map filed_page pages) e
names_bad headers height pages first R errors.NoMemory is told named = tt
names_bad headers height pages first R (errors.CheckError p) is told named =
    subst (λ name. NamesPages name height headers (map filed_page pages) (errors.CheckError p)) (sym told.0)
    (first_page (λ (q : FiledPage). IsAt q.0.height (errors.CheckError p) × IsIn q.1 (errors.CheckError p)) pages first is named)

pub names_at : (headers : List Filed) (saved : List Saved) (height : ℕ) (pages : List FiledPage) (e : ImportError) → pages ≡ filed_pages_at saved height
    → NamesOfPages height headers pages e → NamesSomePages headers saved e
names_at headers saved height pages errors.NoMemory are named = tt
names_at headers saved height pages (errors.CheckError p) are named = (height, subst (λ l. NamesOfPages height headers l (errors.CheckError p)) are named)

-- ---- the pages and the signatures of a chain

module _ (id : List ℕ) (saved : List Saved) (commits : List Commit) (same : AreOfFiles (filed_of saved) commits) where
  headers_too : (height : ℕ) (pages : List FiledPage) (e : ImportError) → NamesHeaderAndPage height (map filed commits) pages e → NamesHeaderAndPage height (filed_of saved) pages e
  headers_too height pages e =
      any_of (λ (f : Filed). (f.0.height ≡ height) × Any (λ (q : FiledPage). IsAt q.0.height e × IsBetween f.2 q.1 e) pages) (filed_of saved) (map filed commits) same

  abbrev Pages : CheckErrorName → ImportError → Type 0
  Pages name e = (height : ℕ) × NamesPages name height (map filed commits) (filed_pages_at saved height) e

  of_pages : (headers : List SignedHeader) (e : ImportError) (name : CheckErrorName) → (height : ℕ) × RefusesPages name headers height (pages_at saved height) → Pages name e → Names name id saved e
  of_pages headers e CheckErrorName.WrongFolder w named = absurd w.1
  of_pages headers e CheckErrorName.OtherChain w named = absurd w.1
  of_pages headers e CheckErrorName.OtherRevision w named = absurd w.1
  of_pages headers e CheckErrorName.TwoAnswers w named = absurd w.1
  of_pages headers e CheckErrorName.OtherTotal w named = named
  of_pages headers e CheckErrorName.TooManyValidators w named = named
  of_pages headers e CheckErrorName.BadSet w named = named
  of_pages headers e CheckErrorName.OtherSet w named = (named.0, headers_too named.0 (filed_pages_at saved named.0) e named.1)
  of_pages headers e CheckErrorName.OtherHeader w named = absurd w.1
  of_pages headers e CheckErrorName.SignatureCount w named = absurd w.1
  of_pages headers e CheckErrorName.OtherSigner w named = absurd w.1
  of_pages headers e CheckErrorName.MissingClientState w named = absurd w.1
  of_pages headers e CheckErrorName.MissingConsensusStates w named = absurd w.1
  of_pages headers e CheckErrorName.OtherRecord w named = absurd w.1
  of_pages headers e CheckErrorName.MissingCommitments w named = absurd w.1
  of_pages headers e CheckErrorName.MissingTransactions w named = absurd w.1
  of_pages headers e CheckErrorName.TwoChannels w named = absurd w.1
  of_pages headers e CheckErrorName.MissingSend w named = absurd w.1
  of_pages headers e CheckErrorName.MissingReceive w named = absurd w.1
  of_pages headers e CheckErrorName.OtherVerdict w named = absurd w.1
  of_pages headers e CheckErrorName.ScriptTooBig w named = absurd w.1

  pub names_pages : (headers : List SignedHeader) (e : ImportError) → IsToldBy (λ name. (height : ℕ) × RefusesPages name headers height (pages_at saved height)) e
      → NamesSomePages (map filed commits) saved e → NamesOf id saved e
  names_pages headers (errors.CheckError p) w named = of_pages headers (errors.CheckError p) p.name w named
  names_pages headers errors.NoMemory w named = tt

  module _ (sets : List SeenSet) (headers : HaveHeaders (headers_of saved) commits) (have : HaveSets saved sets) where
    abbrev Commits : CheckErrorName → ImportError → Type 0
    Commits name e = Any (λ c. NamesCommitBy name sets c e) commits

    of_commit : (e : ImportError) (name : CheckErrorName) → Commits name e → Names name id saved e
    of_commit e CheckErrorName.WrongFolder (k, c, small, is, ((s, there, hash, differ), at, begins)) = absurd differ
    of_commit e CheckErrorName.OtherChain (k, c, small, is, ((s, there, hash, differ), at, begins)) = absurd differ
    of_commit e CheckErrorName.OtherRevision (k, c, small, is, ((s, there, hash, differ), at, begins)) = absurd differ
    of_commit e CheckErrorName.TwoAnswers (k, c, small, is, ((s, there, hash, differ), at, begins)) = absurd differ
    of_commit e CheckErrorName.OtherTotal (k, c, small, is, ((s, there, hash, differ), at, begins)) = absurd differ
    of_commit e CheckErrorName.TooManyValidators (k, c, small, is, ((s, there, hash, differ), at, begins)) = absurd differ
    of_commit e CheckErrorName.BadSet (k, c, small, is, ((s, there, hash, differ), at, begins)) = absurd differ
    of_commit e CheckErrorName.OtherSet (k, c, small, is, ((s, there, hash, differ), at, begins)) = absurd differ
    of_commit e CheckErrorName.OtherHeader (k, c, small, is, ((s, there, hash, differ), at, begins)) = absurd differ
    of_commit e CheckErrorName.SignatureCount (k, c, small, is, ((s, there, hash, differ), at, begins)) =
        any_viewed filed (λ (f : Filed). NamesDiscord CheckErrorName.SignatureCount saved f e) (filed_of saved) commits same
        (k, c, small, is, (discord id saved commits sets headers have CheckErrorName.SignatureCount c.header.now s there hash differ, at, begins))
    of_commit e CheckErrorName.OtherSigner (k, c, small, is, ((s, there, hash, differ), at, begins)) =
        any_viewed filed (λ (f : Filed). NamesDiscord CheckErrorName.OtherSigner saved f e) (filed_of saved) commits same
        (k, c, small, is, (discord id saved commits sets headers have CheckErrorName.OtherSigner c.header.now s there hash differ, at, begins))
    of_commit e CheckErrorName.MissingClientState (k, c, small, is, ((s, there, hash, differ), at, begins)) = absurd differ
    of_commit e CheckErrorName.MissingConsensusStates (k, c, small, is, ((s, there, hash, differ), at, begins)) = absurd differ
    of_commit e CheckErrorName.OtherRecord (k, c, small, is, ((s, there, hash, differ), at, begins)) = absurd differ
    of_commit e CheckErrorName.MissingCommitments (k, c, small, is, ((s, there, hash, differ), at, begins)) = absurd differ
    of_commit e CheckErrorName.MissingTransactions (k, c, small, is, ((s, there, hash, differ), at, begins)) = absurd differ
    of_commit e CheckErrorName.TwoChannels (k, c, small, is, ((s, there, hash, differ), at, begins)) = absurd differ
    of_commit e CheckErrorName.MissingSend (k, c, small, is, ((s, there, hash, differ), at, begins)) = absurd differ
    of_commit e CheckErrorName.MissingReceive (k, c, small, is, ((s, there, hash, differ), at, begins)) = absurd differ
    of_commit e CheckErrorName.OtherVerdict (k, c, small, is, ((s, there, hash, differ), at, begins)) = absurd differ
    of_commit e CheckErrorName.ScriptTooBig (k, c, small, is, ((s, there, hash, differ), at, begins)) = absurd differ

    pub names_set : (e : ImportError) → Any (λ c. NamesCommit sets c e) commits → NamesOf id saved e
    names_set (errors.CheckError p) w = of_commit (errors.CheckError p) p.name w
    names_set errors.NoMemory w = tt

-- ---- a client's answers

pub names_foreign : (tracked : List ℕ) (saved : List Saved) (R : Type 0) (e : ImportError) → IsTold CheckErrorName.WrongFolder R e → NamesForeign saved e → NamesIn tracked saved e
names_foreign tracked saved R (errors.CheckError p) w named = subst (λ name. NamesByName name tracked saved (errors.CheckError p)) (sym w.0) named
names_foreign tracked saved R errors.NoMemory w named = tt

pub names_revision : (tracked : List ℕ) (saved : List Saved) (revision : ℕ) (stored : List Stored) (R : Type 0) (e : ImportError) → IsRevision tracked revision
    → AreFilesInSomeOrder (filed_states_of revision saved) stored → IsTold CheckErrorName.OtherRevision R e → Any (λ s. NamesOtherRecord revision (filed_state s) e) stored → NamesIn tracked saved e
names_revision tracked saved revision stored R (errors.CheckError p) is same w named =
    subst (λ name. NamesByName name tracked saved (errors.CheckError p)) (sym w.0)
    (inr (revision, is, any_viewed filed_state (λ (f : FiledState). NamesOtherRecord revision f (errors.CheckError p)) (filed_states_of revision saved) stored same named))
names_revision tracked saved revision stored R errors.NoMemory is same w named = tt

-- two different records of one height are two of the answers, with their files
names_two : (saved : List Saved) (revision : ℕ) (told : List Stored) (p : CheckError) → AreFilesInSomeOrder (filed_states_of revision saved) told
    → Any (λ (s : Stored). Any (λ (t : Stored). NamesTwo s t (errors.CheckError p)) told) told → NamesTwoRecords saved revision (errors.CheckError p)
names_two saved revision told p same (k, s, small, at, (l, t, less, also, names)) =
    let files : List FiledState = filed_states_of revision saved in
    let Two : FiledState → FiledState → Type 0 =
    λ f g. (f.0.height ≡ g.0.height) × (f.0 ≢ g.0) × IsAt f.0.height (errors.CheckError p) × IsBetween f.1 g.1 (errors.CheckError p) in
    let second : Any (Two (filed_state s)) files = any_viewed filed_state (Two (filed_state s)) files told same (l, t, less, also, (names.1, names.2, names.3, names.4)) in
    any_viewed filed_state (λ f. Any (Two f) files) files told same (k, s, small, at, second)

pub names_twice_in : (tracked : List ℕ) (saved : List Saved) (revision : ℕ) (told : List Stored) (e : ImportError) → IsRevision tracked revision
    → AreFilesInSomeOrder (filed_states_of revision saved) told → NamesTwoAmong told e → NamesIn tracked saved e
names_twice_in tracked saved revision told (errors.CheckError p) is same w =
    subst (λ name. NamesByName name tracked saved (errors.CheckError p)) (sym (named_twice p told w)) (inr (revision, is, names_two saved revision told p same w))
names_twice_in tracked saved revision told errors.NoMemory is same w = tt
