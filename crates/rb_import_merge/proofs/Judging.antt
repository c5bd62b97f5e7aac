-- Chains, clients and paths that are judged by themselves.
use Rattle.std.proofs.Common.{◌≡◌, ◌<◌, ◌≤◌, ◌⊎◌, ℕ, zero, suc, ◌++◌, List, [], ◌∷◌, length, get_or, map, Option, Some, None, inl, inr, refl, sym, subst, ap, ◌∙◌, arith, All}
use Rattle.std.specs.Prelude.{Result, Ok, Err, true, IfOk, IfErr, IfSome, OnOk, MatchResult, option_map, slice_get}
use Rattle.std.specs.List.{flat_map}
use Rattle.std.specs.List.Sorted.{IsSorted}
use Rattle.std.proofs.lemmas.Grind.{flat_map-append}
use Rattle.std.proofs.lemmas.List.{append-nil, length-map}
use Rattle.std.proofs.lemmas.List.Elements.{All-append, All-cons, All-nil}
use Rattle.std.proofs.lemmas.Option.{none-some, same_Some, slice_get-map, slice_get_cases, slice_get_within}
use Rattle.rb_import_answers.specs.declared.packets.PacketPage.{PacketPage}
use Rattle.rb_import_setup.specs.declared.setup.ClientSetup.{ClientSetup}
use Rattle.rb_import_setup.specs.declared.setup.PathSetup.{PathSetup}
use Rattle.rb_import_setup.specs.declared.setup.ImportSetup.{ImportSetup}
use Rattle.rb_import_check.specs.declared.chain.SeenChain.{SeenChain}
use Rattle.rb_import_check.specs.declared.client.SeenClient.{SeenClient}
use Rattle.rb_import_check.specs.declared.error.CheckError.{CheckError}
use Rattle.rb_import_check.specs.declared.error.ImportError.{ImportError}
use Rattle.rb_import_check.specs.declared.error.ImportError.TheVariants as errors
use Rattle.rb_import_check.specs.declared.saved.Saved.{Saved}
use Rattle.rb_import_check.specs.declared.saved.SavedAnswers.{SavedAnswers}
use Rattle.rb_import_check.specs.declared.signed.Signatures.{Signatures}
use Rattle.rb_import_merge.specs.declared.errors.ImportErrors.{ImportErrors}
use Rattle.rb_import_merge.specs.declared.errors.ImportErrors.TheVariants as all
use Rattle.rb_import_merge.specs.declared.path.SeenPath.{SeenPath}
use Rattle.rb_import_merge.specs.declared.seen.SeenSetup.{SeenSetup}
use Rattle.rb_import_check.specs.Errors.{IsToldOf}
use Rattle.rb_import_merge.specs.Committed.{HaveCommitted}
use Rattle.rb_import_merge.specs.Errors.{AreThese, OfEach}
use Rattle.rb_import_merge.specs.LeftOut.{AreLeftOut, HasSurplus, HaveTaken, was_timed_out}
use Rattle.rb_import_merge.specs.Lowest.{kind_cmp}
use Rattle.rb_import_merge.specs.Named.{NamesOfPath}
use Rattle.rb_import_merge.specs.Packets.{AreFromOne, Expires, IsOfFile, is_on_packets}
use Rattle.rb_import_merge.specs.Refusals.{HasReasonOfPath}
use Rattle.rb_import_merge.specs.Totals.{is_whole, pages_of}
use Rattle.rb_import_merge.specs.Ways.{HasBefore}
use Rattle.rb_import_merge.specs.Judged.{AreJudged, AreJudgedChains, AreJudgedClients, AreJudgedPaths, Fitting, IsFiledAt, chain_at, problems_in, seen_of}
use Rattle.rb_import_merge.specs.Reasons.{IsOfAnswers, IsOfChainAnswers, IsOfClientAnswers, IsOfPathAnswers}
use Rattle.rb_import_merge.specs.Room.{AtEachPlace, FitBooks}
use Rattle.rb_import_merge.specs.Seen.{AreFiledIn, AreSeenClients, IsSeenChain, IsSeenClient, IsSeenIn, IsSeenPath, answers_at, surplus_of}
use Rattle.rb_import_merge.specs.Sets.{AreKeptSets}
use Rattle.rb_import_merge.proofs.Reasoning.{chain_refused, client_refused, path_refused}
use Rattle.rb_import_merge.proofs.Watched.{are_filed, of_tracked, seen_in}

-- ---- one result

pub judged : {Y : Type 0} (Sees : Y → Type 0) (Refuses : ImportError → Type 0) (r : Result Y ImportError) → IfOk r Sees → IfErr r Refuses → MatchResult r Sees Refuses
judged Sees Refuses (Ok y) sees refuses = sees
judged Sees Refuses (Err e) sees refuses = refuses

-- what holds of an error holds where a result is that error
pub refused_so : {Y E : Type 0} (Refuses : E → Type 0) (r : Result Y E) (e : E) → r ≡ Err e → Refuses e → IfErr r Refuses
refused_so {Y = Y} {E = E} Refuses r e is refuses = subst (λ (x : Result Y E). IfErr x Refuses) (sym is) refuses

pub judged_both : {Y : Type 0} (P Q : Y → Type 0) (Refuses : ImportError → Type 0) (r : Result Y ImportError) → IfOk r P → IfOk r Q → IfErr r Refuses → MatchResult r (λ y. P y × Q y) Refuses
judged_both P Q Refuses (Ok y) p q refuses = (p, q)
judged_both P Q Refuses (Err e) p q refuses = refuses

pub judged_path : (chains : List (List ℕ)) (path : PathSetup) (saved : List Saved) (dest : List ℕ) (r : Result SeenPath ImportError) → slice_get chains path.config.destination ≡ Some dest
    → IfOk r (λ s. HaveTaken path saved s.surplus s.packets.items) → IfOk r (λ s. All (IsOfFile saved) s.packets.items) → IfOk r (λ s. All (Expires dest) s.packets.items)
    → IfOk r (λ s. All (HasBefore s.packets.items) s.packets.items) → IfOk r (λ s. HaveCommitted path saved s.surplus s.packets.items) → IfOk r (λ s. IsSorted kind_cmp s.packets.items)
    → IfOk r (λ s. path.source_channel ≡ None → AreFromOne s.packets.items) → IfOk r (λ s. AreLeftOut path saved s.left_out.items) → IfOk r (λ s. HasSurplus path saved s.surplus)
    → IfOk r (λ s. s.timed_out ≡ was_timed_out path saved) → OnOk r (All (λ (s : Saved). is_on_packets s.answer ≡ true) saved)
    → OnOk r (All (λ (p : PacketPage). is_whole p.total (pages_of saved) ≡ true) (pages_of saved))
    → IfErr r (IsToldOf path.config.id) → IfErr r (HasReasonOfPath path saved) → IfErr r (NamesOfPath path saved) → MatchResult r (IsSeenPath chains path saved) (IsOfPathAnswers path saved)
judged_path chains path saved dest (Ok s) at events files expiry before pending order source left_out surplus timed_out answers whole told reason named =
    ((events, files, of_tracked (λ d. All (Expires d) s.packets.items) chains path.config.destination {tracked = dest} expiry at, before, pending, order, source), left_out, surplus, timed_out, (answers, whole))
judged_path chains path saved dest (Err e) at events files expiry before pending order source left_out surplus timed_out answers whole told reason named = (told, reason, named)

-- ---- a result more

pub one_sound : {Y : Type 0} (rs : List (Result Y ImportError)) (y : Y) → flat_map problems_in (rs ++ Ok y ∷ []) ≡ flat_map problems_in rs
one_sound rs y = flat_map-append problems_in rs (Ok y ∷ []) ∙ append-nil (flat_map problems_in rs)

pub one_refused : {Y : Type 0} (rs : List (Result Y ImportError)) (p : CheckError) → flat_map problems_in (rs ++ Err (errors.CheckError p) ∷ []) ≡ flat_map problems_in rs ++ p ∷ []
one_refused rs p = flat_map-append problems_in rs (Err (errors.CheckError p) ∷ [])

-- ---- places

at_same_place : {X Y : Type 0} (xs : List X) (ys : List Y) (i : ℕ) (y : Y) → length ys ≡ length xs → slice_get ys i ≡ Some y → (x : X) × (slice_get xs i ≡ Some x)
at_same_place {X = X} xs ys i y same there = by (slice_get_cases xs i).1
  where
    by : ((x : X) × (i < length xs) × (slice_get xs i ≡ Some x) × (get_or xs i x ≡ x)) ⊎ ((length xs ≤ i) × (slice_get xs i ≡ None)) → (x : X) × (slice_get xs i ≡ Some x)
    by (inl (x, small, at, read)) = (x, at)
    by (inr (past, gone)) = absurd (omega (arith, past, same, slice_get_within ys i y there))

at_weaker : {X Y : Type 0} (P Q : ℕ → X → Y → Type 0) (xs : List X) (ys : List Y) → ((i : ℕ) (x : X) (y : Y) → P i x y → Q i x y) → AtEachPlace P xs ys → AtEachPlace Q xs ys
at_weaker P Q xs ys weaker (long, each) = (long, λ i x y at there. weaker i x y (each i x y at there))

at_sound : {X Y : Type 0} (Sees : ℕ → X → Y → Type 0) (Refuses : ℕ → X → ImportError → Type 0) (xs : List X) (rs : List (Result Y ImportError)) (ys : List Y)
    → rs ≡ map (λ y. Ok y) ys → AreJudged Sees Refuses xs rs → AtEachPlace Sees xs ys
at_sound {X = X} {Y = Y} Sees Refuses xs rs ys is results = by (subst (AreJudged Sees Refuses xs) is results)
  where
    by : AreJudged Sees Refuses xs (map (λ y. Ok y) ys) → AtEachPlace Sees xs ys
    by (long, each) =
        let ok : Y → Result Y ImportError = λ y. Ok y in
        (sym (length-map ys ok) ∙ long, λ i x y at there. each i x (Ok y) at (slice_get-map ok ys i ∙ ap (option_map ok) there))

at_mapped : {X Y Z : Type 0} (Holds : ℕ → X → Z → Type 0) (g : Y → Z) (xs : List X) (ys : List Y) (zs : List Z) → zs ≡ map g ys
    → AtEachPlace (λ i x y. Holds i x (g y)) xs ys → AtEachPlace Holds xs zs
at_mapped {X = X} {Y = Y} {Z = Z} Holds g xs ys zs is (long, each) =
    subst (AtEachPlace Holds xs) (sym is) (length-map ys g ∙ long, λ i x z at there. by i x z at (slice_get ys i) refl (sym (slice_get-map g ys i) ∙ there))
  where
    by : (i : ℕ) (x : X) (z : Z) → slice_get xs i ≡ Some x → (o : Option Y) → slice_get ys i ≡ o → option_map g o ≡ Some z → Holds i x z
    by i x z at (Some y) here it = subst (Holds i x) (same_Some (g y) z it) (each i x y at here)
    by i x z at None here it = absurd (none-some z it)

-- ---- what was seen

chain_is : (fs : List Fitting) (i : ℕ) → chain_at (map (λ f. Ok f) fs) i ≡ slice_get (map (λ (f : Fitting). f.0) fs) i
chain_is [] i = refl
chain_is (f ∷ fs) zero = refl
chain_is (f ∷ fs) (suc i) = chain_is fs i

-- beside each chain the number of its headers that are left out
numbered : {X : Type 0} (Holds : ℕ → X → SeenChain → Type 0) (number : ℕ → SeenChain → ℕ) (xs : List X) (fs : List Fitting) → AtEachPlace (λ i x f. Holds i x f.0 × (f.1 ≡ number i f.0)) xs fs
    → AtEachPlace (λ i chain n. n ≡ number i chain) (map (λ (f : Fitting). f.0) fs) (map (λ (f : Fitting). f.1) fs)
numbered {X = X} Holds number xs fs (long, each) = (
  length-map fs (λ (f : Fitting). f.1) ∙ sym (length-map fs (λ (f : Fitting). f.0)),
  λ i chain n at there. by i chain n (slice_get fs i) refl (sym (slice_get-map (λ (f : Fitting). f.0) fs i) ∙ at) (sym (slice_get-map (λ (f : Fitting). f.1) fs i) ∙ there),
)
  where
    by : (i : ℕ) (chain : SeenChain) (n : ℕ) (o : Option Fitting) → slice_get fs i ≡ o → option_map (λ (f : Fitting). f.0) o ≡ Some chain → option_map (λ (f : Fitting). f.1) o ≡ Some n → n ≡ number i chain
    by i chain n (Some f) here first second =
        let (x, at) = at_same_place xs fs i f long here in
        sym (same_Some f.1 n second) ∙ (each i x f at here).1 ∙ ap (number i) (same_Some f.0 chain first)
    by i chain n None here first second = absurd (none-some n second)

pub filed_at : (setup : ImportSetup) (signatures : Signatures) (answers : SavedAnswers) (rs : List (Result Fitting ImportError)) → AreJudgedChains setup signatures answers rs → (place : ℕ) → IsFiledAt answers rs place
filed_at setup signatures answers rs (long, each) place = by (slice_get rs place) refl
  where
    by : (o : Option (Result Fitting ImportError)) → slice_get rs place ≡ o → IfSome (seen_of o) (AreFiledIn (answers_at answers.chains.items place))
    by (Some (Ok f)) there =
        let (id, at) = at_same_place setup.chains.items rs place (Ok f) long there in
        are_filed id signatures (answers_at answers.chains.items place) f.0 (each place id (Ok f) at there).0
    by (Some (Err e)) there = tt
    by None there = tt

-- what was seen of a setup, where nothing is refused
pub all_seen : (setup : ImportSetup) (signatures : Signatures) (answers : SavedAnswers) (seen : SeenSetup) (fs : List Fitting) (by_chain : List (Result Fitting ImportError)) (by_client : List (Result SeenClient ImportError))
    (by_path : List (Result SeenPath ImportError)) → AreJudgedChains setup signatures answers by_chain → AreJudgedClients setup answers by_chain by_client → AreJudgedPaths setup answers by_path
    → by_chain ≡ map (λ f. Ok f) fs → by_client ≡ map (λ s. Ok s) seen.clients.items → by_path ≡ map (λ s. Ok s) seen.paths.items
    → seen.chains.items ≡ map (λ (f : Fitting). f.0) fs → seen.surplus.items ≡ map (λ (f : Fitting). f.1) fs
    → FitBooks setup seen.chains.items seen.clients.items seen.records.items → AtEachPlace (AreKeptSets setup seen.records.items) seen.chains.items seen.sets.items
    → IsSeenIn setup signatures answers seen
all_seen setup signatures answers seen fs by_chain by_client by_path are_chains are_clients are_paths chains_are clients_are paths_are firsts seconds books sets =
    seen_in setup signatures answers seen chains surplus clients books sets paths
  where
    fitting : AtEachPlace (λ (i : ℕ) (id : List ℕ) (f : Fitting). IsSeenChain id signatures (answers_at answers.chains.items i) f.0 × (f.1 ≡ surplus_of (answers_at answers.chains.items i) f.0)) setup.chains.items fs
    fitting =
        at_sound (λ (i : ℕ) (id : List ℕ) (f : Fitting). IsSeenChain id signatures (answers_at answers.chains.items i) f.0 × (f.1 ≡ surplus_of (answers_at answers.chains.items i) f.0))
        (λ i id e. IsOfChainAnswers id (answers_at answers.chains.items i) e) setup.chains.items by_chain fs chains_are are_chains

    chains : AtEachPlace (λ (i : ℕ) (id : List ℕ) (chain : SeenChain). IsSeenChain id signatures (answers_at answers.chains.items i) chain) setup.chains.items seen.chains.items
    chains =
        at_mapped (λ (i : ℕ) (id : List ℕ) (chain : SeenChain). IsSeenChain id signatures (answers_at answers.chains.items i) chain) (λ (f : Fitting). f.0) setup.chains.items fs seen.chains.items firsts
        (at_weaker _ (λ (i : ℕ) (id : List ℕ) (f : Fitting). IsSeenChain id signatures (answers_at answers.chains.items i) f.0) setup.chains.items fs (λ i id f both. both.0) fitting)

    surplus : AtEachPlace (λ (i : ℕ) (chain : SeenChain) (n : ℕ). n ≡ surplus_of (answers_at answers.chains.items i) chain) seen.chains.items seen.surplus.items
    surplus =
        subst (λ l. AtEachPlace (λ (i : ℕ) (chain : SeenChain) (n : ℕ). n ≡ surplus_of (answers_at answers.chains.items i) chain) l seen.surplus.items) (sym firsts)
        (subst (AtEachPlace (λ (i : ℕ) (chain : SeenChain) (n : ℕ). n ≡ surplus_of (answers_at answers.chains.items i) chain) (map (λ (f : Fitting). f.0) fs)) (sym seconds)
        (numbered (λ (i : ℕ) (id : List ℕ) (chain : SeenChain). IsSeenChain id signatures (answers_at answers.chains.items i) chain) (λ i chain. surplus_of (answers_at answers.chains.items i) chain) setup.chains.items fs fitting))

    its_chain : (i : ℕ) → chain_at by_chain i ≡ slice_get seen.chains.items i
    its_chain i = ap (λ rs. chain_at rs i) chains_are ∙ chain_is fs i ∙ ap (λ l. slice_get l i) (sym firsts)

    clients : AreSeenClients setup answers.clients.items seen.chains.items seen.clients.items
    clients =
        at_weaker (λ (i : ℕ) (c : ClientSetup) (client : SeenClient). IsSeenClient setup.chains.items (chain_at by_chain c.tracks) c (answers_at answers.clients.items i) client)
        (λ (i : ℕ) (c : ClientSetup) (client : SeenClient). IsSeenClient setup.chains.items (slice_get seen.chains.items c.tracks) c (answers_at answers.clients.items i) client) setup.clients.items seen.clients.items
        (λ i c client sees. subst (λ o. IsSeenClient setup.chains.items o c (answers_at answers.clients.items i) client) (its_chain c.tracks) sees)
        (at_sound (λ (i : ℕ) (c : ClientSetup) (client : SeenClient). IsSeenClient setup.chains.items (chain_at by_chain c.tracks) c (answers_at answers.clients.items i) client)
        (λ i c e. IsOfClientAnswers setup answers c (answers_at answers.clients.items i) e) setup.clients.items by_client seen.clients.items clients_are are_clients)

    paths : AtEachPlace (λ (i : ℕ) (path : PathSetup) (s : SeenPath). IsSeenPath setup.chains.items path (answers_at answers.paths.items i) s) setup.paths.items seen.paths.items
    paths =
        at_sound (λ (i : ℕ) (path : PathSetup) (s : SeenPath). IsSeenPath setup.chains.items path (answers_at answers.paths.items i) s) (λ i path e. IsOfPathAnswers path (answers_at answers.paths.items i) e) setup.paths.items by_path seen.paths.items paths_are are_paths

-- ---- why answers are refused

both_empty : {A : Type 0} (xs ys : List A) → xs ++ ys ≡ [] → (xs ≡ []) × (ys ≡ [])
both_empty [] ys e = (refl, e)
both_empty (x ∷ xs) ys e = absurd (cc)

-- where nothing is refused, nothing of three kinds is
pub none_of_three : {A : Type 0} (none one two three xs ys zs : List A) → one ≡ none ++ xs → two ≡ one ++ ys → three ≡ two ++ zs → three ≡ [] → (xs ≡ []) × (ys ≡ []) × (zs ≡ [])
none_of_three none one two three xs ys zs first second third empty =
    let (two_is, zs_are) = both_empty two zs (sym third ∙ empty) in
    let (one_is, ys_are) = both_empty one ys (sym second ∙ two_is) in
    let (none_is, xs_are) = both_empty none xs (sym first ∙ one_is) in
    (xs_are, ys_are, zs_are)

all_of : {R A : Type 0} (P : A → Type 0) (f : R → List A) (rs : List R) → ((i : ℕ) (r : R) → slice_get rs i ≡ Some r → All P (f r)) → All P (flat_map f rs)
all_of P f [] each = All-nil P
all_of P f (r ∷ rs) each = All-append P (f r) (flat_map f rs) (each zero r refl) (all_of P f rs (λ i q there. each (suc i) q there))

each_problem : {X Y : Type 0} (P : CheckError → Type 0) (Sees : ℕ → X → Y → Type 0) (Refuses : ℕ → X → ImportError → Type 0) (xs : List X) (rs : List (Result Y ImportError))
    → ((i : ℕ) (x : X) (p : CheckError) → slice_get xs i ≡ Some x → Refuses i x (errors.CheckError p) → P p) → AreJudged Sees Refuses xs rs → All P (flat_map problems_in rs)
each_problem {X = X} {Y = Y} P Sees Refuses xs rs reason (long, each) = all_of P problems_in rs by
  where
    by : (i : ℕ) (r : Result Y ImportError) → slice_get rs i ≡ Some r → All P (problems_in r)
    by i (Ok y) there = All-nil P
    by i (Err (errors.CheckError p)) there =
        let (x, at) = at_same_place xs rs i (Err (errors.CheckError p)) long there in
        All-cons P p [] (reason i x p at (each i x (Err (errors.CheckError p)) at there)) (All-nil P)
    by i (Err errors.NoMemory) there = All-nil P

-- each problem has its reason in the answers
pub all_reasons : (setup : ImportSetup) (signatures : Signatures) (answers : SavedAnswers) (by_chain : List (Result Fitting ImportError)) (by_client : List (Result SeenClient ImportError)) (by_path : List (Result SeenPath ImportError))
    (none one two three : List CheckError) → AreJudgedChains setup signatures answers by_chain → AreJudgedClients setup answers by_chain by_client → AreJudgedPaths setup answers by_path
    → none ≡ [] → one ≡ none ++ flat_map problems_in by_chain → two ≡ one ++ flat_map problems_in by_client → three ≡ two ++ flat_map problems_in by_path
    → All (λ p. IsOfAnswers setup answers (errors.CheckError p)) three
all_reasons setup signatures answers by_chain by_client by_path none one two three are_chains are_clients are_paths empty first second third = in_three
  where
    in_none : All (λ p. IsOfAnswers setup answers (errors.CheckError p)) none
    in_none = subst (All (λ p. IsOfAnswers setup answers (errors.CheckError p))) (sym empty) (All-nil (λ p. IsOfAnswers setup answers (errors.CheckError p)))

    in_one : All (λ p. IsOfAnswers setup answers (errors.CheckError p)) one
    in_one =
        subst (All (λ p. IsOfAnswers setup answers (errors.CheckError p))) (sym first)
        (All-append (λ p. IsOfAnswers setup answers (errors.CheckError p)) none (flat_map problems_in by_chain) in_none
        (each_problem (λ p. IsOfAnswers setup answers (errors.CheckError p)) _ _ setup.chains.items by_chain (λ i id p at refuses. chain_refused setup answers i id (errors.CheckError p) at refuses) are_chains))

    in_two : All (λ p. IsOfAnswers setup answers (errors.CheckError p)) two
    in_two =
        subst (All (λ p. IsOfAnswers setup answers (errors.CheckError p))) (sym second)
        (All-append (λ p. IsOfAnswers setup answers (errors.CheckError p)) one (flat_map problems_in by_client) in_one
        (each_problem (λ p. IsOfAnswers setup answers (errors.CheckError p)) _ _ setup.clients.items by_client (λ i c p at refuses. client_refused setup answers i c (errors.CheckError p) at refuses) are_clients))

    in_three : All (λ p. IsOfAnswers setup answers (errors.CheckError p)) three
    in_three =
        subst (All (λ p. IsOfAnswers setup answers (errors.CheckError p))) (sym third)
        (All-append (λ p. IsOfAnswers setup answers (errors.CheckError p)) two (flat_map problems_in by_path) in_two
        (each_problem (λ p. IsOfAnswers setup answers (errors.CheckError p)) _ _ setup.paths.items by_path (λ i path p at refuses. path_refused setup answers i path (errors.CheckError p) at refuses) are_paths))

-- what holds of each of the problems holds of each of an error that has these
pub of_these : (Holds : ImportError → Type 0) (P : CheckError → Type 0) (ps : List CheckError) (e : ImportErrors) → ((p : CheckError) → P p → Holds (errors.CheckError p)) → All P ps → AreThese ps e → OfEach Holds e
of_these Holds P ps (all.Refused r) weaker each is = by (subst (All P) is each)
  where
    by : All P (r.first ∷ r.others.items) → All (λ p. Holds (errors.CheckError p)) (r.first ∷ r.others.items)
    by of_each k d small = weaker _ (of_each k d small)
of_these Holds P ps all.NoMemory weaker each is = absurd is
