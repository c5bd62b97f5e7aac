-- Why a setup's answers aren't taken.
use Rattle.std.proofs.Common.{◌≡◌, ℕ, zero, suc, List, [], ◌∷◌, filter, Bool, true, false, cond, Option, Some, None, inl, inr, sym, subst, ◌∙◌, arith}
use Rattle.std.specs.Prelude.{⊤, Any, Contains, IfSome, IsSomeAnd, nat_le, slice_get}
use Rattle.std.specs.List.{flat_map}
use Rattle.std.proofs.lemmas.List.Elements.{All-contains}
use Rattle.rb_import_setup.specs.declared.setup.ClientSetup.{ClientSetup}
use Rattle.rb_import_setup.specs.declared.setup.PathSetup.{PathSetup}
use Rattle.rb_import_setup.specs.declared.setup.ImportSetup.{ImportSetup}
use Rattle.rb_import_check.specs.declared.chain.Commit.{Commit}
use Rattle.rb_import_check.specs.declared.chain.SeenChain.{SeenChain}
use Rattle.rb_import_check.specs.declared.client.Stored.{Stored}
use Rattle.rb_import_check.specs.declared.error.CheckErrorName.{CheckErrorName}
use Rattle.rb_import_check.specs.declared.error.ImportError.{ImportError}
use Rattle.rb_import_check.specs.declared.error.ImportError.TheVariants as errors
use Rattle.rb_import_check.specs.declared.saved.Saved.{Saved}
use Rattle.rb_import_check.specs.declared.saved.SavedAnswers.{SavedAnswers}
use Rattle.rb_import_check.specs.Accord.{DiffersFrom, NamesDifference}
use Rattle.rb_import_check.specs.Chains.{filed, filed_of}
use Rattle.rb_import_check.specs.Clients.{AreStatesOfFiles, AtRevision, FiledState, HasReason, filed_state, filed_states_in, filed_states_of}
use Rattle.rb_import_check.specs.Clients.{Refuses as RefusesClient}
use Rattle.rb_import_check.specs.Errors.{IsToldOf, IsTooBig}
use Rattle.rb_import_check.specs.Named.{NamesIn}
use Rattle.rb_import_check.specs.Refusals.{Refuses as RefusesChain}
use Rattle.rb_import_merge.specs.Reasons.{HasReasonIn, IsOfAnswers, IsOfChainAnswers, IsOfClientAnswers, IsOfDifference, IsOfPathAnswers, NamesRecord}
use Rattle.rb_import_merge.specs.Refusals.{RefusesPath}
use Rattle.rb_import_merge.specs.Seen.{AreFiledIn, answers_at}

some_and : {X : Type 0} (P : X → Type 0) (o : Option X) (x : X) → o ≡ Some x → P x → IsSomeAnd o P
some_and P o x is p = subst (λ (q : Option _). IsSomeAnd q P) (sym is) p

-- ---- at a place

pub chain_refused : (setup : ImportSetup) (answers : SavedAnswers) (i : ℕ) (id : List ℕ) (e : ImportError) → slice_get setup.chains.items i ≡ Some id
    → IsOfChainAnswers id (answers_at answers.chains.items i) e → IsOfAnswers setup answers e
chain_refused setup answers i id e at refuses = inl (i, some_and (λ x. IsOfChainAnswers x (answers_at answers.chains.items i) e) _ id at refuses)

pub client_refused : (setup : ImportSetup) (answers : SavedAnswers) (i : ℕ) (c : ClientSetup) (e : ImportError) → slice_get setup.clients.items i ≡ Some c
    → IsOfClientAnswers setup answers c (answers_at answers.clients.items i) e → IsOfAnswers setup answers e
client_refused setup answers i c e at refuses =
    inr (inl (i, some_and (λ (x : ClientSetup). IsOfClientAnswers setup answers x (answers_at answers.clients.items i) e) _ c at refuses))

pub path_refused : (setup : ImportSetup) (answers : SavedAnswers) (i : ℕ) (path : PathSetup) (e : ImportError) → slice_get setup.paths.items i ≡ Some path
    → IsOfPathAnswers path (answers_at answers.paths.items i) e → IsOfAnswers setup answers e
path_refused setup answers i path e at refuses =
    inr (inr (i, some_and (λ (x : PathSetup). IsOfPathAnswers x (answers_at answers.paths.items i) e) _ path at refuses))

-- ---- clients

pub of_its_answers : (setup : ImportSetup) (answers : SavedAnswers) (client : ClientSetup) (tracked : List ℕ) (saved : List Saved) (e : ImportError) → slice_get setup.chains.items client.tracks ≡ Some tracked
    → IsToldOf client.id e → HasReason client tracked saved e → NamesIn tracked saved e → IsOfClientAnswers setup answers client saved e
of_its_answers setup answers client tracked saved e there told reason names = (told, inl (some_and (λ x. HasReason client x saved e × NamesIn x saved e) _ tracked there (reason, names)))

any_next : {X : Type 0} (P : X → Type 0) (x : X) (xs : List X) → Any P xs → Any P (x ∷ xs)
any_next P x xs (k, y, small, is, p) = (suc k, y, omega (arith, small), is, p)

any_at : {X : Type 0} (P : X → Type 0) (b : Bool) (x : X) (some all : List X) → (Any P some → Any P all) → Any P (cond b (x ∷ some) some) → Any P (x ∷ all)
any_at P true x some all more (zero, y, small, is, p) = (0, y, omega arith, is, p)
any_at P true x some all more (suc k, y, small, is, p) = any_next P x all (more (k, y, omega (arith, small), is, p))
any_at P false x some all more w = any_next P x all (more w)

any_of_filter : {X : Type 0} (P : X → Type 0) (p : X → Bool) (xs : List X) → Any P (filter p xs) → Any P xs
any_of_filter P p [] w = w
any_of_filter P p (x ∷ xs) w = any_at P (p x) x (filter p xs) xs (any_of_filter P p xs) w

-- a commit that was seen is of a file of the chain's answers
named_header : (tracked : List Saved) (chain : SeenChain) (e : ImportError) (s : Stored) → AreFiledIn tracked chain → Any (λ (c : Commit). DiffersFrom c s e) chain.commits.items
    → Any (NamesRecord e (filed_state s)) (filed_of tracked)
named_header tracked chain e s filed_in (k, c, small, is, other) =
    let (j, less, there) = All-contains (λ (x : Commit). Contains (filed_of tracked) (filed x)) chain.commits.items c filed_in (k, small, is) in
    (j, filed c, less, there, other)

named_record : (saved tracked : List Saved) (revision : ℕ) (chain : SeenChain) (stored : List Stored) (e : ImportError) → AreFiledIn tracked chain → AreStatesOfFiles (filed_states_of revision saved) stored
    → Any (λ (s : Stored). Any (λ (c : Commit). DiffersFrom c s e) chain.commits.items) stored → Any (λ (s : FiledState). Any (NamesRecord e s) (filed_of tracked)) (flat_map filed_states_in saved)
named_record saved tracked revision chain stored e seen states w =
    let Names : FiledState → Type 0 = λ s. Any (NamesRecord e s) (filed_of tracked) in
    any_of_filter Names (λ (f : FiledState). nat_le revision f.0.revision) (flat_map filed_states_in saved) (each w)
  where
    each : Any (λ (s : Stored). Any (λ (c : Commit). DiffersFrom c s e) chain.commits.items) stored → Any (λ (s : FiledState). Any (NamesRecord e s) (filed_of tracked)) (filed_states_of revision saved)
    each (k, s, small, is, other) =
        let (j, less, there) = All-contains (λ (x : Stored). Contains (filed_states_of revision saved) (filed_state x)) stored s states (k, small, is) in
        (j, filed_state s, less, there, named_header tracked chain e s seen other)

pub of_other_record : (setup : ImportSetup) (answers : SavedAnswers) (client : ClientSetup) (tracked : List ℕ) (saved : List Saved) (chain : Option SeenChain) (stored : List Stored) (e : ImportError)
    → IfSome chain (AreFiledIn (answers_at answers.chains.items client.tracks)) → AtRevision tracked (λ revision. AreStatesOfFiles (filed_states_of revision saved) stored)
    → IsToldOf client.id e → IsOfDifference chain stored e → IsOfClientAnswers setup answers client saved e
of_other_record setup answers client tracked saved chain stored errors.NoMemory filed states told w = (told, inr tt)
of_other_record setup answers client tracked saved chain stored (errors.CheckError p) filed (revision, right, states) told w = (told, inr (w.0, other chain filed w.1))
  where
    other : (o : Option SeenChain) → IfSome o (AreFiledIn (answers_at answers.chains.items client.tracks)) → IsSomeAnd o (λ (c : SeenChain). NamesDifference c.commits.items stored (errors.CheckError p))
        → Any (λ (s : FiledState). Any (NamesRecord (errors.CheckError p) s) (filed_of (answers_at answers.chains.items client.tracks))) (flat_map filed_states_in saved)
    other (Some c) each some = named_record saved (answers_at answers.chains.items client.tracks) revision c stored (errors.CheckError p) each states some
    other None each some = absurd some

-- ---- no problem of answers is that a script would be too big

none_and : {X : Type 0} (o : Option X) (P : X → Type 0) → ((x : X) → P x → ⊥) → IsSomeAnd o P → ⊥
none_and (Some x) P never p = never x p
none_and None P never p = p

abbrev is_of_record : CheckErrorName → Type 0
is_of_record CheckErrorName.OtherRecord = ⊤
is_of_record _ = ⊥

pub not_too_big : (setup : ImportSetup) (answers : SavedAnswers) (e : ImportError) → HasReasonIn setup answers e → ¬ IsTooBig e
not_too_big setup answers errors.NoMemory w big = absurd big
not_too_big setup answers (errors.CheckError p) w big = in_none w
  where
    not_chain : (id : List ℕ) (saved : List Saved) → IsOfChainAnswers id saved (errors.CheckError p) → ⊥
    not_chain id saved (told, reason, names) = (subst (λ name. RefusesChain name id saved) big reason).1

    not_client : (c : ClientSetup) (saved : List Saved) → IsOfClientAnswers setup answers c saved (errors.CheckError p) → ⊥
    not_client c saved (told, inl w) =
        none_and (slice_get setup.chains.items c.tracks) (λ x. HasReason c x saved (errors.CheckError p) × NamesIn x saved (errors.CheckError p)) (λ tracked both. subst (λ name. RefusesClient name c tracked saved) big both.0) w
    not_client c saved (told, inr (name, other)) = subst is_of_record (sym name ∙ big) tt

    not_path : (path : PathSetup) (saved : List Saved) → IsOfPathAnswers path saved (errors.CheckError p) → ⊥
    not_path path saved (told, reason, names) = subst (λ name. RefusesPath name path saved) big reason

    in_none : IsOfAnswers setup answers (errors.CheckError p) → ⊥
    in_none (inl (i, w)) = none_and (slice_get setup.chains.items i) (λ id. IsOfChainAnswers id (answers_at answers.chains.items i) (errors.CheckError p)) (λ id w. not_chain id _ w) w
    in_none (inr (inl (i, w))) = none_and (slice_get setup.clients.items i) (λ (c : ClientSetup). IsOfClientAnswers setup answers c (answers_at answers.clients.items i) (errors.CheckError p)) (λ c w. not_client c _ w) w
    in_none (inr (inr (i, w))) = none_and (slice_get setup.paths.items i) (λ (x : PathSetup). IsOfPathAnswers x (answers_at answers.paths.items i) (errors.CheckError p)) (λ x w. not_path x _ w) w
