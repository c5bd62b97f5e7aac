-- The answers of each chain, client and path of a setup, judged by themselves: what was seen in them, or why they are refused.
use Rattle.std.specs.Prelude.{◌≡◌, ℕ, List, [], ◌∷◌, Option, Some, None, Result, Ok, Err, IfSome, MatchResult, slice_get}
use Rattle.rb_import_setup.specs.declared.setup.ClientSetup.{ClientSetup}
use Rattle.rb_import_setup.specs.declared.setup.PathSetup.{PathSetup}
use Rattle.rb_import_setup.specs.declared.setup.ImportSetup.{ImportSetup}
use Rattle.rb_import_check.specs.declared.chain.SeenChain.{SeenChain}
use Rattle.rb_import_check.specs.declared.client.SeenClient.{SeenClient}
use Rattle.rb_import_check.specs.declared.error.CheckError.{CheckError}
use Rattle.rb_import_check.specs.declared.error.ImportError.{ImportError}
use Rattle.rb_import_check.specs.declared.error.ImportError.TheVariants as errors
use Rattle.rb_import_check.specs.declared.saved.SavedAnswers.{SavedAnswers}
use Rattle.rb_import_check.specs.declared.signed.Signatures.{Signatures}
use Rattle.rb_import_merge.specs.declared.path.SeenPath.{SeenPath}
use Rattle.rb_import_merge.specs.Reasons.{IsOfChainAnswers, IsOfClientAnswers, IsOfPathAnswers}
use Rattle.rb_import_merge.specs.Room.{AtEachPlace}
use Rattle.rb_import_merge.specs.Seen.{AreFiledIn, IsSeenChain, IsSeenClient, IsSeenPath, answers_at, surplus_of}

-- of the object at each place what was seen, or why its answers are refused
abbrev pub AreJudged : {X Y : Type 0} → (ℕ → X → Y → Type 0) → (ℕ → X → ImportError → Type 0) → List X → List (Result Y ImportError) → Type 0
AreJudged Sees Refuses xs results = AtEachPlace (λ i x r. MatchResult r (Sees i x) (Refuses i x)) xs results

-- what was seen of a chain, and for how many of its headers a book has no room
abbrev pub Fitting : Type 0
Fitting = SeenChain × ℕ

abbrev pub AreJudgedChains : ImportSetup → Signatures → SavedAnswers → List (Result Fitting ImportError) → Type 0
AreJudgedChains setup signatures answers results =
    AreJudged
    (λ i id f. IsSeenChain id signatures (answers_at answers.chains.items i) f.0 × (f.1 ≡ surplus_of (answers_at answers.chains.items i) f.0))
    (λ i id e. IsOfChainAnswers id (answers_at answers.chains.items i) e) setup.chains.items results

abbrev pub seen_of : Option (Result Fitting ImportError) → Option SeenChain
seen_of (Some (Ok f)) = Some f.0
seen_of (Some (Err e)) = None
seen_of None = None

-- what was seen of the chain at a place, where its answers aren't refused
abbrev pub chain_at : List (Result Fitting ImportError) → ℕ → Option SeenChain
chain_at results place = seen_of (slice_get results place)

-- (internal) each header that was seen of the chain at a place is of a file of its answers
abbrev pub IsFiledAt : SavedAnswers → List (Result Fitting ImportError) → ℕ → Type 0
IsFiledAt answers results place = IfSome (chain_at results place) (AreFiledIn (answers_at answers.chains.items place))

abbrev pub AreJudgedClients : ImportSetup → SavedAnswers → List (Result Fitting ImportError) → List (Result SeenClient ImportError) → Type 0
AreJudgedClients setup answers chains results =
    AreJudged
    (λ i c client. IsSeenClient setup.chains.items (chain_at chains c.tracks) c (answers_at answers.clients.items i) client)
    (λ i c e. IsOfClientAnswers setup answers c (answers_at answers.clients.items i) e) setup.clients.items results

abbrev pub AreJudgedPaths : ImportSetup → SavedAnswers → List (Result SeenPath ImportError) → Type 0
AreJudgedPaths setup answers results =
    AreJudged
    (λ i path seen. IsSeenPath setup.chains.items path (answers_at answers.paths.items i) seen)
    (λ i path e. IsOfPathAnswers path (answers_at answers.paths.items i) e) setup.paths.items results

-- why answers are refused
abbrev pub problems_in : {Y : Type 0} → Result Y ImportError → List CheckError
problems_in (Ok y) = []
problems_in (Err (errors.CheckError p)) = p ∷ []
problems_in (Err errors.NoMemory) = []
