-- What a message is made of, and why it isn't made.
use Rattle.std.specs.Prelude.{◌≡◌, ◌<◌, ⊤, ℕ, List, [], ◌==◌, ◌++◌, All, Contains, length, Option, IfSome, IsSomeAnd, MatchOption, Some, option_map, slice_get, slice_index_or, Vec}
use Rattle.std.specs.List.{AllZip, enumerate_from, find}
use Rattle.std.specs.Global.{Global}
use Rattle.rb_book.specs.Header.{Record}
use Rattle.rb_import_answers.specs.declared.commit.SignedHeader.{SignedHeader}
use Rattle.rb_import_check.specs.Chains.{AreOfFiles, HaveHeaders, HaveSets, IsOfChain, IsOfItsBlock, filed_of, headers_of}
use Rattle.rb_import_check.specs.Errors.{IsToldOf}
use Rattle.rb_import_check.specs.Sets.{WasSeen}
use Rattle.rb_import_check.specs.declared.saved.Saved.{Saved}
use Rattle.rb_import_check.specs.declared.chain.Commit.{Commit}
use Rattle.rb_import_check.specs.declared.chain.SeenChain.{SeenChain}
use Rattle.rb_import_check.specs.declared.signed.Signatures.{Signatures}
use Rattle.rb_import_check.specs.Signed.{IsSigned}
use Rattle.rb_step.specs.Sent.{sent_view}
use Rattle.rb_messages.specs.Votes.{missing_vote}
use Rattle.rb_messages.specs.declared.error.MessageError.{MessageError}
use Rattle.rb_messages.specs.declared.error.MessageError.TheVariants.{Answers, MissingHeader, OtherHeader, MissingSet, MissingVotes, NoMemory}
use Rattle.rb_messages.specs.declared.update.PlannedUpdate.{PlannedUpdate}

-- what was seen is what the answers on a chain tell: their headers, each with its file, and the sets of their validators. The headers of which
-- messages are made are of the chain with this identifier, have the hashes of the blocks that their commits are for, and more than two thirds of
-- their own set signed them
unfoldable pub Tells : List ℕ → List Saved → SeenChain → Type 0
Tells id answers seen =
    HaveHeaders (headers_of answers) (seen.commits.items ++ seen.bare.items ++ seen.unsigned.items)
    × AreOfFiles (filed_of answers) (seen.commits.items ++ seen.bare.items ++ seen.unsigned.items)
    × All (IsOfChain id) seen.commits.items
    × All IsOfItsBlock seen.commits.items
    × All (IsSigned Signatures.AsGiven seen.sets.sets.items) seen.commits.items
    × HaveSets answers seen.sets.sets.items

abbrev pub TellsAt : List (List ℕ) → ℕ × Vec Saved Global → SeenChain → Type 0
TellsAt chains p seen = Tells (slice_index_or chains p.0 []) p.1.items seen

-- so it is of each chain, by its place
abbrev pub AreTold : List (List ℕ) → List (Vec Saved Global) → List SeenChain → Type 0
AreTold chains answers seen = AllZip (TellsAt chains) (enumerate_from 0 answers) seen

-- the commit of a height, among those that more than two thirds of their own set signed
abbrev pub commit_at : SeenChain → ℕ → Option Commit
commit_at seen height = find (λ (c : Commit). c.header.now.height == height) seen.commits.items

-- the header has the time, the root and the next set of a record
pub record IsOfRecord (h : SignedHeader) (r : Record) : Type 0 where
  pub time_is : h.time ≡ r.time
  pub root_is : h.root ≡ r.root
  pub next_is : h.next ≡ r.next

-- the header is the one that the relayer has planned for
abbrev pub IsHeaderOf : PlannedUpdate → SignedHeader → Type 0
IsHeaderOf u h = IsSomeAnd u.own_record (IsOfRecord h)

-- ---- why no message of an update is made

-- there is no commit of the height that more than two thirds of its own set signed, or not its set
abbrev pub LacksHeader : SeenChain → ℕ → Type 0
LacksHeader seen height = MatchOption (commit_at seen height) ⊤ (λ c. ¬ WasSeen seen.sets.sets.items c.header.now.set)

-- the commit of the height, in this file, is of another header than the relayer has planned for
abbrev pub HasOtherHeader : SeenChain → PlannedUpdate → List ℕ → Type 0
HasOtherHeader seen u file = IsSomeAnd (commit_at seen u.height) (λ c. (file ≡ c.file.now) × ¬ IsHeaderOf u c.header.now)

-- the set that the record of the trusted height names wasn't seen
abbrev pub LacksTrustedSet : SeenChain → PlannedUpdate → Type 0
LacksTrustedSet seen u = IfSome u.trusted_record (λ r. ¬ WasSeen seen.sets.sets.items r.next)

-- the height's commit, in this file, lacks votes that the update needs: the first of them is this validator's
abbrev pub LacksVotes : SeenChain → PlannedUpdate → List ℕ → List ℕ → Type 0
LacksVotes seen u file validator =
    IsSomeAnd (commit_at seen u.height) (λ c.
    (file ≡ c.file.now) × (missing_vote c.header.now.votes.items (option_map sent_view u.votes) ≡ Some validator))

-- the error is why no message of an update is made of what was seen of its chain
abbrev pub IsRefusedFor : List ℕ → SeenChain → PlannedUpdate → MessageError → Type 0
IsRefusedFor id seen u (MissingHeader chain height) = (chain.now ≡ id) × (height ≡ u.height) × LacksHeader seen u.height
IsRefusedFor id seen u (OtherHeader chain height file) = (chain.now ≡ id) × (height ≡ u.height) × HasOtherHeader seen u file.now
IsRefusedFor id seen u (MissingSet chain height) = (chain.now ≡ id) × (height ≡ u.trusted) × LacksTrustedSet seen u
IsRefusedFor id seen u (MissingVotes chain height file validator) =
    (chain.now ≡ id) × (height ≡ u.height) × LacksVotes seen u file.now validator
IsRefusedFor id seen u (Answers e) = ⊥
IsRefusedFor id seen u NoMemory = ⊤

-- so it is of the chain at the update's place
abbrev pub IsRefusedAt : List (List ℕ) → List SeenChain → PlannedUpdate → MessageError → Type 0
IsRefusedAt chains seen u e = MatchOption (slice_get seen u.chain) ⊤ (λ s. IsRefusedFor (slice_index_or chains u.chain []) s u e)

-- and so it is of one of the updates
abbrev pub IsRefusedAmong : List (List ℕ) → List SeenChain → List PlannedUpdate → MessageError → Type 0
IsRefusedAmong chains seen updates e = (u : PlannedUpdate) × Contains updates u × IsRefusedAt chains seen u e

-- ---- why answers aren't taken

-- the error names the chain with this identifier
abbrev pub IsRefusedOn : List ℕ → MessageError → Type 0
IsRefusedOn id (MissingHeader chain height) = ⊥
IsRefusedOn id (OtherHeader chain height file) = ⊥
IsRefusedOn id (MissingSet chain height) = ⊥
IsRefusedOn id (MissingVotes chain height file validator) = ⊥
IsRefusedOn id (Answers e) = IsToldOf id e
IsRefusedOn id NoMemory = ⊤

-- so it does of one of the chains with answers, by its place
abbrev pub AreRefused : List (List ℕ) → List (Vec Saved Global) → MessageError → Type 0
AreRefused chains answers e = (place : ℕ) × (place < length answers) × IsRefusedOn (slice_index_or chains place []) e
