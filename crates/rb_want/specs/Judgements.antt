-- How steps of a client are judged by the answers that are there.
use Rattle.std.specs.Prelude.{◌≡◌, ◌≢◌, ◌⊎◌, ℕ, ◌+◌, ◌<◌, ◌≤◌, Bool, true, false, not, List, [], length, Option, Some, None}
use Rattle.std.specs.List.{list_any}
use Rattle.rb_book.specs.Header.{IsSignedBy, Record}
use Rattle.rb_import_answers.specs.declared.commit.SignedHeader.{SignedHeader}
use Rattle.rb_step.specs.StepRule.{Step, AcceptsWithin}
use Rattle.rb_step.specs.declared.verdict.Reason.TheVariants.{Expired, TrustedSetUnknown}
use Rattle.rb_step.specs.declared.verdict.Verdict.{Verdict}
use Rattle.rb_step.specs.declared.verdict.Verdict.TheVariants.{Invalid, Success}
use Rattle.rb_valset.specs.Validator.{Member}
use Rattle.rb_valset.specs.ValidatorSet.{set_hash}
use Rattle.rb_want_requests.specs.Answered.{is_commit_of}
use Rattle.rb_want_requests.specs.Requests.{is_named}
use Rattle.rb_want_requests.specs.declared.request.Query.{Query}
use Rattle.rb_want_requests.specs.declared.request.Query.TheVariants as queries
use Rattle.rb_want_requests.specs.declared.judge.StepJudgement.{StepJudgement}
use Rattle.rb_want_requests.specs.declared.judge.StepJudgement.TheVariants.{Accepted, Refused, Never, Gone, Unknown}
use Rattle.rb_want.specs.Clients.{IsHeaderAt}
use Rattle.rb_want.specs.Steps.{IsRecordAt, IsStepAt, IsVerdictOn, header_of}
use Rattle.rb_want.specs.Waiting.{HasNoRecord, HasSet, WaitsFor, page_asked}
use Rattle.rb_want.specs.declared.judged.Steps.{Steps}

-- one of these queries wasn't refused
abbrev pub may_come : Steps → List Query → Bool
may_come s asked = list_any (λ query. not (is_named s.chain.now.folder.now.refused.items query)) asked

-- the trusting period of the record ends within the window: no step goes on from it (ICS 7)
abbrev pub IsExpiring : Steps → ℕ → Type 0
IsExpiring s trusted = (r : Record) × IsRecordAt s trusted r × (r.time + s.options.period ≤ s.window.until)

-- a set of this hash isn't there, and the node doesn't give the next page of the validators of the height
abbrev pub LacksSet : Steps → List ℕ → ℕ → Type 0
LacksSet s hash height = (¬ HasSet s hash) × (may_come s (page_asked s height) ≡ false)

-- no record is there, or not the set that it names, which is that of the height after it
abbrev pub LacksTrust : Steps → ℕ → Type 0
LacksTrust s trusted = HasNoRecord s trusted ⊎ ((r : Record) × IsRecordAt s trusted r × LacksSet s r.next (trusted + 1))

-- the header isn't there, and the node doesn't give it, or its set isn't there
abbrev pub LacksHeader : Steps → ℕ → Type 0
LacksHeader s height =
    ((h : SignedHeader) × IsHeaderAt s.chain.now.folder.now.contents.items height h × LacksSet s h.set height)
    ⊎ ((list_any (is_commit_of height) s.chain.now.folder.now.contents.items ≡ false) × (is_named s.chain.now.folder.now.refused.items (queries.Commit height) ≡ true))

-- a set of this hash is there, or the node may still give the next page of the validators of the height
abbrev pub MayHaveSet : Steps → List ℕ → ℕ → Type 0
MayHaveSet s hash height = HasSet s hash ⊎ (may_come s (page_asked s height) ≡ true)

-- a record is there, and the set that it names may be had
abbrev pub MayBeTrusted : Steps → ℕ → Type 0
MayBeTrusted s trusted = (r : Record) × IsRecordAt s trusted r × MayHaveSet s r.next (trusted + 1)

-- the header is there, and its set may be had, or the node may still give the header
abbrev pub MayBeSigned : Steps → ℕ → Type 0
MayBeSigned s height =
    ((h : SignedHeader) × IsHeaderAt s.chain.now.folder.now.contents.items height h × MayHaveSet s h.set height)
    ⊎ ((list_any (is_commit_of height) s.chain.now.folder.now.contents.items ≡ false) × (is_named s.chain.now.folder.now.refused.items (queries.Commit height) ≡ false))

-- no set of the header's hash is there, or one with another number of members than the header has votes
abbrev pub LacksVoters : Steps → SignedHeader → Type 0
LacksVoters s h = (¬ HasSet s h.set) ⊎ ((own : List Member) × (set_hash own ≡ h.set) × (¬ IsSignedBy (header_of h) own))

-- what it takes to judge the step isn't there: its record, the set that this names, its header, or a set with a member for each vote of that
unfoldable pub LacksStep : Steps → ℕ → ℕ → Type 0
LacksStep s trusted height =
    HasNoRecord s trusted
    ⊎ (((r : Record) × IsRecordAt s trusted r × (¬ HasSet s r.next))
    ⊎ ((list_any (is_commit_of height) s.chain.now.folder.now.contents.items ≡ false)
    ⊎ ((h : SignedHeader) × IsHeaderAt s.chain.now.folder.now.contents.items height h × LacksVoters s h)))

-- what the step rule says of the step, and nothing where it can't be judged
abbrev pub IsSaidOf : Steps → ℕ → ℕ → Option Verdict → Type 0
IsSaidOf s trusted height (Some verdict) = IsVerdictOn s trusted height verdict
IsSaidOf s trusted height None = LacksStep s trusted height

-- the same of a step that was refused, if one was
abbrev pub IsSaidIf : Steps → ℕ → Option ℕ → Option Verdict → Type 0
IsSaidIf s trusted (Some height) said = IsSaidOf s trusted height said
IsSaidIf s trusted None said = said ≡ None

-- the verdict refuses one step, and says nothing of others from its record
abbrev pub IsRefusal : Verdict → Type 0
IsRefusal verdict = (verdict ≢ Success) × (verdict ≢ Invalid Expired) × (verdict ≢ Invalid TrustedSetUnknown)

-- What is judged to be accepted is accepted by the step rule at every moment of the window, and what is judged to be refused isn't. Never is a step
-- accepted from a record that expires, or that lacks the set to trust. A step is gone whose header isn't given, or for which nothing is left to be asked
-- for; unknown is one that waits for an answer, where neither its record nor its header lacks one that the node refused.
abbrev pub AreByRule : Steps → ℕ → ℕ → StepJudgement → Type 0
AreByRule s trusted height Accepted = (step : Step) × IsStepAt s trusted height step × AcceptsWithin s.options s.window step
AreByRule s trusted height Refused = (verdict : Verdict) × IsVerdictOn s trusted height verdict × IsRefusal verdict
AreByRule s trusted height Never = IsExpiring s trusted ⊎ LacksTrust s trusted
AreByRule s trusted height Gone = LacksHeader s height ⊎ WaitsFor s trusted height []
AreByRule s trusted height Unknown = (asked : List Query) × WaitsFor s trusted height asked × (0 < length asked) × MayBeTrusted s trusted × MayBeSigned s height
