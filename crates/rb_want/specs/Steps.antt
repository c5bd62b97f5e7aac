-- Steps of a client, judged by the answers that are there.
use Rattle.std.specs.Prelude.{◌≡◌, ◌↔◌, ◌⊎◌, ℕ, List, Some, Any, map}
use Rattle.std.specs.Borrow.{Bor}
use Rattle.rb_book.specs.Header.{Record, Header, IsSignedBy, Names}
use Rattle.rb_book.specs.declared.vote.Vote.{Vote}
use Rattle.rb_book.specs.declared.vote.Vote.TheVariants as votes
use Rattle.rb_valset.specs.Validator.{Member}
use Rattle.rb_base.specs.Options.{ClientOptions}
use Rattle.rb_base.specs.Window.{Span, IsWithin}
use Rattle.rb_step.specs.Conditions.{Condition}
use Rattle.rb_step.specs.StepRule.{Step, AcceptsWithin}
use Rattle.rb_step.specs.declared.verdict.Verdict.{Verdict}
use Rattle.rb_step.specs.declared.verdict.Verdict.TheVariants.{Success}
use Rattle.rb_import_answers.specs.declared.client.ConsensusState.{ConsensusState}
use Rattle.rb_import_answers.specs.declared.commit.BlockIdFlag.{BlockIdFlag}
use Rattle.rb_import_answers.specs.declared.commit.BlockIdFlag.TheVariants as flags
use Rattle.rb_import_answers.specs.declared.commit.SignedHeader.{SignedHeader}
use Rattle.rb_want.specs.Clients.{IsHeaderAt}
use Rattle.rb_want.specs.declared.judged.Steps.{Steps}

-- what a client has stored at a height
abbrev pub record_of_state : ConsensusState → Record
record_of_state s = record { time = s.time; root = s.root; next = s.next }

-- the record that a client stores of a header
abbrev pub record_of : SignedHeader → Record
record_of h = record { time = h.time; root = h.root; next = h.next }

abbrev pub vote_of : BlockIdFlag → Vote
vote_of flags.Absent = votes.Absent
vote_of flags.Commit = votes.Commit
vote_of flags.Nil = votes.Nil

-- a header with its votes, as the step rule takes it
abbrev pub header_of : SignedHeader → Header
header_of h = record { height = h.height; record_of = record_of h; set_hash = h.set; votes = map (λ s. vote_of s.flag) h.signatures.items }

-- the client has stored this at the height
abbrev pub IsStoredAt : List (Bor ConsensusState) → ℕ → ConsensusState → Type 0
IsStoredAt records height state = (state.height ≡ height) × Any (λ r. r.now ≡ state) records

-- the client has stored this record at the height, or stores it of a header that is there
abbrev pub IsRecordAt : Steps → ℕ → Record → Type 0
IsRecordAt s height r =
    ((state : ConsensusState) × IsStoredAt s.records.now height state × (r ≡ record_of_state state))
    ⊎ ((h : SignedHeader) × IsHeaderAt s.chain.now.folder.now.contents.items height h × (r ≡ record_of h))

-- the step goes from such a record to a header that is there, over the sets that these name
abbrev pub IsStepAt : Steps → ℕ → ℕ → Step → Type 0
IsStepAt s trusted height step =
    (step.trusted_height ≡ trusted) × IsRecordAt s trusted step.trusted
    × ((next : List Member) × (step.next ≡ Some next) × Names step.trusted next)
    × ((h : SignedHeader) × IsHeaderAt s.chain.now.folder.now.contents.items height h × (step.header ≡ header_of h))
    × IsSignedBy step.header step.own

-- what the verdict says of the step holds at a moment of the window
abbrev pub HoldsWithin : ClientOptions → Span → Step → Verdict → Type 0
HoldsWithin o w step verdict = (moment : ℕ) × IsWithin w moment × Condition verdict o (record { from = moment; until = moment }) step

-- the verdict is success exactly where the step is accepted at every moment of the window, and else holds at one of them
abbrev pub IsVerdictOn : Steps → ℕ → ℕ → Verdict → Type 0
IsVerdictOn s trusted height verdict =
    (step : Step) × IsStepAt s trusted height step × ((verdict ≡ Success) ↔ AcceptsWithin s.options s.window step)
    × HoldsWithin s.options s.window step verdict
