-- The votes that an update carries, as a report lists them.
use Rattle.std.specs.Prelude.{ℕ, List, [], map, count_by, slice_get, Option, None}
use Rattle.std.specs.Option.{option_map, option_map_or}
use Rattle.rb_base.specs.Options.{ClientOptions}
use Rattle.rb_base.specs.declared.votes.CarriedVotes.{CarriedVotes}
use Rattle.rb_base.specs.declared.votes.CarriedVotes.TheVariants.{Commit, Cast, Needed}
use Rattle.rb_valset.specs.Validator.{Member, address_of}
use Rattle.rb_book.specs.Header.{is_commit}
use Rattle.rb_votes.specs.declared.voter.Voter.{Voter}
use Rattle.rb_step.specs.Carried.{needed_voters}
use Rattle.rb_step.specs.KnownStep.{step_at}
use Rattle.rb_step.specs.StepRule.{Step}
use Rattle.rb_step.specs.View.{View}
use Rattle.rb_step.specs.declared.sent.SentVotes.{SentVotes as CodeSent}

-- the addresses of the validators whose votes go, and how many commit votes the header has
pub record SentVotes : Type 0 where
  pub senders : List (List ℕ)
  pub commits : ℕ

abbrev pub sent_view : {A : Type 0} → CodeSent A → SentVotes
sent_view s = record { senders = s.senders.items; commits = s.commits }

abbrev pub address_at : List Member → Voter → List ℕ
address_at own v = option_map_or (λ (m : Member). address_of m.key) (slice_get own v.place) []

abbrev pub addresses_at : List Member → List Voter → List (List ℕ)
addresses_at own voters = map (address_at own) voters

abbrev pub sent_of : ClientOptions → Step → SentVotes
sent_of o s = record {
  senders = addresses_at s.own (needed_voters o s.trusted_height s.next s.header s.own);
  commits = count_by is_commit s.header.votes;
}

-- what a client that sends what is needed sends for a known step; a client that sends all has no such list
abbrev pub sent_by : CarriedVotes → View → ℕ → ℕ → Option SentVotes
sent_by Commit v trusted height = None
sent_by Cast v trusted height = None
sent_by Needed v trusted height = option_map (sent_of v.options) (step_at v.book trusted height)

unfoldable pub sent_at : View → ℕ → ℕ → Option SentVotes
sent_at v trusted height = sent_by v.options.votes v trusted height
