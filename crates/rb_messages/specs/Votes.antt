-- The votes that an update needs, in a commit.
use Rattle.std.specs.Prelude.{ℕ, List, Bool, true, false, if◌then◌else◌, IsTrue, Option, option_and_then}
use Rattle.std.specs.List.{find, list_any}
use Rattle.std.specs.Str.{bytes_eq}
use Rattle.rb_import_answers.specs.declared.commit.CommitVote.{CommitVote}
use Rattle.rb_import_answers.specs.declared.commit.CommitVote.TheVariants.{Absent, Commit, Nil}
use Rattle.rb_step.specs.Sent.{SentVotes}

-- whether a part of a commit is the vote for the block of the validator with this address
abbrev pub is_vote_of : List ℕ → CommitVote → Bool
is_vote_of address Absent = false
is_vote_of address (Commit c) = bytes_eq c.address address
is_vote_of address (Nil c) = false

-- whether a commit has this validator's vote for the block
abbrev pub has_vote : List CommitVote → List ℕ → Bool
has_vote entries address = list_any (is_vote_of address) entries

abbrev pub lacks_vote : List CommitVote → List ℕ → Bool
lacks_vote entries address = if has_vote entries address then false else true

abbrev pub HasVote : List CommitVote → List ℕ → Type 0
HasVote entries address = IsTrue (has_vote entries address)

-- the validator of the first vote that an update needs and a commit lacks; an update that carries all votes, whichever they are, has no such list
abbrev pub missing_vote : List CommitVote → Option SentVotes → Option (List ℕ)
missing_vote entries votes = option_and_then (λ (v : SentVotes). find (lacks_vote entries) v.senders) votes
