-- Client messages (ICS 7, `Header`).
use Rattle.std.specs.Prelude.{◌≡◌, ℕ, List, [], All, Some, IfSome, IsSomeAnd, option_map, slice_get, slice_index_or, string_bytes}
use Rattle.std.specs.List.{AllZip}
use Rattle.rb_import_answers.specs.Headers.{signed_view}
use Rattle.rb_import_answers.specs.Revisions.{IsRevision}
use Rattle.rb_import_check.specs.declared.chain.Commit.{Commit}
use Rattle.rb_import_check.specs.declared.chain.SeenChain.{SeenChain}
use Rattle.rb_valset.specs.Validator.{Member}
use Rattle.rb_valset.specs.ValidatorSet.{set_hash}
use Rattle.rb_step.specs.Sent.{sent_view}
use Rattle.rb_messages.specs.MessageTexts.{message_text}
use Rattle.rb_messages.specs.Sources.{IsHeaderOf, commit_at}
use Rattle.rb_messages.specs.Votes.{HasVote}
use Rattle.rb_messages.specs.declared.message.MessageFile.{MessageFile}
use Rattle.rb_messages.specs.declared.update.PlannedUpdate.{PlannedUpdate}

-- the text is the message of an update of a chain: its signed header is the one of this height that was seen, whose header is the one that the
-- relayer has planned for, with the votes that the planner counts, each of which is a vote for the block in this commit; with the set that this header
-- names, and the trusted height with the set that its record names. An update that carries all votes has those of this commit, whichever they are
pub record IsMessageOf (chain : List ℕ) (seen : SeenChain) (u : PlannedUpdate) (text : List ℕ) : Type 0 where
  pub commit : Commit
  pub own : List Member
  pub trusted : List Member
  pub revision : ℕ
  pub commit_is : commit_at seen u.height ≡ Some commit
  pub header_is : IsHeaderOf u commit.header.now
  pub votes_are : IfSome u.votes (λ v. All (HasVote commit.header.now.votes.items) v.senders.items)
  pub own_is : set_hash own ≡ commit.header.now.set
  pub trusted_is : IsSomeAnd u.trusted_record (λ r. set_hash trusted ≡ r.next)
  pub revision_is : IsRevision chain revision
  pub text_is : text ≡ message_text (option_map sent_view u.votes) (signed_view commit.header.now) own revision u.trusted trusted

-- the file is that of an update of the chain at its place
abbrev pub IsFileOf : List (List ℕ) → List SeenChain → PlannedUpdate → MessageFile → Type 0
IsFileOf chains seen u file =
    IsSomeAnd (slice_get seen u.chain) (λ s. IsMessageOf (slice_index_or chains u.chain []) s u (string_bytes file.text))

abbrev pub AreFilesOf : List (List ℕ) → List SeenChain → List PlannedUpdate → List MessageFile → Type 0
AreFilesOf chains seen updates files = AllZip (IsFileOf chains seen) updates files
