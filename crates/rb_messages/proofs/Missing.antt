-- Votes that a commit has.
use Rattle.std.proofs.Common.{◌≡◌, ℕ, Bool, true, false, cond, if◌then◌else◌, List, [], ◌∷◌, Option, Some, None, refl}
use Rattle.std.specs.List.{All, AllByRecursion, find}
use Rattle.std.specs.Option.{IfSome, option_map}
use Rattle.std.proofs.lemmas.List.Elements.{All-from_recursion}
use Rattle.rb_step.specs.Sent.{sent_view}
use Rattle.rb_step.specs.declared.sent.SentVotes.{SentVotes}
use Rattle.rb_import_answers.specs.declared.commit.CommitVote.{CommitVote}
use Rattle.rb_messages.specs.Votes.{HasVote, has_vote, lacks_vote, missing_vote}

not_found : (has : Bool) (x : List ℕ) (o : Option (List ℕ)) → cond (if has then false else true) (Some x) o ≡ None → (has ≡ true) × (o ≡ None)
not_found true x o e = (refl, e)
not_found false x o e = absurd (cc)

has_each : (c : List CommitVote) (xs : List (List ℕ)) → find (lacks_vote c) xs ≡ None → AllByRecursion (HasVote c) xs
has_each c [] e = tt
has_each c (x ∷ xs) e = let p = not_found (has_vote c x) x (find (lacks_vote c) xs) e in (p.0, has_each c xs p.1)

-- where no vote that an update needs is missing, the commit has each
pub none_missing : {A : Type 0} (c : List CommitVote) (votes : Option (SentVotes A)) → missing_vote c (option_map sent_view votes) ≡ None
    → IfSome votes (λ v. All (HasVote c) v.senders.items)
none_missing c None e = tt
none_missing c (Some v) e = All-from_recursion (HasVote c) v.senders.items (has_each c v.senders.items e)
