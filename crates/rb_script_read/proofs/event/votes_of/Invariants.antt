use Rattle.std.proofs.Common.{◌≡◌, ℕ, ◌<◌, Some, length, get_or}
use Rattle.rb_book.specs.declared.vote.Vote.TheVariants.{Commit}
use Rattle.rb_script_read.specs.Events.{vote_of}
use Rattle.rb_script_read.proofs.event.votes_of.Given as goal

-- those before the place are read
abbrev pub invariant-loop-place : goal.invariant-loop-place
invariant-loop-place l = record {
  long : length l.votes.items ≡ length l.letters;
  so_far : (k : ℕ) → k < l.place → vote_of (get_or l.letters k 0) ≡ Some (get_or l.votes.items k Commit);
}
