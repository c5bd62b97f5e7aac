use Rattle.std.proofs.Common.{◌≡◌, ◌++◌, drop, map, option_map}
use Rattle.std.specs.List.{enumerate_from}
use Rattle.rb_import.specs.Events.{vote_at}
use Rattle.rb_import.proofs.chains.votes_of.Given as goal

-- the votes so far and those that are left are all
abbrev pub invariant-loop-place : goal.invariant-loop-place
invariant-loop-place l =
    l.votes.items ++ map (vote_at (option_map (λ v. v.now) l.verdict)) (enumerate_from l.place (drop l.place l.signatures)) ≡ map (vote_at (option_map (λ v. v.now) l.verdict)) (enumerate_from 0 l.signatures)
