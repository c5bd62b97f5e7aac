use Rattle.std.proofs.Common.{◌≡◌, count_by, take}
use Rattle.rb_book.specs.Header.{is_cast, is_commit}
use Rattle.rb_book.proofs.header.count_votes.Given as goal

abbrev pub invariant-loop-vote : goal.invariant-loop-vote
invariant-loop-vote l = record {
  commits : l.commits ≡ count_by is_commit (take l.vote-index l.votes);
  cast : l.cast ≡ count_by is_cast (take l.vote-index l.votes);
}
