use Rattle.std.proofs.Common.{◌≡◌, false, length}
use Rattle.rb_follow.specs.Headline.{ToldPiece}
use Rattle.rb_follow.specs.Journals.{outs}
use Rattle.rb_follow.specs.Views.{following}
use Rattle.rb_follow.proofs.following.answer_piece.Given as goal

abbrev pub invariant-loop-end : goal.invariant-loop-end
invariant-loop-end g l = record {
  works : g.W.Sink.is_broken l.writer ≡ false;
  piece : ToldPiece l.teller.form (following l.fn.follower) l.fn.gathering l.piece l.gathering l.rest (outs (g.W.Sink.taken l.fn.writer) (g.J.Journal.documents l.fn.journal)) (outs (g.W.Sink.taken l.writer) (g.J.Journal.documents l.journal)) (following l.follower);
}

abbrev pub decreases-loop-end : goal.decreases-loop-end
decreases-loop-end g l = length l.rest
