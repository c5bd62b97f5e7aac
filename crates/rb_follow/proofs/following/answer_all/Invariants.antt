use Rattle.std.proofs.Common.{◌≡◌, false}
use Rattle.rb_follow.specs.Journals.{outs}
use Rattle.rb_follow.specs.Views.{following}
use Rattle.rb_follow.proofs.Pieces.{HasTold}
use Rattle.rb_follow.proofs.following.answer_all.Given as goal

abbrev pub invariant-pieces : goal.invariant-pieces
invariant-pieces g l = record {
  works : g.W.Sink.is_broken l.writer ≡ false;
  so_far : HasTold l.teller.form (following l.fn.follower) (g.I.Read.remaining l.fn.input) l.gathering (g.I.Read.remaining l.input) (outs (g.W.Sink.taken l.fn.writer) (g.J.Journal.documents l.fn.journal)) (outs (g.W.Sink.taken l.writer) (g.J.Journal.documents l.journal)) (following l.follower);
}
