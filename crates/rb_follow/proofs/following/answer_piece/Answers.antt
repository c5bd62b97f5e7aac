use Rattle.std.proofs.Common.{ℕ, List, arith, length-drop, sym, subst}
use Rattle.rb_follow.specs.Documents.{nothing_read}
use Rattle.rb_follow.specs.Headline.{ToldPiece}
use Rattle.rb_follow.specs.Journals.{outs}
use Rattle.rb_follow.specs.Views.{following}
use Rattle.rb_follow.proofs.Telling.{on_err}
use Rattle.rb_follow.proofs.Pieces.{slice_to_end, piece-none, piece-end, piece-then, piece-begins, piece-begins-then}
use Rattle.rb_follow.proofs.following.answer_piece.Goals as goal

pub loop-end-init : goal.loop-end-init
loop-end-init g c = record {
  works = c.requires.works;
  piece = piece-none c.args.teller.now.form (following c.args.follower) c.args.gathering.now c.args.piece.now (outs (g.W.Sink.taken c.args.writer.now) (g.J.Journal.documents c.args.journal.now));
}

pub loop-end-preserved : goal.loop-end-preserved
loop-end-preserved g c =
    let read = rw c.in-Ok-Some.field-0-is at c.in-Ok-Some.ensures in
    record {
      works = c.in_ok-follower-in-Ok-Some.ensures.works;
      piece = rw c.in_ok-follower-in-Ok-Some.ensures.cleared
          (subst (λ (xs : List ℕ). ToldPiece c.args.teller.now.form (following c.args.follower) c.args.gathering.now c.args.piece.now nothing_read xs
          (outs (g.W.Sink.taken c.args.writer.now) (g.J.Journal.documents c.args.journal.now)) (outs (g.W.Sink.taken c.answer_document.new.writer) (g.J.Journal.documents c.answer_document.new.journal)) (following c.in_ok-follower-in-Ok-Some.follower))
          (sym (slice_to_end c.in-Ok-Some.end c.loop-end.rest.now))
          (piece-then c.args.teller.now.form (following c.args.follower) c.args.gathering.now c.args.piece.now c.loop-end.gathering c.gather.new.self c.loop-end.rest.now c.in-Ok-Some.end
          (outs (g.W.Sink.taken c.args.writer.now) (g.J.Journal.documents c.args.journal.now)) (outs (g.W.Sink.taken c.loop-end.writer) (g.J.Journal.documents c.loop-end.journal)) (outs (g.W.Sink.taken c.answer_document.new.writer) (g.J.Journal.documents c.answer_document.new.journal)) (following c.loop-end.follower) (following c.in_ok-follower-in-Ok-Some.follower)
          c.loop-end.invariant.piece read c.in_ok-follower-in-Ok-Some.ensures.told));
    }

pub loop-end-smaller : goal.loop-end-smaller
loop-end-smaller g c =
    let read = rw c.in-Ok-Some.field-0-is at c.in-Ok-Some.ensures in
    omega (arith, read.0, read.1, length-drop c.in-Ok-Some.end c.loop-end.rest.now)

pub returns-in-Ok-None-clause-told : goal.returns-in-Ok-None-clause-told
returns-in-Ok-None-clause-told g c =
    piece-end c.args.teller.now.form (following c.args.follower) c.args.gathering.now c.args.piece.now c.loop-end.gathering c.gather.new.self c.loop-end.rest.now
    (outs (g.W.Sink.taken c.args.writer.now) (g.J.Journal.documents c.args.journal.now)) (outs (g.W.Sink.taken c.loop-end.writer) (g.J.Journal.documents c.loop-end.journal)) (following c.loop-end.follower) c.loop-end.invariant.piece (rw c.in-Ok-None.field-0-is at c.in-Ok-None.ensures)

pub returns-in-Err-clause-begun : goal.returns-in-Err-clause-begun
returns-in-Err-clause-begun g c more =
    piece-begins c.args.teller.now.form (following c.args.follower) c.args.gathering.now c.args.piece.now c.loop-end.gathering c.loop-end.rest.now
    (outs (g.W.Sink.taken c.args.writer.now) (g.J.Journal.documents c.args.journal.now)) (outs (g.W.Sink.taken c.loop-end.writer) (g.J.Journal.documents c.loop-end.journal)) (following c.loop-end.follower) c.loop-end.invariant.piece more

pub returns-in_err-follower-in-Ok-Some-clause-begun : goal.returns-in_err-follower-in-Ok-Some-clause-begun
returns-in_err-follower-in-Ok-Some-clause-begun g c more =
    let read = rw c.in-Ok-Some.field-0-is at c.in-Ok-Some.ensures in
    on_err c.from_residual.result
    (piece-begins-then c.args.teller.now.form (following c.args.follower) c.args.gathering.now c.args.piece.now c.loop-end.gathering c.gather.new.self c.loop-end.rest.now c.in-Ok-Some.end
    (outs (g.W.Sink.taken c.args.writer.now) (g.J.Journal.documents c.args.journal.now)) (outs (g.W.Sink.taken c.loop-end.writer) (g.J.Journal.documents c.loop-end.journal)) (outs (g.W.Sink.taken c.answer_document.new.writer) (g.J.Journal.documents c.answer_document.new.journal)) (following c.loop-end.follower)
    c.loop-end.invariant.piece read c.in_err-follower-in-Ok-Some.ensures.begun more)
