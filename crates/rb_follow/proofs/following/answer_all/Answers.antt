use Rattle.std.proofs.Common.{ℕ, take, arith, subst}
use Rattle.std.specs.Io.KnownBytes.{Consumes}
use Rattle.rb_follow.specs.Journals.{outs}
use Rattle.rb_follow.specs.Views.{following}
use Rattle.rb_follow.proofs.Telling.{on_err}
use Rattle.rb_follow.proofs.Pieces.{has-none, has-kept, has-then, has-begins, has-begins-then, has-end, has-end-begins}
use Rattle.rb_follow.proofs.following.answer_all.Goals.{in-Ok+else-count-eq0+in_ok-follower-in-Ok, in-Err+else-ne}
use Rattle.rb_follow.proofs.following.answer_all.Goals as goal

pub pieces-init : goal.pieces-init
pieces-init g c = record {
  works = c.requires.works;
  so_far = rw c.new-gathering.ensures (has-none c.args.teller.now.form (following c.args.follower) (g.I.Read.remaining c.args.input.now) (outs (g.W.Sink.taken c.args.writer.now) (g.J.Journal.documents c.args.journal.now)));
}

-- one more piece, or a read was interrupted
pub pieces-preserved : goal.pieces-preserved
pieces-preserved g c = elim c.match-read.branch [
  | in-Ok+else-count-eq0+in_ok-follower-in-Ok w ↦ rw (w.writer-is, w.follower-is, w.gathering-is, w.journal-is) (record {
    works = w.in_ok-follower-in-Ok.ensures.works;
    so_far = has-then c.args.teller.now.form (following c.args.follower) (g.I.Read.remaining c.args.input.now) (g.I.Read.remaining c.pieces.input) (g.I.Read.remaining c.read.new.self)
        c.pieces.gathering w.answer_piece.new.gathering (take w.in-Ok.count c.read.new.buf) (outs (g.W.Sink.taken c.args.writer.now) (g.J.Journal.documents c.args.journal.now)) (outs (g.W.Sink.taken c.pieces.writer) (g.J.Journal.documents c.pieces.journal)) (outs (g.W.Sink.taken w.answer_piece.new.writer) (g.J.Journal.documents w.answer_piece.new.journal))
        (following c.pieces.follower) (following w.in_ok-follower-in-Ok.follower) w.in-Ok.ensures.bytes.0 c.pieces.invariant.so_far w.in_ok-follower-in-Ok.ensures.told;
  })
  | in-Err+else-ne w ↦ rw (w.writer-is, w.follower-is, w.gathering-is, w.journal-is) (record {
    works = c.pieces.invariant.works;
    so_far = has-kept c.args.teller.now.form (following c.args.follower) (g.I.Read.remaining c.args.input.now) (g.I.Read.remaining c.pieces.input) (g.I.Read.remaining c.read.new.self)
        c.pieces.gathering (outs (g.W.Sink.taken c.args.writer.now) (g.J.Journal.documents c.args.journal.now)) (outs (g.W.Sink.taken c.pieces.writer) (g.J.Journal.documents c.pieces.journal)) (following c.pieces.follower) w.in-Err.ensures.bytes c.pieces.invariant.so_far;
  })
]

-- its answers failed
pub returns-in_err-follower-in-Ok-clause-begun : goal.returns-in_err-follower-in-Ok-clause-begun
returns-in_err-follower-in-Ok-clause-begun g c =
    on_err c.from_residual-in_err-follower-in-Ok.result
    (has-begins-then c.args.teller.now.form (following c.args.follower) (g.I.Read.remaining c.args.input.now) (g.I.Read.remaining c.pieces.input) (g.I.Read.remaining c.read.new.self)
    c.pieces.gathering (take c.in-Ok.count c.read.new.buf) (outs (g.W.Sink.taken c.args.writer.now) (g.J.Journal.documents c.args.journal.now)) (outs (g.W.Sink.taken c.pieces.writer) (g.J.Journal.documents c.pieces.journal)) (outs (g.W.Sink.taken c.answer_piece.new.writer) (g.J.Journal.documents c.answer_piece.new.journal))
    (following c.pieces.follower) c.in-Ok.ensures.bytes.0 c.pieces.invariant.so_far c.in_err-follower-in-Ok.ensures.begun)

-- the input failed
pub returns-then-ne-clause-begun : goal.returns-then-ne-clause-begun
returns-then-ne-clause-begun g c =
    has-begins c.args.teller.now.form (following c.args.follower) (g.I.Read.remaining c.args.input.now) (g.I.Read.remaining c.pieces.input) c.pieces.gathering
    (outs (g.W.Sink.taken c.args.writer.now) (g.J.Journal.documents c.args.journal.now)) (outs (g.W.Sink.taken c.pieces.writer) (g.J.Journal.documents c.pieces.journal)) (following c.pieces.follower) c.pieces.invariant.so_far

-- too many pieces
pub returns-clause-begun : goal.returns-clause-begun
returns-clause-begun g c =
    has-begins c.args.teller.now.form (following c.args.follower) (g.I.Read.remaining c.args.input.now) (g.I.Read.remaining c.pieces.input) c.pieces.gathering
    (outs (g.W.Sink.taken c.args.writer.now) (g.J.Journal.documents c.args.journal.now)) (outs (g.W.Sink.taken c.pieces.writer) (g.J.Journal.documents c.pieces.journal)) (following c.pieces.follower) c.pieces.invariant.so_far

-- the input has ended
pub returns-then-count-eq0-clause-told : goal.returns-then-count-eq0-clause-told
returns-then-count-eq0-clause-told g c =
    let a = g.I.Read.remaining c.pieces.input in
    let b = g.I.Read.remaining c.read.new.self in
    let none = subst (λ (n : ℕ). Consumes a b (take n c.read.new.buf)) c.if-count-eq0.true c.in-Ok.ensures.bytes.0 in
    has-end c.args.teller.now.form (following c.args.follower) (g.I.Read.remaining c.args.input.now) a b c.pieces.gathering
    (outs (g.W.Sink.taken c.args.writer.now) (g.J.Journal.documents c.args.journal.now)) (outs (g.W.Sink.taken c.pieces.writer) (g.J.Journal.documents c.pieces.journal)) (outs (g.W.Sink.taken c.answer_rest.new.writer) (g.J.Journal.documents c.answer_rest.new.journal)) (following c.pieces.follower) (following c.in_ok-last-in-Ok.last)
    none (c.in-Ok.ensures.bytes.1 c.if-count-eq0.true (omega arith)) c.pieces.invariant.so_far c.in_ok-last-in-Ok.ensures.told

pub returns-in_err-last-in-Ok-clause-begun : goal.returns-in_err-last-in-Ok-clause-begun
returns-in_err-last-in-Ok-clause-begun g c =
    let a = g.I.Read.remaining c.pieces.input in
    let b = g.I.Read.remaining c.read.new.self in
    let none = subst (λ (n : ℕ). Consumes a b (take n c.read.new.buf)) c.if-count-eq0.true c.in-Ok.ensures.bytes.0 in
    on_err c.from_residual.result
    (has-end-begins c.args.teller.now.form (following c.args.follower) (g.I.Read.remaining c.args.input.now) a b c.pieces.gathering
    (outs (g.W.Sink.taken c.args.writer.now) (g.J.Journal.documents c.args.journal.now)) (outs (g.W.Sink.taken c.pieces.writer) (g.J.Journal.documents c.pieces.journal)) (outs (g.W.Sink.taken c.answer_rest.new.writer) (g.J.Journal.documents c.answer_rest.new.journal)) (following c.pieces.follower)
    none (c.in-Ok.ensures.bytes.1 c.if-count-eq0.true (omega arith)) c.pieces.invariant.so_far c.in_err-last-in-Ok.ensures.begun)
