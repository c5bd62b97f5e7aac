use Rattle.std.proofs.Common.{ℕ, List, IfSome, inr, ap, subst}
use Rattle.rb_follow.specs.Documents.{documents}
use Rattle.rb_follow.specs.Followers.{Following}
use Rattle.rb_follow.specs.Journals.{outs}
use Rattle.rb_follow.specs.Headline.{Told, BeginsTelling}
use Rattle.rb_follow.specs.Views.{following}
use Rattle.rb_follow.proofs.Telling.{on_err}
use Rattle.rb_follow.proofs.Whole.{goes-on, on-head, on-begins, on-end}
use Rattle.rb_follow.proofs.following.follow_on.Goals as goal

-- ---- the first line failed

pub returns-in_err-follower-2-clause-begun : goal.returns-in_err-follower-2-clause-begun
returns-in_err-follower-2-clause-begun g c =
    on_err c.from_residual-in_err-follower-2.result
    (inr (on-head c.args.form c.args.setup.now (following c.in_ok-follower.follower) (g.I.Read.remaining c.args.input.now) (g.W.Sink.taken c.args.writer.now) (g.W.Sink.taken c.begin.new.writer)
    (g.J.Journal.documents c.args.journal.now) c.in_ok-follower.ensures c.in_err-follower-2.ensures.begun))

-- ---- an answer failed, or the input

pub returns-in_err-follower-3-clause-begun : goal.returns-in_err-follower-3-clause-begun
returns-in_err-follower-3-clause-begun g c =
    let f = following c.in_ok-follower.follower in
    let known = g.I.Read.remaining c.args.input.now in
    let before = g.J.Journal.documents c.args.journal.now in
    let after = g.J.Journal.documents c.answer_all.new.journal in
    let old = g.W.Sink.taken c.args.writer.now in
    let mid = g.W.Sink.taken c.begin.new.writer in
    let new = g.W.Sink.taken c.answer_all.new.writer in
    let told = subst (λ (x : Following). IfSome known (λ (bytes : List ℕ). BeginsTelling c.args.form x (documents bytes) (outs mid before) (outs new after))) (ap (λ x. following x) c.in_ok-follower-2.ensures.same) c.in_err-follower-3.ensures.begun in
    on_err c.from_residual-in_err-follower-3.result
    (inr (on-begins c.args.form c.args.setup.now f known old mid new before after c.in_ok-follower.ensures c.in_ok-follower-2.ensures.written told))

-- ---- the last line failed

pub returns-in_err-put_end-clause-begun : goal.returns-in_err-put_end-clause-begun
returns-in_err-put_end-clause-begun g c =
    let f = following c.in_ok-follower.follower in
    let known = g.I.Read.remaining c.args.input.now in
    let before = g.J.Journal.documents c.args.journal.now in
    let after = g.J.Journal.documents c.answer_all.new.journal in
    let old = g.W.Sink.taken c.args.writer.now in
    let mid = g.W.Sink.taken c.begin.new.writer in
    let last = g.W.Sink.taken c.answer_all.new.writer in
    let new = g.W.Sink.taken c.put_end.new.writer in
    let k = following c.in_ok-follower-3.follower in
    let told = subst (λ (x : Following). IfSome known (λ (bytes : List ℕ). Told c.args.form x (documents bytes) (outs mid before) (outs last after) k)) (ap (λ x. following x) c.in_ok-follower-2.ensures.same) c.in_ok-follower-3.ensures.told in
    on_err c.from_residual-in_err-put_end.result
    (inr (on-end c.args.form c.args.setup.now f known old mid last new before after k c.in_ok-follower.ensures c.in_ok-follower-2.ensures.written told c.in_err-put_end.ensures.begun))

-- ---- all was followed

pub returns-clause-followed : goal.returns-clause-followed
returns-clause-followed g c =
    let f = following c.in_ok-follower.follower in
    let known = g.I.Read.remaining c.args.input.now in
    let before = g.J.Journal.documents c.args.journal.now in
    let after = g.J.Journal.documents c.answer_all.new.journal in
    let old = g.W.Sink.taken c.args.writer.now in
    let mid = g.W.Sink.taken c.begin.new.writer in
    let last = g.W.Sink.taken c.answer_all.new.writer in
    let new = g.W.Sink.taken c.put_end.new.writer in
    let k = following c.in_ok-follower-3.follower in
    let told = subst (λ (x : Following). IfSome known (λ (bytes : List ℕ). Told c.args.form x (documents bytes) (outs mid before) (outs last after) k)) (ap (λ x. following x) c.in_ok-follower-2.ensures.same) c.in_ok-follower-3.ensures.told in
    goes-on c.args.form c.args.setup.now f known old mid last new before after k c.in_ok-follower.ensures c.in_ok-follower-2.ensures.written told c.in_ok-put_end.ensures.written
