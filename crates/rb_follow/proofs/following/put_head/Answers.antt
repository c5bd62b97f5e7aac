use Rattle.std.proofs.Common.{◌≡◌, List, ℕ, ap, ◌∙◌, subst, OnErr}
use Rattle.rb_base.specs.Sink.{AppendsBeginning}
use Rattle.rb_follow.specs.Answers.{head_text}
use Rattle.rb_follow.proofs.following.put_head.Goals as goal

pub returns-clause-begun : goal.returns-clause-begun
returns-clause-begun g c =
    let text : c.head.result.now ≡ head_text c.args.form c.args.follower.now.setup.version =
    c.head.ensures ∙ ap (head_text c.args.form) c.version.ensures in
    subst (λ (bs : List ℕ). OnErr c.put.result (AppendsBeginning (g.W.Sink.taken c.args.writer.now) (g.W.Sink.taken c.put.new.writer) bs)) text c.put.ensures.begun
