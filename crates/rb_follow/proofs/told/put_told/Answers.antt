use Rattle.std.proofs.Common.{◌≡◌, List, ℕ, ◌∙◌, subst, OnErr}
use Rattle.rb_base.specs.Sink.{AppendsBeginning}
use Rattle.rb_follow.specs.Answers.{answer_view, whole_text}
use Rattle.rb_follow.proofs.told.put_told.Goals as goal

pub returns-clause-begun : goal.returns-clause-begun
returns-clause-begun g c =
    let lines = whole_text c.args.form c.args.version c.args.chains.now c.args.paths.now (answer_view c.args.answer.now) in
    let is : c.as_bytes.result.now ≡ lines = c.as_bytes.ensures.value ∙ c.in_ok-text.ensures in
    subst (λ (bs : List ℕ). OnErr c.put.result (AppendsBeginning (g.W.Sink.taken c.args.writer.now) (g.W.Sink.taken c.put.new.writer) bs)) is c.put.ensures.begun
