use Rattle.std.proofs.Common.{◌≡◌, List, ℕ, ◌++◌, ap, ◌∙◌, subst, OnErr}
use Rattle.rb_base.specs.Sink.{AppendsBeginning}
use Rattle.rb_super_turn.specs.Views.{turn_report_view}
use Rattle.rb_text_report.specs.Report.{turn_text}
use Rattle.rb_text_report.proofs.write.put_turn.Goals as goal

pub returns-clause-begun : goal.returns-clause-begun
returns-clause-begun g c =
    let lines = turn_text c.args.version c.args.chains.now c.args.paths.now c.args.number (turn_report_view c.args.turn.now) in
    let is : c.as_bytes.result.now ≡ lines = c.as_bytes.ensures.value ∙ c.in_ok-push_turn.ensures ∙ ap (λ bs. bs ++ lines) c.new-text.ensures.bytes in
    subst (λ (bs : List ℕ). OnErr c.put.result (AppendsBeginning (g.W.Sink.taken c.args.writer.now) (g.W.Sink.taken c.put.new.writer) bs)) is c.put.ensures.begun
