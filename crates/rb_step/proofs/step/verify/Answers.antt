use Rattle.std.proofs.Common.{◌≡◌, sym, ap, ◌∙◌}
use Rattle.std.specs.Option.{option_copied}
use Rattle.rb_base.specs.Window.{Span}
use Rattle.rb_step.specs.Answer.{answer_at, answer_within}
use Rattle.rb_step.specs.StepRule.{Step, step_of}
use Rattle.rb_step.proofs.Success.{success_at}
use Rattle.rb_step.proofs.step.verify.Goals as goal

pub returns-clause-success : goal.returns-clause-success
returns-clause-success g c =
    let s : Step = step_of c.args.trusted_height c.args.trusted.now (option_copied c.args.next) c.args.header.now c.args.own.now in
    let is : c.answer_within.result ≡ answer_at c.args.options.now c.args.moment s = c.answer_within.ensures.answer ∙ ap (λ (w : Span). answer_within c.args.options.now w s) c.at.ensures in
    let law = success_at c.args.options.now c.args.moment s in
    (λ r. law.0 (sym is ∙ r), λ a. is ∙ law.1 a)
