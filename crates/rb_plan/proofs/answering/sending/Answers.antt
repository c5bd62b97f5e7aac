use Rattle.std.proofs.Common.{ap, subst, sym, ◌∙◌, ℕ, Err}
use Rattle.rb_batch.specs.Cut.{IsFirstTooBig}
use Rattle.rb_plan_client.specs.Task.{gases}
use Rattle.rb_plan.proofs.answering.sending.Goals as goal

pub returns-in-Err-TooBig : goal.returns-in-Err-TooBig
returns-in-Err-TooBig g c =
    let t = c.args.job.now.task in
    subst (λ (i : ℕ). IsFirstTooBig t.config.limits (gases t c.args.updates.now c.args.messages.now) i) (sym c.in-Err-TooBig.index-is)
    (c.transactions.ensures.too_big c.in-Err-TooBig.index (c.in-Err-TooBig.is ∙ ap (λ e. Err e) c.in-Err-TooBig.field-0-is))
