use Rattle.std.proofs.Common.{Option, subst}
use Rattle.std.specs.Option.{IsSomeAnd}
use Rattle.std.proofs.lemmas.Bool.{false≢true}
use Rattle.rb_step.specs.View.{client_of}
use Rattle.rb_plan_types.specs.declared.cost.Cost.{Cost}
use Rattle.rb_plan_types.specs.Order.{CostsAtMost, after_update}
use Rattle.rb_cert.specs.Trusted.{LeadsLower}
use Rattle.rb_cert.proofs.LookedUp.{at_most_more}
use Rattle.rb_cert.proofs.labels.is_too_high.Goals as goal

pub returns-then-is_at_most-2-clause-value : goal.returns-then-is_at_most-2-clause-value
returns-then-is_at_most-2-clause-value g c =
    let label = c.args.label in
    let from = c.in-Some.from in
    let fee = (client_of c.args.view.now).fee c.args.known.now.height c.args.header.now.height in
    let most : IsSomeAnd label (λ d. CostsAtMost d (after_update from c.least_fee_from.result)) =
    subst (λ (x : Cost). IsSomeAnd label (λ d. CostsAtMost d x)) c.after_update-lowest.ensures (c.is_at_most-2.ensures.0 c.if-is_at_most-2.true) in
    let over = at_most_more label from c.least_fee_from.result fee c.least_fee_from.ensures.least most in
    (λ e. absurd (false≢true e), λ both. absurd (subst (λ (o : Option Cost). LeadsLower o fee label) c.in-Some.is both.0 over))

pub accepts-requires-clause-live : goal.accepts-requires-clause-live
accepts-requires-clause-live g c = ((c.requires.trusted.1.cost c.in-Some.from).0 c.in-Some.is).0
