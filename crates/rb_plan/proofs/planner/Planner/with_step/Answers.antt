use Rattle.std.proofs.Common.{◌≡◌, sym, ◌∙◌, ap, subst, arith, Some, None, Option, ℕ, length, ◌<◌, ◌≤◌}
use Rattle.std.specs.Prelude.{IsSomeAnd}
use Rattle.std.specs.List.{slice_get}
use Rattle.rb_graph.specs.StepTable.{Target, IsStepFee}
use Rattle.rb_step.specs.Fee.{fee_at}
use Rattle.rb_step.specs.View.{client_of}
use Rattle.rb_plan_types.specs.declared.cost.Cost.{Cost}
use Rattle.rb_plan.specs.Offers.{target_of}
use Rattle.rb_plan_types.specs.Order.{CostsAtMost, after_update}
use Rattle.rb_plan.proofs.Cheapening.{lowered_skip, lowered_over, lowered_past, lowered_more}
use Rattle.rb_plan.proofs.Serving.{TellsStep, told_at, least_at, offer_within}
use Rattle.rb_plan.proofs.planner.Planner.with_step.Goals as goal

pub returns-then-not-can_lower : goal.returns-then-not-can_lower
returns-then-not-can_lower g c = λ label is. lowered_over (client_of c.args.self.now) label c.args.target.now.height c.args.offer is c.args.best (c.can_lower.ensures c.if-not-can_lower.true)

pub least_fee_from-least-requires : goal.least_fee_from-least-requires
least_fee_from-least-requires g c = subst (λ (x : Target). c.args.offer.place < length x.book.records) (sym c.requires.target) (offer_within c.args.self.now.book c.args.offer c.requires.offer)

pub returns-then-not-can_lower-2 : goal.returns-then-not-can_lower-2
returns-then-not-can_lower-2 g c = λ label is.
    let v = c.args.self.now in
    let h = c.args.target.now.height in
    let o = c.args.offer in
    let least = c.least_fee_from-least.result in
    let below : least ≤ (client_of v).fee o.label.height h = least_at v h o least c.requires.offer
    (subst (λ (x : Target). IsSomeAnd (slice_get x.book.records o.place) (λ k. least ≤ fee_at x.options x.fees x.book k.height x.height)) c.requires.target c.least_fee_from-least.ensures.least) in
    let past : IsSomeAnd c.args.best (λ b. CostsAtMost b (after_update o.label.cost least)) =
    subst (λ (x : Cost). IsSomeAnd c.args.best (λ b. CostsAtMost b x)) c.after_update-lowest.ensures (c.can_lower-2.ensures c.if-not-can_lower-2.true) in
    lowered_past (client_of v) label h o is c.args.best least below past

pub fee_from-requires : goal.fee_from-requires
fee_from-requires g c = subst (λ (x : Target). c.args.offer.place < length x.book.records) (sym c.requires.target) (offer_within c.args.self.now.book c.args.offer c.requires.offer)

pub returns-in-Some : goal.returns-in-Some
returns-in-Some g c = λ label is.
    let v = c.args.self.now in
    let h = c.args.target.now.height in
    let o = c.args.offer in
    let told : TellsStep (client_of v) o.label.height h c.fee_from.result = told_at v h o c.fee_from.result c.requires.offer
    (subst (λ (x : Target). IsSomeAnd (slice_get x.book.records o.place) (λ k. IsStepFee x k.height c.fee_from.result)) c.requires.target c.fee_from.ensures.value) in
    let yes : TellsStep (client_of v) o.label.height h (Some c.in-Some.fee) = subst (TellsStep (client_of v) o.label.height h) c.in-Some.is told in
    lowered_more (client_of v) label h o is c.args.best c.after_update.result c.cheaper.result
    (o.label.cost, is, yes.0, c.after_update.ensures ∙ ap (λ (f : ℕ). after_update o.label.cost f) yes.1) c.cheaper.ensures

pub returns-in-None : goal.returns-in-None
returns-in-None g c = λ label is.
    let v = c.args.self.now in
    let h = c.args.target.now.height in
    let o = c.args.offer in
    let told : TellsStep (client_of v) o.label.height h c.fee_from.result = told_at v h o c.fee_from.result c.requires.offer
    (subst (λ (x : Target). IsSomeAnd (slice_get x.book.records o.place) (λ k. IsStepFee x k.height c.fee_from.result)) c.requires.target c.fee_from.ensures.value) in
    let no : TellsStep (client_of v) o.label.height h None = subst (TellsStep (client_of v) o.label.height h) c.in-None.is told in
    lowered_skip (client_of v) label h o is c.args.best (λ cost leads. no leads.2)
