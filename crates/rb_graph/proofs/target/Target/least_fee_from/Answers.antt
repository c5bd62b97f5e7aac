use Rattle.std.proofs.Common.{◌∙◌, ◌≡◌, ◌≤◌, length, sym, subst, arith, Option}
use Rattle.std.specs.Option.{IfSome}
use Rattle.rb_step.specs.Carried.{least_votes}
use Rattle.rb_graph.specs.StoredRow.{own_set}
use Rattle.rb_graph.proofs.Targets.{least_told_of, least_taken, least_nothing}
use Rattle.rb_graph.specs.Source.{Source}
use Rattle.rb_graph.specs.StepTable.{Target}
use Rattle.rb_graph.proofs.target.Target.least_fee_from.Goals as goal

pub charge_with-requires-clause-votes : goal.charge_with-requires-clause-votes
charge_with-requires-clause-votes g c =
    let i = c.self.inside in
    let known = subst (λ (o : Option Source). IfSome o (λ s. (i.least ≡ least_votes i.options s.header (own_set s.book s.header)) × (i.least ≤ length (own_set s.book s.header)))) c.in-Some.is c.self.invariant.3 in
    known.1

pub returns-in-Some-clause-least : goal.returns-in-Some-clause-least
returns-in-Some-clause-least g c =
    let i = c.self.inside in
    let x : Target = record { book = i.graph.now; options = i.options; window = i.window; fees = i.fees; height = i.height } in
    let known = subst (λ (o : Option Source). IfSome o (λ s. (i.least ≡ least_votes i.options s.header (own_set s.book s.header)) × (i.least ≤ length (own_set s.book s.header)))) c.in-Some.is c.self.invariant.3 in
    least_told_of x c.args.self.now c.self.view_is c.args.place _ c.requires
    (λ within. least_taken c.success_is_acceptance.ensures x c.self.invariant.0 c.self.invariant.1 c.least_fee_is_least.ensures c.in-Some.source c.args.place i.least _
    (sym c.in-Some.is ∙ c.self.invariant.2) within (omega (arith, c.lower.ensures, c.if-place-lower.true)) known.0 c.charge_with.ensures.value)

pub returns-in_default-clause-least : goal.returns-in_default-clause-least
returns-in_default-clause-least g c =
    let i = c.self.inside in
    let x : Target = record { book = i.graph.now; options = i.options; window = i.window; fees = i.fees; height = i.height } in
    least_told_of x c.args.self.now c.self.view_is c.args.place 0 c.requires
    (λ within. least_nothing c.success_is_acceptance.ensures x c.self.invariant.0 c.self.invariant.1 c.args.place within)

pub returns-in_default-2-clause-least : goal.returns-in_default-2-clause-least
returns-in_default-2-clause-least g c =
    let i = c.self.inside in
    let x : Target = record { book = i.graph.now; options = i.options; window = i.window; fees = i.fees; height = i.height } in
    least_told_of x c.args.self.now c.self.view_is c.args.place 0 c.requires
    (λ within. least_nothing c.success_is_acceptance.ensures x c.self.invariant.0 c.self.invariant.1 c.args.place within)
