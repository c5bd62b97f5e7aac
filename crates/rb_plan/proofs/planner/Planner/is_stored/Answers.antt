use Rattle.std.proofs.Common.{◌≡◌, ◌∙◌, ◌<◌, ℕ, List, length, sym, refl, subst, arith, rules}
use Rattle.std.specs.List.{Contains}
use Rattle.std.proofs.lemmas.List.Elements.{Contains-get_or}
use Rattle.rb_step.specs.View.{client_of}
use Rattle.rb_plan_types.proofs.Tops.{stored_of_view}
use Rattle.rb_plan.proofs.planner.Planner.is_stored.Goals as goal

pub returns-then-eq : goal.returns-then-eq
returns-then-eq g c =
    let v = c.args.self.now in
    let h = c.index-stored-at.result in
    let stored = c.stored-stored.result.now in
    let lt : c.args.at < length stored = omega (arith, c.if-at-stored.true) in
    let same : h ≡ c.args.height = search rules in
    let there : Contains (client_of v).stored c.args.height =
    subst (λ (xs : List ℕ). Contains xs c.args.height) (c.stored-stored.ensures ∙ sym (stored_of_view v))
    (subst (λ (x : ℕ). Contains stored x) (sym c.index-stored-at.is ∙ same) (Contains-get_or stored c.args.at h lt)) in
    (λ _. there, λ _. refl)
