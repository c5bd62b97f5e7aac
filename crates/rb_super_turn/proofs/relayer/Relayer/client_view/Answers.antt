use Rattle.std.proofs.Common.{◌≡◌, Some, IfOk, IfErr, subst}
use Rattle.rb_core_model.specs.Machine.{State, client_view, client_view_refusal}
use Rattle.rb_core_model.specs.Refused.{IsRefusal}
use Rattle.rb_super_turn.proofs.Steps.{state_seen}
use Rattle.rb_super_turn.proofs.relayer.Relayer.client_view.Goals as goal

pub returns-clause-view : goal.returns-clause-view
returns-clause-view g c =
    subst (λ (s : State). IfOk c.client_view.result (λ view. client_view s c.args.client ≡ Some view))
    (state_seen c.core.result.now (g.M.Machine.seen_as c.self.inside.machine) _ c.core.ensures.config c.core.ensures.log c.self.view_is) c.client_view.ensures.view

pub returns-clause-refused : goal.returns-clause-refused
returns-clause-refused g c =
    subst (λ (s : State). IfErr c.client_view.result (λ e. IsRefusal e (client_view_refusal s c.args.client)))
    (state_seen c.core.result.now (g.M.Machine.seen_as c.self.inside.machine) _ c.core.ensures.config c.core.ensures.log c.self.view_is) c.client_view.ensures.refused
