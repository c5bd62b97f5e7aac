use Rattle.std.proofs.Common.{◌≡◌, Some, IfOk, IfErr, subst}
use Rattle.rb_core_model.specs.Machine.{State, path_view_refusal}
use Rattle.rb_core_model.specs.Refused.{IsRefusal}
use Rattle.rb_core_model.specs.Standing.{path_view}
use Rattle.rb_super_turn.proofs.Steps.{state_seen}
use Rattle.rb_super_turn.proofs.relayer.Relayer.path_view.Goals as goal

pub returns-clause-view : goal.returns-clause-view
returns-clause-view g c =
    subst (λ (s : State). IfOk c.path_view.result (λ view. path_view s.standing c.args.path ≡ Some view))
    (state_seen c.core.result.now (g.M.Machine.seen_as c.self.inside.machine) _ c.core.ensures.config c.core.ensures.log c.self.view_is) c.path_view.ensures.view

pub returns-clause-refused : goal.returns-clause-refused
returns-clause-refused g c =
    subst (λ (s : State). IfErr c.path_view.result (λ e. IsRefusal e (path_view_refusal s c.args.path)))
    (state_seen c.core.result.now (g.M.Machine.seen_as c.self.inside.machine) _ c.core.ensures.config c.core.ensures.log c.self.view_is) c.path_view.ensures.refused
