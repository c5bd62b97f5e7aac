use Rattle.std.proofs.Common.{◌≡◌, Some, subst}
use Rattle.std.specs.Prelude.{IfOk, IfErr}
use Rattle.rb_core_model.specs.Machine.{State, path_view_refusal}
use Rattle.rb_core_model.specs.Refused.{IsRefusal}
use Rattle.rb_core_model.specs.Standing.{path_view}
use Rattle.rb_core.proofs.Unjudged.{known_after}
use Rattle.rb_core.proofs.follower.Follower.path_view.Goals as goal

pub returns-clause-view : goal.returns-clause-view
returns-clause-view g c =
    let state = known_after _ c.args.self.now c.self.view_is c.requires in
    subst (λ (s : State). IfOk c.path_view.result (λ view. path_view s.standing c.args.path ≡ Some view)) state c.path_view.ensures.view

pub returns-clause-refused : goal.returns-clause-refused
returns-clause-refused g c =
    let state = known_after _ c.args.self.now c.self.view_is c.requires in
    subst (λ (s : State). IfErr c.path_view.result (λ e. IsRefusal e (path_view_refusal s c.args.path))) state c.path_view.ensures.refused
