use Rattle.std.proofs.Common.{◌≡◌, Some, subst}
use Rattle.std.specs.Prelude.{IfOk, IfErr}
use Rattle.rb_core.specs.Follower.{log_in, state_after}
use Rattle.rb_core.specs.State.{state_view}
use Rattle.rb_core_model.specs.Machine.{State, client_view, client_view_refusal}
use Rattle.rb_core_model.specs.Refused.{IsRefusal}
use Rattle.rb_core.proofs.Unjudged.{known_after}
use Rattle.rb_core.proofs.follower.Follower.client_view.Goals as goal

pub client_view-requires : goal.client_view-requires
client_view-requires g c = λ job is.
    let seen = c.args.self.now in
    let state : state_view c.self.inside.state ≡ state_after seen.past = known_after _ seen c.self.view_is c.requires in
    c.client_views_are_views.ensures seen.past.config (log_in seen.past) c.requires.set_up c.requires.begun c.requires.events c.args.client job
    (subst (λ (s : State). client_view s c.args.client ≡ Some job) state is)

pub returns-clause-view : goal.returns-clause-view
returns-clause-view g c =
    let state = known_after _ c.args.self.now c.self.view_is c.requires in
    subst (λ (s : State). IfOk c.client_view.result (λ view. client_view s c.args.client ≡ Some view)) state c.client_view.ensures.view

pub returns-clause-refused : goal.returns-clause-refused
returns-clause-refused g c =
    let state = known_after _ c.args.self.now c.self.view_is c.requires in
    subst (λ (s : State). IfErr c.client_view.result (λ e. IsRefusal e (client_view_refusal s c.args.client))) state c.client_view.ensures.refused
