use Rattle.std.proofs.Common.{◌≡◌, Some, subst}
use Rattle.std.specs.Arc.{arc_value}
use Rattle.std.specs.Option.{option_map}
use Rattle.rb_script_types.specs.Config.{config_view}
use Rattle.rb_core.specs.State.{start_of}
use Rattle.rb_core_model.specs.Entry.{log_from}
use Rattle.rb_core_model.specs.Machine.{State, client_view}
use Rattle.rb_core.proofs.machine.Core.client_view.Goals as goal

pub client_view-requires : goal.client_view-requires
client_view-requires g c = λ job is.
    let config = config_view c.self.inside.config in
    let state = c.self.invariant in
    c.client_views_are_views.ensures config (log_from config (start_of (option_map arc_value c.self.inside.begun)) c.self.inside.log.items) state.set_up state.begun state.events c.args.client job
    (subst (λ (s : State). client_view s c.args.client ≡ Some job) state.state is)
