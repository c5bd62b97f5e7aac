use Rattle.std.proofs.Common.{ap, ◌∙◌, subst, length, All}
use Rattle.rb_script_types.specs.Config.{config_view}
use Rattle.rb_core.specs.Core.{Core, state_in}
use Rattle.rb_core_model.specs.Entry.{log_from}
use Rattle.rb_core_model.specs.Event.{IsEvent}
use Rattle.std.specs.Arc.{arc_value}
use Rattle.std.specs.Option.{option_map}
use Rattle.rb_core.specs.State.{start_of, state_view}
use Rattle.rb_core_model.specs.Begun.{IsBegun}
use Rattle.rb_core_model.specs.Log.{IsLog}
use Rattle.rb_core_model.specs.Machine.{State}
use Rattle.rb_core.proofs.Rooms.{long}
use Rattle.rb_core.proofs.machine.Core.front.Goals as goal

pub returns : goal.returns
returns g c =
    let inside = c.self.inside in
    let config = config_view inside.config in
    let log = log_from config (start_of (option_map arc_value inside.begun)) inside.log.items in
    record {
      count = long config log (state_view inside.state) c.self.invariant ∙ ap (λ (x : Core). length x.log.events) c.self.view_is;
      state = ap (λ (s : State). s.front) (c.self.invariant.state ∙ ap state_in c.self.view_is);
      begun = subst (λ (x : Core). IsBegun x.config x.log.start) c.self.view_is c.self.invariant.begun;
      events = subst (λ (x : Core). All IsEvent x.log.events) c.self.view_is c.self.invariant.events;
      accepted = subst (λ (x : Core). IsLog x.config x.log) c.self.view_is c.self.invariant.accepted;
    }
