use Rattle.std.proofs.Common.{◌≡◌, ◌∷◌, ◌<◌, [], None, sym, ap, ◌∙◌, subst, arith}
use Rattle.std.specs.Arc.{arc_value}
use Rattle.std.specs.Option.{option_map}
use Rattle.rb_script_types.specs.Config.{config_view}
use Rattle.rb_core.specs.Core.{Core, Room, state_in}
use Rattle.rb_core_model.specs.Entry.{log_from}
use Rattle.rb_core_model.specs.Invariant.{HasInvariant}
use Rattle.rb_core.specs.State.{start_of, state_view}
use Rattle.rb_core_model.specs.Snapshot.{followed_by}
use Rattle.rb_core_model.specs.Machine.{State, refusal_of, reply_of}
use Rattle.rb_core.proofs.Entries.{settled}
use Rattle.rb_core_model.proofs.Keeping.{kept_of_events}
use Rattle.rb_core.proofs.Rooms.{has_room}
use Rattle.rb_core.proofs.machine.Core.settle.Goals as goal

pub take_in-requires-clause-kept : goal.take_in-requires-clause-kept
take_in-requires-clause-kept g c =
    let config = config_view c.self.inside.config in
    subst (λ (s : State). HasInvariant s) (sym c.self.invariant.state) (kept_of_events config (log_from config (start_of (option_map arc_value c.self.inside.begun)) c.self.inside.log.items) c.self.invariant.set_up c.self.invariant.begun)

pub take_in-requires-clause-accepted : goal.take_in-requires-clause-accepted
take_in-requires-clause-accepted g c =
    ap (λ (s : State). refusal_of s c.args.ready.event) (c.self.invariant.state ∙ ap state_in c.self.view_is) ∙ c.requires.accepted

pub take_in-requires-clause-room : goal.take_in-requires-clause-room
take_in-requires-clause-room g c =
    has_room c.args.self.now _ c.self.inside.state c.args.ready.event (ap (λ (x : Core). x.room) (sym c.self.view_is))
    (c.self.invariant.state ∙ ap state_in c.self.view_is) c.requires.own_room

pub take_in-requires-clause-log_room : goal.take_in-requires-clause-log_room
take_in-requires-clause-log_room g c =
    let left = subst (λ (x : Room). 0 < x.log) (ap (λ (x : Core). x.room) (sym c.self.view_is)) c.requires.log_room in
    omega (arith, left)

pub invariant_of-self : goal.invariant_of-self
invariant_of-self g c =
    let inside = c.self.inside in
    let taken = c.take_in.ensures in
    let accepted : refusal_of (state_view inside.state) c.args.ready.event ≡ None =
    ap (λ (s : State). refusal_of s c.args.ready.event) (c.self.invariant.state ∙ ap state_in c.self.view_is) ∙ c.requires.accepted in
    (settled (config_view inside.config) (start_of (option_map arc_value inside.begun)) (state_view inside.state) (state_view c.take_in.new.state) inside.log.items c.take_in.new.log.items c.args.ready.event
    c.self.invariant accepted taken.rules taken.state taken.log).1

pub returns-clause-log : goal.returns-clause-log
returns-clause-log g c =
    let inside = c.self.inside in
    let taken = c.take_in.ensures in
    let accepted : refusal_of (state_view inside.state) c.args.ready.event ≡ None =
    ap (λ (s : State). refusal_of s c.args.ready.event) (c.self.invariant.state ∙ ap state_in c.self.view_is) ∙ c.requires.accepted in
    (settled (config_view inside.config) (start_of (option_map arc_value inside.begun)) (state_view inside.state) (state_view c.take_in.new.state) inside.log.items c.take_in.new.log.items c.args.ready.event
    c.self.invariant accepted taken.rules taken.state taken.log).0
    ∙ ap (λ (x : Core). followed_by x.log (c.args.ready.event ∷ [])) c.self.view_is

pub returns-clause-reply : goal.returns-clause-reply
returns-clause-reply g c =
    c.take_in.ensures.reply ∙ ap (λ (s : State). reply_of s c.args.ready.event) (c.self.invariant.state ∙ ap state_in c.self.view_is)
