use Rattle.std.proofs.Common.{◌≡◌, sym, ap, ◌∙◌, subst}
use Rattle.rb_script_types.specs.Config.{config_view}
use Rattle.rb_core.specs.Core.{Core}
use Rattle.rb_core.specs.Follower.{Follower, IsOfLog, log_in}
use Rattle.rb_core.specs.State.{start_of, state_view}
use Rattle.std.specs.Arc.{arc_value}
use Rattle.std.specs.Option.{option_map}
use Rattle.rb_core_model.specs.Entry.{log_from}
use Rattle.rb_core_model.specs.Invariant.{HasInvariant}
use Rattle.rb_core_model.proofs.Keeping.{kept_of_events}
use Rattle.rb_core.proofs.machine.Core.follower.Goals as goal

pub new-requires : goal.new-requires
new-requires g c =
    let inside = c.self.inside in
    let config = config_view inside.config in
    subst HasInvariant (sym (c.in_ok-copy_state.ensures ∙ c.self.invariant.state)) (kept_of_events config (log_from config (start_of (option_map arc_value inside.begun)) inside.log.items) c.self.invariant.set_up c.self.invariant.begun)

pub returns-clause-config : goal.returns-clause-config
returns-clause-config g c = ap (λ (f : Follower). f.past.config) c.new.ensures ∙ c.in_ok-copy.ensures ∙ ap (λ (x : Core). x.config) c.self.view_is

pub returns-clause-followed : goal.returns-clause-followed
returns-clause-followed g c =
    let entries = c.in_ok-share_entries.ensures ∙ c.as_slice.ensures.value in
    ap (λ (f : Follower). log_in f.past) c.new.ensures ∙ (λ i. log_from (c.in_ok-copy.ensures i) (start_of (c.in_ok-share_begun.ensures i)) (entries i)) ∙ ap (λ (x : Core). x.log) c.self.view_is

pub returns-clause-log : goal.returns-clause-log
returns-clause-log g c =
    let inside = c.self.inside in
    let entries = c.in_ok-share_entries.ensures ∙ c.as_slice.ensures.value in
    let here : Follower = record { past = record { config = config_view inside.config; start = start_of (option_map arc_value inside.begun); entries = inside.log.items }; state = state_view inside.state } in
    let same : c.new.result ≡ here = c.new.ensures ∙ (λ i. record { past = record { config = c.in_ok-copy.ensures i; start = start_of (c.in_ok-share_begun.ensures i); entries = entries i }; state = c.in_ok-copy_state.ensures i }) in
    let is : IsOfLog here = record { set_up = c.self.invariant.set_up; begun = c.self.invariant.begun; events = c.self.invariant.events; accepted = c.self.invariant.accepted; state = c.self.invariant.state } in
    subst IsOfLog (sym same) is
