use Rattle.std.proofs.Common.{◌≡◌, [], map, Option, IfSome, ap, subst, ◌∙◌, arith}
use Rattle.rb_core_model.specs.Snapshot.{Log}
use Rattle.rb_script_types.specs.Config.{Config, config_view}
use Rattle.rb_script_types.specs.declared.config.PathConfig.{PathConfig}
use Rattle.rb_script_config.specs.Paths.{path_ids}
use Rattle.rb_journal.specs.declared.state.State.{State}
use Rattle.rb_follow.specs.Drivers.{core_of}
use Rattle.rb_follow.proofs.Steps.{restored_front}
use Rattle.rb_follow.proofs.follower.TurnFollower.restored.Goals as goal

pub invariant_of-result-clause-config : goal.invariant_of-result-clause-config
invariant_of-result-clause-config g c =
    let read = subst (λ (found : Option State). IfSome found (λ (s : State). s.core.config ≡ config_view c.in_ok-setup.config)) c.in-Some.is c.in_ok-state.ensures.config in
    c.in_ok-driver.ensures.config ∙ read ∙ c.in_ok-setup.ensures.same

pub invariant_of-result-clause-ids : goal.invariant_of-result-clause-ids
invariant_of-result-clause-ids g c =
    c.in_ok-paths.ensures ∙ ap (map (λ (p : PathConfig). p.id)) c.as_slice.ensures.value ∙ ap (λ (k : Config). path_ids k.paths) c.in_ok-setup.ensures.same

pub invariant_of-result-clause-front : goal.invariant_of-result-clause-front
invariant_of-result-clause-front g c =
    let read = subst (λ (found : Option State). IfSome found (λ (s : State). s.core.log.events ≡ [])) c.in-Some.is c.in_ok-state.ensures.log in
    let front = restored_front (core_of c.in_ok-driver.driver) (ap (λ (l : Log). l.events) c.in_ok-driver.ensures.log ∙ read) in
    omega (arith, front)
