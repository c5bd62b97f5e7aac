use Rattle.std.proofs.Common.{List, map, All, ap, ◌∙◌, subst}
use Rattle.std.proofs.lemmas.Result.{err_from_is_err_and}
use Rattle.rb_base.specs.Fee.{IsFeeTable}
use Rattle.rb_script_types.specs.Config.{Config}
use Rattle.rb_script_types.specs.declared.config.ClientConfig.{ClientConfig}
use Rattle.rb_script_types.specs.declared.config.PathConfig.{PathConfig}
use Rattle.rb_script_config.specs.Paths.{path_ids}
use Rattle.rb_script_config.specs.Setups.{setup_view}
use Rattle.rb_core_model.specs.Config.{IsSetUp}
use Rattle.rb_script_read.specs.Turns.{reading_view}
use Rattle.rb_follow.specs.Drivers.{core_of}
use Rattle.rb_follow.proofs.Steps.{begun, begins-refused, begins_in_order}
use Rattle.rb_follow.proofs.follower.TurnFollower.new.Goals as goal

pub new-requires-clause-config : goal.new-requires-clause-config
new-requires-clause-config g c = λ ks _. c.in_ok-setup.ensures.form

pub invariant_of-result : goal.invariant_of-result
invariant_of-result g c =
    let same = c.in_ok-setup.ensures.same in
    let ids = c.in_ok-paths.ensures ∙ ap (map (λ (p : PathConfig). p.id)) c.as_slice-2.ensures.value ∙ ap (λ (k : Config). path_ids k.paths) same in
    let order = begins_in_order (setup_view c.in_ok-setup.setup) (core_of c.in_ok-driver.driver) c.in_ok-paths.paths.items (c.in_ok-driver.ensures.config ∙ same) c.in_ok-driver.ensures.log ids in
    record { config = order.config; ids = order.paths_are; few_turns = order.few_turns; front = order.front; few_events = order.few_events; few_workers = c.requires.workers }

-- the setup was refused
pub returns-in_err-setup-clause-begun : goal.returns-in_err-setup-clause-begun
returns-in_err-setup-clause-begun g c =
    let p = err_from_is_err_and c.from_residual.result c.from_residual.ensures.1 in
    rw (p.1, p.2) (begins-refused c.args.setup.now _ c.in_err-setup.ensures.setup)

pub returns-clause-begun : goal.returns-clause-begun
returns-clause-begun g c =
    begun c.args.setup.now (setup_view c.in_ok-setup.setup) (core_of c.in_ok-driver.driver) (reading_view c.opening.result) c.new-2.result.items c.in_ok-setup.ensures.setup
    (c.in_ok-driver.ensures.config ∙ c.in_ok-setup.ensures.same) c.in_ok-driver.ensures.log c.opening.ensures c.new-2.ensures.items

pub returns-clause-set_up : goal.returns-clause-set_up
returns-clause-set_up g c =
    let fees = subst (λ (xs : List ClientConfig). All (λ (client : ClientConfig). IsFeeTable client.fees) xs) c.as_slice.ensures.value c.fee_tables.ensures in
    subst IsSetUp c.in_ok-setup.ensures.same (record { rules = c.in_ok-setup.ensures.form; fees = fees })
