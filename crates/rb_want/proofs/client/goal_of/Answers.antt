use Rattle.std.proofs.Common.{◌≡◌, List, [], subst, sym}
use Rattle.std.specs.List.{filter_map}
use Rattle.std.proofs.lemmas.List.{take_all}
use Rattle.rb_script_types.specs.declared.script.Asked.{Asked}
use Rattle.rb_want.specs.Needs.{goal_if}
use Rattle.rb_want.proofs.Firsts.{goal_missing}
use Rattle.rb_want.proofs.client.goal_of.Goals as goal

-- none of all goals is of the client
pub returns : goal.returns
returns c =
    let all = take_all c.loop-asked.asked-index c.args.goals.now c.loop-asked-test.false in
    sym (goal_missing c.args.place c.args.goals.now (subst (λ (l : List Asked). filter_map (goal_if c.args.place) l ≡ []) all c.loop-asked.invariant))
