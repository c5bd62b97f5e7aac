use Rattle.std.proofs.Common.{List, ℕ, subst, ◌∙◌}
use Rattle.ibcplan_folders.specs.Fleets.{AreTold, ChainHas}
use Rattle.ibcplan_folders.specs.Leavings.{OrFailed, failed}
use Rattle.rb_messages.proofs.Zipped.{placed_all}
use Rattle.ibcplan_folders.proofs.Leaving.{chains_more}
use Rattle.ibcplan_folders.proofs.importing.chain_answers.Goals as goal

pub loop-place-preserved : goal.loop-place-preserved
loop-place-preserved g c =
    let told = AreTold (g.F.AnswerFolders.known c.args.files.now) in
    let saved = c.in_ok-saved.saved in
    let refused = failed c.needed_answers.new.failures.items in
    chains_more told c.args.setup.now.clients.items c.args.chains.now c.loop-place.place c.index-chains-place.result c.loop-place.answers.items c.add.new.items.items saved
    (failed c.loop-place.failures.items) refused c.in_ok-add.ensures c.loop-place-test.true c.index-chains-place.is c.in_ok-saved.ensures.more
    (λ yes. subst (λ (id : List ℕ). OrFailed told refused 0 id saved) c.as_str.ensures.text (c.in_ok-saved.ensures.told (c.is_tracked-is_needed.ensures ∙ yes)))
    c.loop-place.invariant

pub returns : goal.returns
returns g c =
    let told = AreTold (g.F.AnswerFolders.known c.args.files.now) in
    placed_all (ChainHas (OrFailed told (failed c.loop-place.failures.items)) c.args.setup.now.clients.items) c.args.chains.now c.loop-place.place c.loop-place.answers.items
    c.loop-place-test.false c.loop-place.invariant
