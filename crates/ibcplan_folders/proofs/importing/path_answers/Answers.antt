use Rattle.std.proofs.Common.{List, ℕ, subst}
use Rattle.ibcplan_folders.specs.Fleets.{AreTold}
use Rattle.ibcplan_folders.specs.Leavings.{OrFailed, failed}
use Rattle.ibcplan_folders.proofs.Leaving.{paths_all, paths_more}
use Rattle.ibcplan_folders.proofs.importing.path_answers.Goals as goal

pub loop-path-preserved : goal.loop-path-preserved
loop-path-preserved g c =
    let told = AreTold (g.F.AnswerFolders.known c.args.files.now) in
    let saved = c.in_ok-saved.saved in
    let refused = failed c.answers_of.new.failures.items in
    paths_more told c.args.paths.now c.loop-path.path-index c.path-item.result c.loop-path.answers.items c.add.new.items.items saved
    (failed c.loop-path.failures.items) refused c.in_ok-add.ensures c.loop-path-test.true c.path-item.is c.in_ok-saved.ensures.more
    (subst (λ (id : List ℕ). OrFailed told refused 0 id saved) c.as_str.ensures.text c.in_ok-saved.ensures.told)
    c.loop-path.invariant

pub returns : goal.returns
returns g c =
    let told = AreTold (g.F.AnswerFolders.known c.args.files.now) in
    paths_all (OrFailed told (failed c.loop-path.failures.items)) c.args.paths.now c.loop-path.path-index c.loop-path.answers.items
    c.loop-path-test.false c.loop-path.invariant
