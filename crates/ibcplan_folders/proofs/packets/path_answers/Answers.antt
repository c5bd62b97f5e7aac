use Rattle.std.proofs.Common.{List, ℕ, subst}
use Rattle.rb_messages.proofs.Zipped.{zipped_all}
use Rattle.ibcplan_folders.specs.Packets.{WereRead, WereReadOf}
use Rattle.ibcplan_folders.proofs.Told.{beside_more}
use Rattle.ibcplan_folders.proofs.packets.path_answers.Goals as goal

pub loop-place-preserved : goal.loop-place-preserved
loop-place-preserved g c =
    let known = g.F.AnswerFolders.known c.args.files.now in
    beside_more (WereReadOf known) c.args.paths.now c.loop-place.place c.index-paths-place.result
    c.loop-place.answers.items c.add.new.items.items c.in_ok-told.told c.in_ok-add.ensures c.loop-place-test.true c.index-paths-place.is
    (subst (λ (id : List ℕ). WereRead known id c.in_ok-told.told) c.as_str.ensures.text c.in_ok-told.ensures) c.loop-place.invariant

pub returns : goal.returns
returns g c =
    zipped_all (WereReadOf (g.F.AnswerFolders.known c.args.files.now)) c.args.paths.now c.loop-place.place c.loop-place.answers.items c.loop-place-test.false c.loop-place.invariant
