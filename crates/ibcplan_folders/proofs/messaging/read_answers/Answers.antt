use Rattle.ibcplan_folders.specs.Folders.{AreAnswersIn}
use Rattle.ibcplan_folders.specs.Messages.{AreAnswersAt}
use Rattle.ibcplan_folders.specs.declared.reading.Votes.TheVariants.{Kept}
use Rattle.ibcplan_folders.proofs.Known.{known_places, known_placed, needed_at}
use Rattle.ibcplan_folders.proofs.messaging.read_answers.Goals as goal

pub loop-place-preserved : goal.loop-place-preserved
loop-place-preserved g c =
    let known = g.F.AnswerFolders.known c.args.files.now in
    known_placed known (λ files. AreAnswersAt files c.args.updates.now) c.args.chains.now c.loop-place.place c.index-chains-place.result
    c.loop-place.answers.items c.add.new.items.items c.in_ok-one.one c.in_ok-add.ensures c.loop-place-test.true c.index-chains-place.is
    (needed_at known (λ files id. AreAnswersIn Kept 0 id files c.in_ok-one.one.items) c.is_updated-is_needed.ensures c.as_str.ensures.text c.in_ok-one.ensures) c.loop-place.invariant

pub returns : goal.returns
returns g c =
    known_places (g.F.AnswerFolders.known c.args.files.now) (λ files. AreAnswersAt files c.args.updates.now) c.args.chains.now c.loop-place.place
    c.loop-place.answers.items c.loop-place-test.false c.loop-place.invariant
