use Rattle.std.proofs.Common.{ap, sym, ◌∙◌}
use Rattle.rb_import_answers.specs.Answers.{answer_view}
use Rattle.ibcplan_folders.specs.Folders.{kept}
use Rattle.ibcplan_folders.proofs.Grouped.{answer_by}
use Rattle.ibcplan_folders.proofs.reading.answer_in.Goals as goal

pub returns-in-Kept-clause-answer : goal.returns-in-Kept-clause-answer
returns-in-Kept-clause-answer c =
    let saved = c.in_ok-saved.saved in
    answer_by c.args.reading.votes c.args.reading.since c.args.reading.is_judged c.args.file.now.name.now c.args.file.now.bytes.items c.as_slice-bytes.result.now (answer_view saved.answer) saved
    c.as_slice-bytes.ensures.value c.in_ok-saved.ensures.answer (ap (λ v. kept v (answer_view saved.answer)) (sym c.in-Kept.is)) c.in_ok-saved.ensures.digest

pub returns-in-LeftOut-clause-answer : goal.returns-in-LeftOut-clause-answer
returns-in-LeftOut-clause-answer c =
    let saved = c.in_ok-saved.saved in
    answer_by c.args.reading.votes c.args.reading.since c.args.reading.is_judged c.args.file.now.name.now c.args.file.now.bytes.items c.as_slice-bytes.result.now (answer_view saved.answer) c.without_votes.result
    c.as_slice-bytes.ensures.value c.in_ok-saved.ensures.answer (c.without_votes.ensures.answer ∙ ap (λ v. kept v (answer_view saved.answer)) (sym c.in-LeftOut.is))
    (λ has is. c.without_votes.ensures.digest ∙ c.in_ok-saved.ensures.digest has is)
