use Rattle.rb_follow.proofs.LawsLemmas.{changes_no_answer}
use Rattle.rb_follow.proofs.laws.forgetting_changes_no_answer.Goals as goal

pub returns : goal.returns
returns c =
    changes_no_answer c.answers_are_one.ensures
    (record { least = c.least_cut_is_one.ensures; division = c.cut_apart_is_division.ensures; apart = c.cut_apart_is_one.ensures })
    c.forgetting_by_floors_is_unseen.ensures
