use Rattle.rb_super.proofs.SameReports
use Rattle.rb_super.proofs.forgetting.forgetting_by_floors_is_unseen.Goals as goal

pub returns : goal.returns
returns c = SameReports.unseen_by_floors c.finds_what_was_added.ensures c.stays_a_book.ensures c.views_are_orderly.ensures c.judged_by_standing.ensures
