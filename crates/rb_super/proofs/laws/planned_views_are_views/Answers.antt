use Rattle.rb_super.proofs.Viewed.{planned_views}
use Rattle.rb_super.proofs.laws.planned_views_are_views.Goals as goal

pub returns : goal.returns
returns c = planned_views c.finds_what_was_added.ensures c.stays_a_book.ensures c.views_are_orderly.ensures c.judged_by_standing.ensures
