use Rattle.rb_super.proofs.Alive.{follow_the_rule}
use Rattle.rb_super.proofs.waiting.turns_follow_the_rule.Goals as goal

pub returns : goal.returns
returns c = follow_the_rule c.stays_a_book.ensures c.refresh_is_in_reach.ensures c.planned_views_are_views.ensures
