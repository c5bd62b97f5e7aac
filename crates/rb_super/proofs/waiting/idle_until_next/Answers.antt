use Rattle.rb_super.proofs.Idle.{idle_until_next}
use Rattle.rb_super.proofs.waiting.idle_until_next.Goals as goal

pub returns : goal.returns
returns c = idle_until_next c.stays_a_book.ensures c.planned_views_are_views.ensures c.next_is_next.ensures
