use Rattle.rb_super.proofs.Nexts.{next_is_next}
use Rattle.rb_super.proofs.waiting.next_is_next.Goals as goal

pub returns : goal.returns
returns c = next_is_next c.next_is_next.ensures c.next_refresh.ensures c.refresh_is_in_reach.ensures
