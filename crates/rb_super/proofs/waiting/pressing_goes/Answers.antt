use Rattle.rb_super.proofs.Pressing.{pressing_goes}
use Rattle.rb_super.proofs.waiting.pressing_goes.Goals as goal

pub returns : goal.returns
returns c = pressing_goes c.pressing_goes.ensures c.refresh_is_in_reach.ensures c.all_go_along.ensures
