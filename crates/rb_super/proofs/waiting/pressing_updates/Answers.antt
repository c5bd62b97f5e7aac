use Rattle.rb_super.proofs.Updates.{pressing_updates}
use Rattle.rb_super.proofs.waiting.pressing_updates.Goals as goal

pub returns : goal.returns
returns c = pressing_updates c.refresh_is_in_reach.ensures
