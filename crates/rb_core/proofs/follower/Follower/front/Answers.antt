use Rattle.rb_core.proofs.Unjudged.{as_many}
use Rattle.rb_core.proofs.follower.Follower.front.Goals as goal

pub returns : goal.returns
returns g c = as_many _ c.args.self.now c.self.view_is c.requires
