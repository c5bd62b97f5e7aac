use Rattle.std.proofs.Common.{◌∙◌}
use Rattle.rb_follow.proofs.follower.TurnFollower.paths.Goals as goal

pub returns : goal.returns
returns g c = c.as_slice.ensures.value ∙ c.args.self.now.ids
