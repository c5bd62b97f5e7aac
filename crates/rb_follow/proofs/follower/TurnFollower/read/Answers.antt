use Rattle.rb_follow.proofs.follower.TurnFollower.read.Goals as goal

pub read_next-requires : goal.read_next-requires
read_next-requires g c = c.args.self.now.few_events
