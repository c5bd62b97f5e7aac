use Rattle.rb_super.proofs.Watched.{seen_fewest, seen_punctual}
use Rattle.rb_super.proofs.waiting.seen_is_fewest.Goals as goal

pub returns : goal.returns
returns c = record { fewest = seen_fewest; punctual = seen_punctual }
