use Rattle.std.proofs.Common.{append_assoc}
use Rattle.rb_packets.proofs.stored.hash_timeouts.Goals as goal

pub returns : goal.returns
returns g c = λ m h. rw append_assoc at (c.hash_height.ensures _ (c.hash_number.ensures m h))
