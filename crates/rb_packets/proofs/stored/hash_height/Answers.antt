use Rattle.std.proofs.Common.{append_assoc}
use Rattle.rb_packets.proofs.stored.hash_height.Goals as goal

pub returns : goal.returns
returns g c = λ m h. rw append_assoc at (c.hash_number-2.ensures _ (c.hash_number.ensures m h))
