use Rattle.std.proofs.Common.{inl, inr}
use Rattle.rb_script_read.proofs.packet.only_sent_keys.Goals as goal

-- the same keys in the first three versions
pub returns-in-One : goal.returns-in-One
returns-in-One c = elim c.in-One.is [ inl one ↦ rw one c.only.ensures | inr later ↦ elim later [ inl two ↦ rw two c.only.ensures | inr three ↦ rw three c.only.ensures ] ]

pub returns-in-Four : goal.returns-in-Four
returns-in-Four c = rw c.in-Four.is c.only-in-Four.ensures
