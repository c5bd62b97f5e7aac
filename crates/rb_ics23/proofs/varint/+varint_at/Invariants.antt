use Rattle.rb_ics23.proofs.varint.+varint_at.Given as goal

abbrev pub decreases-varint_at : goal.decreases-varint_at
decreases-varint_at l = l.digits
