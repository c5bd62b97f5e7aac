use Rattle.rb_ics23.proofs.varint.+hash_varint.Given as goal

abbrev pub decreases-hash_varint : goal.decreases-hash_varint
decreases-hash_varint g l = l.number
