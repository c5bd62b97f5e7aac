use Rattle.rb_ics23.proofs.Varints.{varint_at-varint}
use Rattle.rb_ics23.proofs.laws.varint_is_read_again.Goals as goal

pub returns : goal.returns
returns c = varint_at-varint
