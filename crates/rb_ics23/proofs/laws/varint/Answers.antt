use Rattle.rb_ics23.proofs.Varints.{varint_is}
use Rattle.rb_ics23.proofs.laws.varint.Goals as goal

pub returns : goal.returns
returns c = varint_is
