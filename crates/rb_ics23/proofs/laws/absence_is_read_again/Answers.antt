use Rattle.rb_ics23.proofs.Again.{absence-written}
use Rattle.rb_ics23.proofs.laws.absence_is_read_again.Goals as goal

pub returns : goal.returns
returns c = absence-written
