use Rattle.rb_ics23.proofs.Again.{existence-written}
use Rattle.rb_ics23.proofs.laws.proof_is_read_again.Goals as goal

pub returns : goal.returns
returns c = existence-written
