use Rattle.rb_script_text.proofs.Clocks.{moments_are_read}
use Rattle.rb_script_text.proofs.moment.moments_are_read.Goals as goal

pub returns : goal.returns
returns c = moments_are_read
