use Rattle.rb_script_read.proofs.Early.{early_scripts_wait_not}
use Rattle.rb_script_read.proofs.laws.early_scripts_wait_not.Goals as goal

pub returns : goal.returns
returns c = early_scripts_wait_not
