use Rattle.rb_script_config.proofs.ConfigForms.{chains-alone}
use Rattle.rb_script_config.proofs.laws.first_version_shares_nothing.Goals as goal

pub returns : goal.returns
returns c = chains-alone
