use Rattle.std.proofs.Common.{rules, append_assoc}
use Rattle.rb_script_toml.proofs.key_path.element_path.Goals as goal

pub returns : goal.returns
returns c = search (rules, append_assoc)
