use Rattle.std.proofs.Common.{◌∙◌}
use Rattle.rb_script_toml.proofs.IdentifierLemmas.{is_some-is_identifier}
use Rattle.rb_script_toml.proofs.field.is_identifier.Goals as goal

pub returns : goal.returns
returns c = c.is_some.ensures ∙ is_some-is_identifier c.args.text.now c.new.result c.new.ensures
