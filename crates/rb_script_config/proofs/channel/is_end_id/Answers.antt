use Rattle.std.proofs.Common.{◌∙◌}
use Rattle.rb_script_config.proofs.EndIds.{is_some-is_end_id}
use Rattle.rb_script_config.proofs.channel.is_end_id.Goals as goal

pub returns : goal.returns
returns c = c.is_some.ensures ∙ is_some-is_end_id c.args.text.now c.new.result c.new.ensures
