use Rattle.std.proofs.Common.{refl}
use Rattle.rb_text_export.proofs.Added.{added3_ok}
use Rattle.rb_text_export.specs.Commands.{command_text}
use Rattle.rb_text_export.proofs.packet_commands.push_command.Goals as goal

pub returns : goal.returns
unfolding command_text
returns c = added3_ok _ _ _ _ _ _ _ _ _ c.push_end.ensures c.in_ok-push_option-2.ensures c.in_ok-push_option.ensures refl
