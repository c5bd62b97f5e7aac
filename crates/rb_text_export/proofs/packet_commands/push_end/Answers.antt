use Rattle.std.proofs.Common.{refl}
use Rattle.rb_text_export.proofs.Added.{pushed3_ok}
use Rattle.rb_text_export.specs.Commands.{end_text}
use Rattle.rb_text_export.proofs.packet_commands.push_end.Goals as goal

pub returns : goal.returns
unfolding end_text
returns c = pushed3_ok _ _ _ _ _ _ _ _ _ c.push_str.ensures.bytes c.in_ok-push_option-2.ensures c.in_ok-push_option.ensures refl
