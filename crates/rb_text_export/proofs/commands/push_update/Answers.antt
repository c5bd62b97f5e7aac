use Rattle.std.proofs.Common.{refl}
use Rattle.rb_text_export.proofs.Added.{added3_ok}
use Rattle.rb_text_export.specs.Commands.{update_line}
use Rattle.rb_text_export.proofs.commands.push_update.Goals as goal

pub returns : goal.returns
unfolding update_line
returns c = added3_ok _ _ _ _ _ _ _ _ _ c.push_heights.ensures c.in_ok-push_option-2.ensures c.in_ok-push_option.ensures refl
