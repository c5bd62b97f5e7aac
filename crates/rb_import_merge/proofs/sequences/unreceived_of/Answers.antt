use Rattle.rb_import_check.specs.declared.saved.Saved.{Saved}
use Rattle.rb_import_merge.specs.Pending.{unreceived_in}
use Rattle.rb_import_merge.proofs.Sequencing.{sorted_are}
use Rattle.rb_import_merge.proofs.sequences.unreceived_of.Goals as goal

pub returns : goal.returns
returns c = sorted_are (λ (s : Saved). unreceived_in s.answer) c.args.answers.now c.in_ok-all.all.items c.in_order.result.sorted.items c.in_ok-all.ensures c.in_order.ensures
