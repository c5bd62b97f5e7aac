use Rattle.rb_import_check.specs.declared.saved.Saved.{Saved}
use Rattle.rb_import_merge.specs.Pending.{committed_in}
use Rattle.rb_import_merge.proofs.Sequencing.{sorted_are}
use Rattle.rb_import_merge.proofs.sequences.pending_packets.Goals as goal

pub invariant_of-pending : goal.invariant_of-pending
invariant_of-pending c = record {
  told = c.tell_commitments.ensures;
  those = sorted_are (λ (s : Saved). committed_in s.answer) c.args.answers.now c.in_ok-all.all.items c.in_order.result.sorted.items c.in_ok-all.ensures c.in_order.ensures;
}
