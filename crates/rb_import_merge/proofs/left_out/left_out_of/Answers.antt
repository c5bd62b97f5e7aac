use Rattle.rb_import_merge.proofs.Leaving.{are_left_out}
use Rattle.rb_import_merge.proofs.Lowering.{rises}
use Rattle.rb_import_merge.proofs.Telling.{was_same}
use Rattle.rb_import_merge.proofs.left_out.left_out_of.Goals as goal

pub invariant_of-told : goal.invariant_of-told
invariant_of-told c = record {
  order = rises c.args.events.now c.requires.order;
  those = λ kind n. was_same c.args.setup.now c.args.answers.now c.args.events.now kind n c.requires.those;
  receipts = c.tell_receipts.ensures;
  pending = c.tell_pending.ensures;
  missing = c.in_ok-unreceived.ensures;
}

pub returns : goal.returns
returns c =
    are_left_out c.args.setup.now c.args.answers.now c.args.events.now c.add_of_commitments.new.lacking.items c.in_ok-rising.rising.items c.first_if_ordered.result.items c.requires.those
    (c.in_ok-add_of_commitments.ensures.reasons c.in_ok-lacking.ensures.reasons) (λ k d small shown. c.in_ok-add_of_commitments.ensures.kept _ (c.in_ok-lacking.ensures.all k d small shown))
    c.in_ok-add_of_commitments.ensures.all c.in_ok-rising.ensures.among c.in_ok-rising.ensures.all c.in_ok-rising.ensures.rising c.first_if_ordered.ensures
