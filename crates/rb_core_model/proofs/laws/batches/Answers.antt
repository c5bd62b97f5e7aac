use Rattle.rb_core_model.proofs.laws.batches.Goals as goal

pub returns : goal.returns
returns c = record {
  right = c.batches_are_right.ensures;
  one = c.messages_are_in_one_batch.ensures;
  once = c.messages_stand_once.ensures;
  settled = c.settled_messages_are_gone.ensures;
}
