use Rattle.rb_core_state.proofs.client.ClientState.store.Goals as goal

pub invariant_of-self : goal.invariant_of-self
invariant_of-self g c = c.put_height.ensures.rising
