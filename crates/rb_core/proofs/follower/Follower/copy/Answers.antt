use Rattle.std.proofs.Common.{sym, ◌∙◌, subst}
use Rattle.rb_core.specs.State.{start_of}
use Rattle.rb_core_model.specs.Invariant.{HasInvariant}
use Rattle.rb_core.proofs.follower.Follower.copy.Goals as goal

pub invariant_of-result : goal.invariant_of-result
invariant_of-result g c = subst HasInvariant (sym c.in_ok-copy_state.ensures) c.self.invariant

pub returns : goal.returns
returns g c =
    let entries = c.in_ok-share_entries.ensures ∙ c.as_slice.ensures.value in
    (λ i. record { past = record { config = c.in_ok-copy.ensures i; start = start_of (c.in_ok-share_begun.ensures i); entries = entries i }; state = c.in_ok-copy_state.ensures i }) ∙ c.self.view_is
