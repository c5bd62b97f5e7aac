use Rattle.std.proofs.Common.{◌∙◌, ap, subst}
use Rattle.rb_want.specs.Clients.{AreSetsThere, status_in}
use Rattle.rb_want.proofs.chain.ChainAnswers.of.Goals as goal

pub invariant_of-result-clause-told : goal.invariant_of-result-clause-told
invariant_of-result-clause-told c = c.status_in.ensures ∙ ap status_in c.as_slice-contents.ensures.value

pub invariant_of-result-clause-made : goal.invariant_of-result-clause-made
invariant_of-result-clause-made c =
    subst (λ l. AreSetsThere l c.in_ok-sets_in.field-0.sets.items) c.as_slice-contents.ensures.value c.in_ok-sets_in.ensures
