use Rattle.std.proofs.Common.{◌∙◌, ap}
use Rattle.std.specs.List.{list_any}
use Rattle.rb_want.specs.Clients.{is_other_client, state_in}
use Rattle.rb_want.proofs.records.ClientAnswers.of.Goals as goal

pub invariant_of-result-clause-judging : goal.invariant_of-result-clause-judging
invariant_of-result-clause-judging c = c.state_in.ensures ∙ ap state_in c.as_slice-contents.ensures.value

pub invariant_of-result-clause-other : goal.invariant_of-result-clause-other
invariant_of-result-clause-other c = c.has_other.ensures ∙ ap (list_any is_other_client) c.as_slice-contents.ensures.value

pub invariant_of-result-clause-rising : goal.invariant_of-result-clause-rising
invariant_of-result-clause-rising c = c.in_ok-sorted.ensures.order
