use Rattle.std.proofs.Common.{rules}
use Rattle.std.proofs.lemmas.List.Sorted.{answers_always}
use Rattle.rb_core.specs.Order.{comes_before}
use Rattle.rb_core.proofs.Apart.{apart_from_neighbours}
use Rattle.rb_core.proofs.fitting.are_rising.Goals as goal

pub returns : goal.returns
returns c = apart_from_neighbours c.args.messages.now c.is_sorted_by.result (c.is_sorted_by.ensures.cases comes_before (answers_always _ _ _ (λ f a r q h. search rules)))
