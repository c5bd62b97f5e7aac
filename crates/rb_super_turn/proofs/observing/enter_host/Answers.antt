use Rattle.std.proofs.Common.{is_some, ap, ◌∙◌}
use Rattle.rb_super_turn.proofs.Steps.{chain_there}
use Rattle.rb_super_turn.proofs.observing.enter_host.Goals as goal

pub hear-requires-clause-known : goal.hear-requires-clause-known
hear-requires-clause-known g c = chain_there c.args.relayer.now c.args.window.host c.requires.host

pub returns-clause-back : goal.returns-clause-back
returns-clause-back g c = c.is_some.ensures ∙ ap (λ o. is_some o) c.in_ok-refused.ensures.judged
