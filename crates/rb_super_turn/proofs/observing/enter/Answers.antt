use Rattle.std.proofs.Common.{is_some, ap, ◌∙◌}
use Rattle.rb_super_turn.specs.Phases.{standing_in}
use Rattle.rb_super_turn.proofs.Steps.{goes_back_told}
use Rattle.rb_super_turn.proofs.observing.enter.Goals as goal

pub returns-clause-back : goal.returns-clause-back
returns-clause-back g c =
    c.is_some.ensures ∙ ap (λ o. is_some o) c.in_ok-refusal.ensures.judged ∙ goes_back_told (standing_in c.args.relayer.now) c.args.window
