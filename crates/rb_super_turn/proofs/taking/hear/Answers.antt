use Rattle.std.proofs.Common.{◌∙◌}
use Rattle.rb_core_model.specs.Seen.{event_view}
use Rattle.rb_super_turn.proofs.Steps.{by_standing}
use Rattle.rb_super_turn.proofs.taking.hear.Goals as goal

pub returns-clause-judged : goal.returns-clause-judged
returns-clause-judged g c =
    c.in_ok-refusal.ensures.judged
    ∙ (by_standing c.args.relayer.now c.take_in.new.relayer (event_view c.args.event) c.requires.outside c.requires.known c.requires.room c.in_ok-refusal.ensures.state).0

pub returns-clause-standing : goal.returns-clause-standing
returns-clause-standing g c =
    (by_standing c.args.relayer.now c.take_in.new.relayer (event_view c.args.event) c.requires.outside c.requires.known c.requires.room c.in_ok-refusal.ensures.state).1
