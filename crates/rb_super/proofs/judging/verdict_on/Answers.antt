use Rattle.std.proofs.Common.{None, refl}
use Rattle.rb_super_turn.proofs.Judged.{held_there, held_alone}
use Rattle.rb_super.proofs.judging.verdict_on.Goals as goal

pub returns-in-Some-clause-judged : goal.returns-in-Some-clause-judged
returns-in-Some-clause-judged g c =
    let x = held_there c.args.relayer.now c.args.client _ c.requires.client c.requires.ready c.in-Some.ensures in
    record { known = x.0; task = x.1; is = x.2; goal = None; is_planned = x.3; judged = refl }

pub returns-in-Some-clause-accepts : goal.returns-in-Some-clause-accepts
returns-in-Some-clause-accepts g c = λ own.
    absurd (held_alone c.args.relayer.now c.args.client _ c.requires.client c.requires.ready c.in-Some.ensures own.known own.task own.goal own.is own.is_planned)
