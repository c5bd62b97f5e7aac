use Rattle.std.proofs.Common.{rules}
use Rattle.rb_core_model.proofs.Steps.{replies}
use Rattle.rb_super_turn.proofs.machine.append_accepted.Goals as goal

pub returns-clause-reply : goal.returns-clause-reply
returns-clause-reply g c =
    replies _ c.judge_accepted.new.self.config c.args.core.now.config c.judge_accepted.new.self.log c.args.core.now.log c.in_ok-ready.ready.event _
    c.settle.ensures.reply (search rules) (search rules) (search rules)
