use Rattle.std.proofs.Common.{rules}
use Rattle.rb_plan_client.specs.Same.{same_path_task-Decides}
use Rattle.rb_plan_client.proofs.task.PathTaskPartialEq.eq.Goals as goal

pub returns-clause-equal : goal.returns-clause-equal
returns-clause-equal g c =
    let decides = same_path_task-Decides c.args.self.now c.args.other.now in
    search (rules, decides)
