use Rattle.rb_scan.proofs.Runs.{run-messages, first-messages}
use Rattle.rb_scan.proofs.scan.run.Goals as goal

pub returns-in-Receive : goal.returns-in-Receive
returns-in-Receive g c =
    rw (c.owed_count.ensures.value, c.waiting-waiting.ensures.packets) (run-messages c.args.view.now c.args.kind c.waiting-waiting.ensures.path c.in-Receive.is)

pub returns-in-Timeout : goal.returns-in-Timeout
returns-in-Timeout g c =
    rw (c.min.ensures, c.waiting-waiting.ensures.packets) (first-messages c.args.view.now c.args.kind c.waiting-waiting.ensures.path c.in-Timeout.is)
