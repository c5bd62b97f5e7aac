use Rattle.std.proofs.Common.{◌≡◌, drop}
use Rattle.rb_script_read.specs.Work.{after_clients, work_view}
use Rattle.rb_script_read.proofs.work.Work.count_clients.Given as goal

-- what is left is counted after what was counted
abbrev pub invariant-loop-client : goal.invariant-loop-client
invariant-loop-client l = after_clients (work_view l.self) (drop l.client-index l.clients) ≡ after_clients (work_view l.fn.self) l.clients
