use Rattle.rb_super.proofs.Cases.{alone_clients, alone_refused, worker_clients, worker_drafts}
use Rattle.rb_super.proofs.laws.examples.Goals as goal

pub returns : goal.returns
returns c = record { alone_clients = alone_clients; alone_refused = alone_refused; worker_clients = worker_clients; worker_drafts = worker_drafts }
