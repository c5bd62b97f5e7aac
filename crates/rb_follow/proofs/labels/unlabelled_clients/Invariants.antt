use Rattle.std.proofs.Common.{◌≡◌, map}
use Rattle.rb_super_turn.specs.Views.{client_report_view}
use Rattle.rb_follow.specs.Answers.{unlabelled_client}
use Rattle.rb_follow.proofs.labels.unlabelled_clients.Given as goal

abbrev pub invariant-loop-client : goal.invariant-loop-client
invariant-loop-client l = map client_report_view l.bare.items ≡ map unlabelled_client (map client_report_view l.yielded)
