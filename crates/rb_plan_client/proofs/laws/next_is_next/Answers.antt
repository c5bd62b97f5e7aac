use Rattle.rb_plan_client.proofs.Nexts.{next_is_next}
use Rattle.rb_plan_client.proofs.laws.next_is_next.Goals as goal

pub returns : goal.returns
returns c = next_is_next
