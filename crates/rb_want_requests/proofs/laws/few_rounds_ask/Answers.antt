use Rattle.rb_want_requests.proofs.Totals.{few_rounds}
use Rattle.rb_want_requests.proofs.laws.few_rounds_ask.Goals as goal

pub returns : goal.returns
returns c = few_rounds
