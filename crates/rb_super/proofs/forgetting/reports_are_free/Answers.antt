use Rattle.rb_super.proofs.Roomy
use Rattle.rb_super.proofs.forgetting.reports_are_free.Goals as goal

pub returns : goal.returns
returns c = Roomy.reports_are_free
