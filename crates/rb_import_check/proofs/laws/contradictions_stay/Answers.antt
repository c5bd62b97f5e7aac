use Rattle.rb_import_check.proofs.Staying.{contradictions_stay}
use Rattle.rb_import_check.proofs.laws.contradictions_stay.Goals as goal

pub returns : goal.returns
returns c = contradictions_stay
