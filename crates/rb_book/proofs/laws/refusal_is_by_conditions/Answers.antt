use Rattle.rb_book.proofs.Conditions as conditions
use Rattle.rb_book.proofs.laws.refusal_is_by_conditions.Goals as goal

pub returns : goal.returns
returns c = conditions.refusal_is_by_conditions
