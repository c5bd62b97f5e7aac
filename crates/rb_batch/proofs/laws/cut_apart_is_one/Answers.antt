use Rattle.rb_batch.proofs.Divisions.{apart_is_one}
use Rattle.rb_batch.proofs.laws.cut_apart_is_one.Goals as goal

pub returns : goal.returns
returns c = apart_is_one
