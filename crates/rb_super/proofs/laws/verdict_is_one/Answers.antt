use Rattle.rb_super.proofs.OneVerdict.{one_verdict}
use Rattle.rb_super.proofs.laws.verdict_is_one.Goals as goal

pub returns : goal.returns
returns c = one_verdict c.answers_are_one.ensures (record { least = c.least_cut_is_one.ensures; division = c.cut_apart_is_division.ensures; apart = c.cut_apart_is_one.ensures })
