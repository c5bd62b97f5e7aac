use Rattle.rb_super.proofs.OneReport.{one_report}
use Rattle.rb_super.proofs.laws.report_is_one.Goals as goal

pub returns : goal.returns
returns c = one_report c.answers_are_one.ensures (record { least = c.least_cut_is_one.ensures; division = c.cut_apart_is_division.ensures; apart = c.cut_apart_is_one.ensures })
