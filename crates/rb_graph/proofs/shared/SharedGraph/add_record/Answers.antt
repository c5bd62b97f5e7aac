use Rattle.std.proofs.Common.{rules}
use Rattle.std.proofs.lemmas.Result.{err_from_is_err_and}
use Rattle.rb_graph.proofs.Entered.{record_refused}
use Rattle.rb_graph.proofs.shared.SharedGraph.add_record.Goals as goal

pub returns-in_err-judge_record-clause-refused : goal.returns-in_err-judge_record-clause-refused
returns-in_err-judge_record-clause-refused g c =
    let p = err_from_is_err_and c.from_residual.result c.from_residual.ensures.1 in
    let refused = record_refused c.args.self.now c.args.height c.args.entry in
    rw (p.1, p.2) (search (rules, refused))
