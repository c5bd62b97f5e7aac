use Rattle.std.proofs.Common.{ℕ, List, ◌++◌, codes, map, sym, subst, append_assoc}
use Rattle.std.proofs.lemmas.Result.{on_err_weaker}
use Rattle.std.specs.declared.alloc.Global.{Global}
use Rattle.std.specs.Io.KnownBytes.{Appends}
use Rattle.rb_base.specs.Sink.{AppendsBeginning}
use Rattle.rb_super_turn.specs.declared.report.TurnReport.{TurnReport as CodeTurnReport}
use Rattle.rb_super_turn.specs.Views.{turn_report_view}
use Rattle.rb_text_report.specs.Report.{first_line, numbered_lines, turn_text}
use Rattle.rb_text_report.proofs.Beginnings.{appends-then, beginning-first, beginning-then, on_err}
use Rattle.rb_text_report.proofs.write.write_report.Goals as goal

pub returns-in_err-put-clause-begun : goal.returns-in_err-put-clause-begun
returns-in_err-put-clause-begun g c =
    let turns = numbered_lines (turn_text c.args.report.now.version c.args.report.now.chains.items c.args.report.now.paths.items) 1 (map turn_report_view c.args.report.now.turns.items) in
    let parts = append_assoc (first_line c.args.report.now.version) turns (codes "end\n") in
    on_err c.from_residual.result (subst (AppendsBeginning (g.W.Sink.taken c.args.writer.now) (g.W.Sink.taken c.put.new.writer)) (sym parts)
    (beginning-first (g.W.Sink.taken c.args.writer.now) (g.W.Sink.taken c.put.new.writer) (first_line c.args.report.now.version) (turns ++ codes "end\n") (subst (AppendsBeginning (g.W.Sink.taken c.args.writer.now) (g.W.Sink.taken c.put.new.writer)) c.first_line.ensures c.in_err-put.ensures.begun)))

pub returns-in_err-put_turns-clause-begun : goal.returns-in_err-put_turns-clause-begun
returns-in_err-put_turns-clause-begun g c =
    let old = g.W.Sink.taken c.args.writer.now in
    let mid = g.W.Sink.taken c.put.new.writer in
    let new = g.W.Sink.taken c.put_turns.new.writer in
    let turns = numbered_lines (turn_text c.args.report.now.version c.args.report.now.chains.items c.args.report.now.paths.items) 1 (map turn_report_view c.args.report.now.turns.items) in
    let begun : AppendsBeginning mid new turns =
    subst (λ (r : List (List ℕ) × List (List ℕ) × List (CodeTurnReport Global)). AppendsBeginning mid new (numbered_lines (turn_text c.args.report.now.version r.0 r.1) 1 (map turn_report_view r.2)))
    (λ i. (c.as_slice-chains.ensures.value i, c.as_slice-paths.ensures.value i, c.as_slice-turns.ensures.value i))
    c.in_err-put_turns.ensures.begun in
    let parts = append_assoc (first_line c.args.report.now.version) turns (codes "end\n") in
    on_err c.from_residual-in_err-put_turns.result (subst (AppendsBeginning old new) (sym parts)
    (beginning-then old mid new (first_line c.args.report.now.version) (turns ++ codes "end\n") (subst (Appends old mid) c.first_line.ensures c.in_ok-put.ensures.written) (beginning-first mid new turns (codes "end\n") begun)))

pub returns-clause-begun : goal.returns-clause-begun
returns-clause-begun g c =
    let old = g.W.Sink.taken c.args.writer.now in
    let mid = g.W.Sink.taken c.put.new.writer in
    let last = g.W.Sink.taken c.put_turns.new.writer in
    let new = g.W.Sink.taken c.put-2.new.writer in
    let turns = numbered_lines (turn_text c.args.report.now.version c.args.report.now.chains.items c.args.report.now.paths.items) 1 (map turn_report_view c.args.report.now.turns.items) in
    let written : Appends mid last turns =
    subst (λ (r : List (List ℕ) × List (List ℕ) × List (CodeTurnReport Global)). Appends mid last (numbered_lines (turn_text c.args.report.now.version r.0 r.1) 1 (map turn_report_view r.2)))
    (λ i. (c.as_slice-chains.ensures.value i, c.as_slice-paths.ensures.value i, c.as_slice-turns.ensures.value i))
    c.in_ok-put_turns.ensures.written in
    on_err_weaker c.put-2.result (beginning-then old last new (first_line c.args.report.now.version ++ turns) (codes "end\n")
    (appends-then old mid last (first_line c.args.report.now.version) turns (subst (Appends old mid) c.first_line.ensures c.in_ok-put.ensures.written) written)) c.put-2.ensures.begun
