use Rattle.std.proofs.Common.{◌≡◌, ◌+◌, ◌++◌, drop, map, sym, ap, ◌∙◌, subst, append_assoc}
use Rattle.rb_base.specs.Sink.{AppendsBeginning}
use Rattle.rb_super_turn.specs.Views.{turn_report_view}
use Rattle.rb_text_report.specs.Report.{numbered_lines, turn_text}
use Rattle.rb_text_report.proofs.Beginnings.{appends-then, beginning-first, beginning-then, on_err}
use Rattle.rb_text_report.proofs.Numbered.{numbered_more}
use Rattle.rb_text_report.proofs.write.put_turns.Goals as goal

pub returns-in_err-put_turn-clause-begun : goal.returns-in_err-put_turn-clause-begun
returns-in_err-put_turn-clause-begun g c =
    let old = g.W.Sink.taken c.args.writer.now in
    let mid = g.W.Sink.taken c.loop-turn.writer in
    let new = g.W.Sink.taken c.put_turn.new.writer in
    let turns = c.args.turns.now in
    let i = c.loop-turn.turn-index in
    let done = c.loop-turn.invariant.parts.0 in
    let line = turn_text c.args.version c.args.chains.now c.args.paths.now (c.loop-turn.number + 1) (turn_report_view c.turn-item.result) in
    let rest = numbered_lines (turn_text c.args.version c.args.chains.now c.args.paths.now) (i + 1 + 1) (map turn_report_view (drop (i + 1) turns)) in
    let next = numbered_more (turn_text c.args.version c.args.chains.now c.args.paths.now) turn_report_view turns i (c.loop-turn.number + 1) c.turn-item.result c.loop-turn-test.true
    (ap (λ n. n + 1) c.loop-turn.invariant.number) c.turn-item.is in
    let whole : done ++ (line ++ rest) ≡ numbered_lines (turn_text c.args.version c.args.chains.now c.args.paths.now) 1 (map turn_report_view turns) = ap (λ bs. done ++ bs) (sym next) ∙ c.loop-turn.invariant.parts.1 in
    on_err c.from_residual.result (subst (AppendsBeginning old new) whole
    (beginning-then old mid new done (line ++ rest) c.loop-turn.invariant.parts.2 (beginning-first mid new line rest c.in_err-put_turn.ensures.begun)))

pub loop-turn-preserved : goal.loop-turn-preserved
loop-turn-preserved g c =
    let old = g.W.Sink.taken c.args.writer.now in
    let mid = g.W.Sink.taken c.loop-turn.writer in
    let new = g.W.Sink.taken c.put_turn.new.writer in
    let turns = c.args.turns.now in
    let i = c.loop-turn.turn-index in
    let done = c.loop-turn.invariant.parts.0 in
    let line = turn_text c.args.version c.args.chains.now c.args.paths.now (c.loop-turn.number + 1) (turn_report_view c.turn-item.result) in
    let rest = numbered_lines (turn_text c.args.version c.args.chains.now c.args.paths.now) (i + 1 + 1) (map turn_report_view (drop (i + 1) turns)) in
    let next = numbered_more (turn_text c.args.version c.args.chains.now c.args.paths.now) turn_report_view turns i (c.loop-turn.number + 1) c.turn-item.result c.loop-turn-test.true
    (ap (λ n. n + 1) c.loop-turn.invariant.number) c.turn-item.is in
    let whole : done ++ (line ++ rest) ≡ numbered_lines (turn_text c.args.version c.args.chains.now c.args.paths.now) 1 (map turn_report_view turns) = ap (λ bs. done ++ bs) (sym next) ∙ c.loop-turn.invariant.parts.1 in
    record {
      works = c.in_ok-put_turn.ensures.works;
      number = ap (λ n. n + 1) c.loop-turn.invariant.number;
      parts = (
        done ++ line,
        append_assoc done line rest ∙ whole,
        appends-then old mid new done line c.loop-turn.invariant.parts.2 c.in_ok-put_turn.ensures.written,
      );
    }
