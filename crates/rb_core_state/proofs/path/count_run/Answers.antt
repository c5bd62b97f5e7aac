use Rattle.std.proofs.Common.{◌≡◌, ◌+◌, ◌<◌, ◌≤◌, length, sym, ◌∙◌, arith}
use Rattle.rb_core_state.proofs.Counted.{run_within, run_more, run_stops, run_full}
use Rattle.rb_core_state.proofs.path.count_run.Goals as goal

pub loop-run-init : goal.loop-run-init
loop-run-init c = (c.requires.run, run_within c.args.first c.args.packets.now c.args.run c.requires.run)

pub loop-run-preserved : goal.loop-run-preserved
loop-run-preserved c =
    let lt : c.loop-run.run < length c.args.packets.now = omega (arith, c.loop-run-test.true) in
    let at : c.get.result + c.loop-run.run ≡ c.args.first + c.loop-run.run = omega (arith, c.get.ensures.value) in
    (run_more c.args.first c.args.packets.now c.loop-run.run (c.get.result + c.loop-run.run) c.loop-run.invariant.0 lt at (sym c.is_finished.ensures ∙ c.if-is_finished.true), omega arith)

pub returns-else-is_finished-clause-next : goal.returns-else-is_finished-clause-next
returns-else-is_finished-clause-next c =
    let lt : c.loop-run.run < length c.args.packets.now = omega (arith, c.loop-run-test.true) in
    let at : c.get.result + c.loop-run.run ≡ c.args.first + c.loop-run.run = omega (arith, c.get.ensures.value) in
    run_stops c.args.first c.args.packets.now c.loop-run.run (c.get.result + c.loop-run.run) c.loop-run.invariant.0 lt at (sym c.is_finished.ensures ∙ c.if-is_finished.false)

pub returns-after-loop-run-clause-next : goal.returns-after-loop-run-clause-next
returns-after-loop-run-clause-next c =
    let le : length c.args.packets.now ≤ c.loop-run.run = omega (arith, c.loop-run-test.false) in
    run_full c.args.first c.args.packets.now c.loop-run.run c.loop-run.invariant.0 le
