use Rattle.std.proofs.Common.{arith}
use Rattle.rb_graph.proofs.Finishing.{placed_none, placed_end, placed_more, missing_found, missing_at_end, placed_whole, placed_in_place}
use Rattle.rb_graph.proofs.finish.first_missing.Goals as goal

pub loop-place-init : goal.loop-place-init
loop-place-init g c = placed_none c.args.rows.now

pub returns-then-rows-place-clause-missing : goal.returns-then-rows-place-clause-missing
returns-then-rows-place-clause-missing g c =
    missing_at_end c.args.rows.now c.loop-place.place c.args.total (omega arith) (omega arith) c.requires.once c.loop-place.invariant

pub returns-then-number-place-clause-missing : goal.returns-then-number-place-clause-missing
returns-then-number-place-clause-missing g c =
    missing_found c.args.rows.now c.loop-place.place c.index-rows-place.result c.number-number.result c.requires.ordered (omega arith) c.index-rows-place.is c.number-number.ensures c.requires.once c.loop-place.invariant
    c.args.total (omega arith) c.if-number-place.true

pub loop-place-preserved : goal.loop-place-preserved
loop-place-preserved g c =
    placed_more c.args.rows.now c.loop-place.place c.index-rows-place.result c.number-number.result c.requires.ordered (omega arith) c.index-rows-place.is c.number-number.ensures c.requires.once c.loop-place.invariant
    (omega arith)

pub returns-clause-whole : goal.returns-clause-whole
returns-clause-whole g c = placed_whole c.args.rows.now c.args.total (placed_end c.args.rows.now c.loop-place.place c.args.total (omega arith) c.loop-place.invariant) c.requires.once

pub returns-clause-in_place : goal.returns-clause-in_place
returns-clause-in_place g c = placed_in_place c.args.rows.now c.args.total c.requires.ordered c.requires.below c.requires.once (placed_end c.args.rows.now c.loop-place.place c.args.total (omega arith) c.loop-place.invariant)
