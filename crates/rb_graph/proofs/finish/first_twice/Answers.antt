use Rattle.std.proofs.Common.{arith}
use Rattle.rb_graph.proofs.Finishing.{twice_found, once_more, once_all}
use Rattle.rb_graph.proofs.finish.first_twice.Goals as goal

pub returns-then-number : goal.returns-then-number
returns-then-number g c =
    twice_found c.args.rows.now c.loop-place.place c.index-rows-place.result c.index-rows-place-in-loop-place.result c.number-number.result c.number.result
    c.requires (omega arith) (omega arith) c.index-rows-place.is c.index-rows-place-in-loop-place.is c.number-number.ensures c.number.ensures c.loop-place.invariant c.if-number.true

pub loop-place-preserved : goal.loop-place-preserved
loop-place-preserved g c =
    once_more c.args.rows.now c.loop-place.place c.index-rows-place.result c.index-rows-place-in-loop-place.result c.number-number.result c.number.result
    c.requires (omega arith) (omega arith) c.index-rows-place.is c.index-rows-place-in-loop-place.is c.number-number.ensures c.number.ensures c.loop-place.invariant c.if-number.false

pub returns : goal.returns
returns g c = once_all c.args.rows.now c.loop-place.place c.loop-place-test.false c.loop-place.invariant
