use Rattle.std.proofs.Common.{◌<◌, ◌^◌, arith}
use Rattle.rb_core_model.proofs.Over.{counted_over, over_bound}
use Rattle.rb_core_state.proofs.Fronts.{made}
use Rattle.rb_core_state.proofs.over.later.Goals as goal

pub overflow_add-get : goal.overflow_add-get
overflow_add-get c =
    let low : c.args.first < 2 ^ 63 = c.get.ensures.range.1 in
    let bound = over_bound c.args.order c.args.first c.args.count c.args.packets.now (counted_over c.args.order c.args.first c.args.count c.args.packets.now c.requires) low in
    let same = c.get.ensures.value in
    omega arith

pub unwrap-requires : goal.unwrap-requires
unwrap-requires c =
    let low : c.args.first < 2 ^ 63 = c.get.ensures.range.1 in
    let bound = over_bound c.args.order c.args.first c.args.count c.args.packets.now (counted_over c.args.order c.args.first c.args.count c.args.packets.now c.requires) low in
    let same = c.get.ensures.value in
    let one = c.get.ensures.range.0 in
    made c.new.result _ _ c.new.ensures (omega arith, omega arith)
