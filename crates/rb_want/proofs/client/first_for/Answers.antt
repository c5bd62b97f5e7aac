use Rattle.std.proofs.Common.{map, sym, subst, take, ◌+◌}
use Rattle.rb_want.specs.Needs.{IsStart}
use Rattle.rb_want.proofs.Starting.{start_step}
use Rattle.rb_want.proofs.client.first_for.Goals as goal

-- the greatest of the records so far, with one more
pub loop-record-preserved : goal.loop-record-preserved
loop-record-preserved c =
    subst (IsStart (map (λ r. r.now) (take (c.loop-record.record-index + 1) c.args.records.now)) c.highest_of-most.result) (sym c.start_with-first.ensures)
    (start_step c.args.records.now c.highest_of-most.result c.loop-record.first c.loop-record.record-index c.record-item.result c.requires
    c.loop-record-test.true c.record-item.is c.loop-record.invariant)
