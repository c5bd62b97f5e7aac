use Rattle.std.proofs.Common.{◌∙◌, sym}
use Rattle.rb_want.proofs.Starting.{stored_at}
use Rattle.rb_want.proofs.client.is_stored.Goals as goal

-- a record of the height is stored
pub returns-then-is_at : goal.returns-then-is_at
returns-then-is_at c =
    sym
    (stored_at c.args.records.now c.args.height c.loop-record.record-index c.record-item.result c.loop-record-test.true c.record-item.is
    (sym c.is_at.ensures ∙ c.if-is_at.true))
