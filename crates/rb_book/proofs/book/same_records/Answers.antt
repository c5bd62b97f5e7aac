use Rattle.std.proofs.Common.{◌≡◌, arith, ap, ◌∙◌, sym}
use Rattle.rb_book.specs.Same.{same_known-Decides}
use Rattle.rb_book.proofs.Compared.{decided, decided_not, differs, other_at, same_next, same_whole}
use Rattle.rb_book.proofs.book.same_records.Goals as goal

pub returns-then-not-is_same : goal.returns-then-not-is_same
returns-then-not-is_same c =
    decided_not same_known-Decides _ _
    (other_at c.args.records.now c.args.others.now c.loop-place.place c.index-records-place.result c.index-others-place.result (omega arith)
    c.index-records-place.is c.index-others-place.is (differs same_known-Decides _ _ c.if-not-is_same.ensures))

pub loop-place-preserved : goal.loop-place-preserved
loop-place-preserved c =
    same_next c.args.records.now c.args.others.now c.loop-place.place c.index-records-place.result c.index-others-place.result (omega arith) (omega arith)
    c.loop-place.invariant c.index-records-place.is c.index-others-place.is ((same_known-Decides _ _).0 (sym c.if-not-is_same.ensures))

pub returns : goal.returns
returns c = decided same_known-Decides _ _ (same_whole c.args.records.now c.args.others.now c.loop-place.place (omega arith) (omega arith) c.loop-place.invariant)
