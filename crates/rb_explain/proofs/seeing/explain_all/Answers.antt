use Rattle.std.proofs.Common.{◌+◌, sym, subst, arith}
use Rattle.rb_explain.proofs.Jobs.{AreFirstExplained, at_index, explained_none, explained_more, right_at}
use Rattle.rb_explain.proofs.seeing.explain_all.Goals as goal

pub loop-place-init : goal.loop-place-init
loop-place-init g c = subst (AreFirstExplained c.args.detail c.args.seen.now c.args.reports.now 0) (sym c.in_ok-explained.ensures.items) (explained_none c.args.detail c.args.seen.now c.args.reports.now)

pub explain_seen-requires : goal.explain_seen-requires
explain_seen-requires g c =
    let long = c.requires.long in
    record {
      right = right_at c.args.detail c.args.seen.now c.args.reports.now c.loop-place.place c.index-seen-place.result c.index-reports-place.result c.requires.right
          (at_index c.args.seen.now c.loop-place.place c.index-seen-place.result (omega arith) c.index-seen-place.is)
          (at_index c.args.reports.now c.loop-place.place c.index-reports-place.result (omega arith) c.index-reports-place.is);
    }

pub loop-place-preserved : goal.loop-place-preserved
loop-place-preserved g c =
    let long = c.requires.long in
    subst (AreFirstExplained c.args.detail c.args.seen.now c.args.reports.now (c.loop-place.place + 1)) (sym c.in_ok-push.ensures.items)
    (explained_more c.args.detail c.args.seen.now c.args.reports.now c.loop-place.place c.loop-place.explained.items c.index-seen-place.result c.index-reports-place.result c.in_ok-one.one
    (at_index c.args.seen.now c.loop-place.place c.index-seen-place.result (omega arith) c.index-seen-place.is)
    (at_index c.args.reports.now c.loop-place.place c.index-reports-place.result (omega arith) c.index-reports-place.is)
    c.in_ok-one.ensures c.loop-place.invariant)

pub returns-clause-count : goal.returns-clause-count
returns-clause-count g c = let count = c.loop-place.invariant.count in omega arith

pub returns-clause-explained : goal.returns-clause-explained
returns-clause-explained g c = c.loop-place.invariant.each
