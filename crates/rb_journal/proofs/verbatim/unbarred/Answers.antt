use Rattle.std.proofs.Common.{false}
use Rattle.rb_journal.specs.Verbatim.{unbarred}
use Rattle.rb_journal.proofs.Verbatims.{skip_byte, keep_byte}
use Rattle.rb_journal.proofs.verbatim.unbarred.Goals.{then-behind_feed, else-behind_feed+in_ok-push}
use Rattle.rb_journal.proofs.verbatim.unbarred.Goals as goal

pub loop-byte-preserved : goal.loop-byte-preserved
loop-byte-preserved c =
    let bytes = c.args.bytes.now in
    elim c.if-behind_feed.branch [
      | then-behind_feed w ↦ rw (w.rest-is, w.behind_feed-is)
          (skip_byte c.loop-byte.rest.items (unbarred false bytes) bytes c.loop-byte.byte-index c.loop-byte.behind_feed c.loop-byte-test.true w.if-behind_feed.true c.loop-byte.invariant)
      | else-behind_feed+in_ok-push w ↦ rw (w.rest-is, w.behind_feed-is, w.in_ok-push.ensures.items)
          (keep_byte c.loop-byte.rest.items (unbarred false bytes) bytes c.loop-byte.byte-index c.loop-byte.behind_feed c.loop-byte-test.true w.if-behind_feed.false c.loop-byte.invariant)
    ]
