use Rattle.std.proofs.Common.{◌∙◌}
use Rattle.ibcplan_folders.proofs.Leaving.{place_more, tracked_push}
use Rattle.ibcplan_folders.proofs.left_out.tracked.Goals as goal

pub loop-saved-preserved : goal.loop-saved-preserved
loop-saved-preserved c =
    let at = c.loop-saved.invariant.place in
    record {
      place = place_more c.loop-saved.place c.loop-saved.yielded c.in-Some.saved at;
      left = tracked_push c.args.setup.now.clients.items c.loop-saved.place c.loop-saved.yielded c.loop-saved.left.items _ c.in-Some.saved c.kept.result
          c.in_ok-push.ensures.items at (λ holds. c.kept.ensures (c.is_tracked-stays.ensures ∙ holds)) c.loop-saved.invariant.left;
    }
