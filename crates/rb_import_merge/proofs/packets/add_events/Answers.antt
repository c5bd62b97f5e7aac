use Rattle.std.proofs.Common.{◌≡◌, ◌<◌, All, get_or, length, map, refl, rules, sym, subst}
use Rattle.rb_import_merge.specs.Packets.{ExpiresAt, filed_event, seen_events}
use Rattle.rb_import_merge.proofs.Seeing.{events_more, expires_more, files_more}
use Rattle.rb_import_merge.proofs.packets.add_events.Goals as goal

pub loop-event-preserved : goal.loop-event-preserved
loop-event-preserved c =
    let small : c.loop-event.event-index < length c.as_slice-events.result.now = search rules in
    let is : c.event-item.result ≡ get_or c.as_slice-events.result.now c.loop-event.event-index c.event-item.result = search rules in
    record {
      events =
          events_more (seen_events c.args.all.now.items) c.loop-event.all.items c.push.new.self.items _ c.as_slice-events.result.now c.loop-event.event-index c.event-item.result small is
          c.loop-event.invariant.events c.in_ok-push.ensures.items refl;
      files =
          files_more (map filed_event c.args.all.now.items) c.loop-event.all.items c.push.new.self.items _ c.as_slice-events.result.now c.loop-event.event-index c.event-item.result c.args.page.file.now small is
          c.loop-event.invariant.files c.in_ok-push.ensures.items refl;
      expiry = λ all. subst (All (ExpiresAt c.args.revision)) (sym c.in_ok-push.ensures.items)
          (expires_more c.args.revision c.loop-event.all.items _ (c.loop-event.invariant.expiry all) c.expiry_at-expiry.ensures);
    }
