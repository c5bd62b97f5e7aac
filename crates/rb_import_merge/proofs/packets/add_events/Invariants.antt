use Rattle.std.proofs.Common.{◌≡◌, ◌++◌, All, map, take}
use Rattle.rb_import_answers.specs.declared.packets.PacketEvent.{PacketEvent}
use Rattle.rb_import_merge.specs.Packets.{ExpiresAt, filed_event, seen_events}
use Rattle.rb_import_merge.proofs.packets.add_events.Given as goal

-- the events so far stand behind what was there, and are of the page's file
abbrev pub invariant-loop-event : goal.invariant-loop-event
invariant-loop-event l = record {
  events : seen_events l.all.items ≡ seen_events l.fn.all.items ++ take l.event-index l.events;
  files : map filed_event l.all.items ≡ map filed_event l.fn.all.items ++ map (λ (e : PacketEvent). (e, l.page.file.now)) (take l.event-index l.events);
  expiry : All (ExpiresAt l.revision) l.fn.all.items → All (ExpiresAt l.revision) l.all.items;
}
