use Rattle.std.proofs.Common.{map}
use Rattle.rb_import_answers.specs.declared.packets.PacketEvent.{PacketEvent}
use Rattle.rb_import_check.proofs.Sorting.{added_more}
use Rattle.rb_import_merge.specs.declared.packets.Page.{Page}
use Rattle.rb_import_merge.specs.Packets.{filed_event, seen_events}
use Rattle.rb_import_merge.proofs.packets.all_events.Goals as goal

pub loop-page-preserved : goal.loop-page-preserved
loop-page-preserved c = record {
  events =
      added_more (λ (p : Page). p.page.now.events.items) (seen_events c.loop-page.all.items) (seen_events c.add_events.new.all.items) c.args.pages.now c.loop-page.page-index c.page-item.result
      c.loop-page-test.true c.page-item.is c.loop-page.invariant.events c.in_ok-add_events.ensures.events;
  files =
      added_more (λ (p : Page). map (λ (e : PacketEvent). (e, p.file.now)) p.page.now.events.items) (map filed_event c.loop-page.all.items) (map filed_event c.add_events.new.all.items) c.args.pages.now
      c.loop-page.page-index c.page-item.result c.loop-page-test.true c.page-item.is c.loop-page.invariant.files c.in_ok-add_events.ensures.files;
  expiry = c.add_events.ensures.expiry c.loop-page.invariant.expiry;
}
