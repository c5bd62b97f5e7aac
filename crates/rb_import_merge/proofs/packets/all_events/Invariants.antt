use Rattle.std.proofs.Common.{◌≡◌, All, map, take}
use Rattle.std.specs.List.{flat_map}
use Rattle.rb_import_merge.specs.Packets.{ExpiresAt, filed_event, seen_events}
use Rattle.rb_import_merge.specs.declared.packets.Page.{Page}
use Rattle.rb_import_merge.proofs.packets.all_events.Given as goal

-- the events so far are those of the pages so far, and are of their files
abbrev pub invariant-loop-page : goal.invariant-loop-page
invariant-loop-page l = record {
  events : seen_events l.all.items ≡ flat_map (λ (p : Page). p.page.now.events.items) (take l.page-index l.pages);
  files : map filed_event l.all.items ≡ flat_map (λ (p : Page). map (λ e. (e, p.file.now)) p.page.now.events.items) (take l.page-index l.pages);
  expiry : All (ExpiresAt l.revision) l.all.items;
}
