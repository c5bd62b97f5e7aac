use Rattle.std.proofs.Common.{◌≡◌, map, take}
use Rattle.rb_import_merge.specs.declared.packets.Page.{Page}
use Rattle.rb_import_merge.specs.Totals.{filed_page, filed_pages_of, pages_of}
use Rattle.rb_import_merge.proofs.packets.pages_of.Given as goal

-- the pages so far are those of the answers so far, and are of their files
abbrev pub invariant-loop-saved : goal.invariant-loop-saved
invariant-loop-saved l = record {
  pages : map (λ (p : Page). p.page.now) l.pages.items ≡ pages_of (take l.saved-index l.answers);
  files : map filed_page l.pages.items ≡ filed_pages_of (take l.saved-index l.answers);
}
