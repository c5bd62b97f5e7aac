use Rattle.std.proofs.Common.{◌≡◌, map, take}
use Rattle.rb_import_check.specs.Chains.{pages_of}
use Rattle.rb_import_check.specs.declared.chain.Page.{Page}
use Rattle.rb_import_check.specs.Named.{filed_page, filed_pages_of}
use Rattle.rb_import_check.proofs.chain.all_pages.Given as goal

-- the pages so far are those of the answers so far, and are of their files
abbrev pub invariant-loop-saved : goal.invariant-loop-saved
invariant-loop-saved l = record {
  pages : map (λ (p : Page). p.page.now) l.pages.items ≡ pages_of (take l.saved-index l.answers);
  files : map filed_page l.pages.items ≡ filed_pages_of (take l.saved-index l.answers);
}
