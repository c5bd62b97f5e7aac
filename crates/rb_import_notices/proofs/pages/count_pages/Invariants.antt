use Rattle.std.proofs.Common.{◌≡◌, ◌≤◌, take}
use Rattle.std.specs.Prelude.{count_by}
use Rattle.rb_import_notices.specs.Pages.{is_page}
use Rattle.rb_import_notices.proofs.pages.count_pages.Given as goal

-- so many of the answers so far are pages, and there are no more than answers
abbrev pub invariant-loop-saved : goal.invariant-loop-saved
invariant-loop-saved l = record {
  count : l.count ≡ count_by is_page (take l.saved-index l.answers);
  low : l.count ≤ l.saved-index;
}
