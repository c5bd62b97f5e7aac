use Rattle.std.proofs.Common.{◌≡◌, take}
use Rattle.std.specs.List.{filter_map}
use Rattle.rb_import_notices.specs.Pages.{page_named}
use Rattle.rb_import_notices.proofs.pages.pages_of.Given as goal

-- the numbers so far are those that the files so far are named by
abbrev pub invariant-loop-saved : goal.invariant-loop-saved
invariant-loop-saved l = l.pages.items ≡ filter_map page_named (take l.saved-index l.answers)
