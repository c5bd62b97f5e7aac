use Rattle.std.proofs.Common.{◌≡◌, true, All, map, take}
use Rattle.rb_import_merge.specs.declared.packets.Page.{Page}
use Rattle.rb_import_merge.specs.Totals.{is_whole}
use Rattle.rb_import_merge.proofs.packets.judge_totals.Given as goal

-- the searches of the pages so far are whole
abbrev pub invariant-loop-page : goal.invariant-loop-page
invariant-loop-page l = All (λ (p : Page). is_whole p.page.now.total (map (λ (q : Page). q.page.now) l.pages) ≡ true) (take l.page-index l.pages)
