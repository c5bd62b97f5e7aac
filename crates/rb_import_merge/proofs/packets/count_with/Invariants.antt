use Rattle.std.proofs.Common.{◌≡◌, ◌-◌, ◌^◌, min, take}
use Rattle.std.specs.Prelude.{sum_by}
use Rattle.rb_import_merge.specs.declared.packets.Page.{Page}
use Rattle.rb_import_merge.specs.Totals.{count_in}
use Rattle.rb_import_merge.proofs.packets.count_with.Given as goal

-- so many stand on the pages so far
abbrev pub invariant-loop-page : goal.invariant-loop-page
invariant-loop-page l = l.count ≡ min (sum_by (λ (p : Page). count_in l.total p.page.now) (take l.page-index l.pages)) (2 ^ 64 - 1)
