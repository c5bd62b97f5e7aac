use Rattle.std.proofs.Common.{ℕ, ◌^◌, ◌-◌, List, min, ap, ◌∙◌}
use Rattle.std.specs.Prelude.{sum_by}
use Rattle.std.proofs.lemmas.List.{take_all}
use Rattle.rb_import_merge.specs.declared.packets.Page.{Page}
use Rattle.rb_import_merge.specs.Totals.{count_in}
use Rattle.rb_import_merge.proofs.Totalling.{one_page_more, sum_of_pages}
use Rattle.rb_import_merge.proofs.packets.count_with.Goals as goal

pub loop-page-preserved : goal.loop-page-preserved
loop-page-preserved c =
    one_page_more c.args.total c.args.pages.now c.loop-page.page-index c.page-item.result c.loop-page.count c.count_in.result c.saturating_add-count.result c.loop-page-test.true c.page-item.is
    c.loop-page.invariant c.count_in.ensures c.saturating_add-count.ensures

pub returns : goal.returns
returns c =
    let sum_of : List Page → ℕ = λ l. sum_by (λ (p : Page). count_in c.args.total p.page.now) l in
    c.loop-page.invariant ∙ ap (λ l. min (sum_of l) (2 ^ 64 - 1)) (take_all c.loop-page.page-index c.args.pages.now c.loop-page-test.false)
    ∙ ap (λ n. min n (2 ^ 64 - 1)) (sum_of_pages c.args.total c.args.pages.now)
