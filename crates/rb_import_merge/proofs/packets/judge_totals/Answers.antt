use Rattle.std.proofs.Common.{◌≡◌, true, false, map, refl, rules, sym, subst}
use Rattle.rb_import_merge.specs.declared.packets.Page.{Page}
use Rattle.rb_import_merge.specs.Totals.{IsCutShort, is_whole}
use Rattle.rb_import_merge.proofs.Searching.{at_end, one_more}
use Rattle.rb_import_merge.proofs.packets.judge_totals.Goals as goal

pub returns-then-not-is_whole-clause-refused : goal.returns-then-not-is_whole-clause-refused
returns-then-not-is_whole-clause-refused c =
    let short : is_whole c.page-item.result.page.now.total (map (λ (q : Page). q.page.now) c.args.pages.now) ≡ false = search rules in
    subst (IsCutShort c.args.pages.now) (sym c.at.ensures) (refl, (c.loop-page.page-index, c.page-item.result, c.loop-page-test.true, sym c.page-item.is, (short, refl, (refl, refl))))

pub loop-page-preserved : goal.loop-page-preserved
loop-page-preserved c =
    let whole : is_whole c.page-item.result.page.now.total (map (λ (q : Page). q.page.now) c.args.pages.now) ≡ true = search rules in
    one_more (λ (p : Page). is_whole p.page.now.total (map (λ (q : Page). q.page.now) c.args.pages.now) ≡ true) c.args.pages.now c.loop-page.page-index c.page-item.result c.loop-page-test.true
    c.page-item.is c.loop-page.invariant whole

pub returns-clause-accepted : goal.returns-clause-accepted
returns-clause-accepted c =
    at_end (λ (p : Page). is_whole p.page.now.total (map (λ (q : Page). q.page.now) c.args.pages.now) ≡ true) c.args.pages.now c.loop-page.page-index c.loop-page-test.false c.loop-page.invariant
