use Rattle.std.proofs.Common.{◌≡◌, ℕ, ◌==◌, map, filter, rules, ap, ◌∙◌}
use Rattle.std.proofs.lemmas.Fn.{always_returns_same}
use Rattle.std.proofs.lemmas.List.Sorted.{IsNonDecreasingBy-from_sort_by_key}
use Rattle.rb_import_answers.specs.declared.validators.ValidatorsPage.{ValidatorsPage}
use Rattle.rb_import_check.specs.declared.chain.Page.{Page}
use Rattle.rb_import_check.specs.Named.{FiledPage, filed_page}
use Rattle.rb_import_check.proofs.Heights.{stays, kept_views}
use Rattle.rb_import_check.proofs.chain.pages_of.Goals as goal

abbrev height_of : Page → ℕ
height_of p = p.page.now.height

pub returns-clause-order : goal.returns-clause-order
returns-clause-order c = IsNonDecreasingBy-from_sort_by_key height_of _ c.in_ok-sort_by_key.ensures.sorted (λ a r q k. search rules)

pub returns-clause-same : goal.returns-clause-same
returns-clause-same c height =
    let stable = c.sort_by_key.ensures.stable height_of (always_returns_same _ (λ a r. r ≡ height_of a.0.now) _ (λ a r q k. search rules)) in
    ap (map (λ (p : Page). p.page.now)) (stays height_of height c.in_ok-pages.pages.items c.sort_by_key.new.self.items stable)
    ∙ kept_views (λ (p : ValidatorsPage). p.height == height) (λ (p : Page). p.page.now) c.in_ok-pages.pages.items
    ∙ ap (filter (λ (p : ValidatorsPage). p.height == height)) c.in_ok-pages.ensures.pages

pub returns-clause-files : goal.returns-clause-files
returns-clause-files c height =
    let stable = c.sort_by_key.ensures.stable height_of (always_returns_same _ (λ a r. r ≡ height_of a.0.now) _ (λ a r q k. search rules)) in
    ap (map filed_page) (stays height_of height c.in_ok-pages.pages.items c.sort_by_key.new.self.items stable)
    ∙ kept_views (λ (f : FiledPage). f.0.height == height) filed_page c.in_ok-pages.pages.items
    ∙ ap (filter (λ (f : FiledPage). f.0.height == height)) c.in_ok-pages.ensures.files
