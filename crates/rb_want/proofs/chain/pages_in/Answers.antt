use Rattle.std.proofs.Common.{◌≡◌, ◌==◌, map, filter, rules, ap, ◌∙◌}
use Rattle.std.proofs.lemmas.Fn.{always_returns_same}
use Rattle.std.proofs.lemmas.List.Sorted.{IsNonDecreasingBy-from_sort_by_key}
use Rattle.rb_import_answers.specs.declared.validators.ValidatorsPage.{ValidatorsPage}
use Rattle.rb_import_check.proofs.Heights.{stays, kept_views}
use Rattle.rb_want.proofs.Sets.{height_of, of_all, page}
use Rattle.rb_want.proofs.chain.pages_in.Goals as goal

pub returns-clause-order : goal.returns-clause-order
returns-clause-order c = IsNonDecreasingBy-from_sort_by_key height_of _ c.in_ok-sort_by_key.ensures.sorted (λ a r q k. search rules)

pub returns-clause-same : goal.returns-clause-same
returns-clause-same c height =
    let stable = c.sort_by_key.ensures.stable height_of (always_returns_same _ (λ a r. r ≡ height_of a.0.now) _ (λ a r q k. search rules)) in
    ap (map page) (stays height_of height c.in_ok-pages.pages.items c.sort_by_key.new.self.items stable)
    ∙ kept_views (λ (p : ValidatorsPage). p.height == height) page c.in_ok-pages.pages.items
    ∙ ap (filter (λ (p : ValidatorsPage). p.height == height)) c.in_ok-pages.ensures ∙ of_all height c.args.contents.now
