use Rattle.std.proofs.Common.{◌≡◌, ◌-◌, ◌∙◌, Some, ap, option_map, refl, rules, sym, tests}
use Rattle.std.specs.Prelude.{find, max}
use Rattle.std.specs.List.{range_with_len, reduce}
use Rattle.std.proofs.lemmas.Iterator.{YieldsList-from_range}
use Rattle.std.proofs.lemmas.Iterator.Adapters.{option_map_id}
use Rattle.std.proofs.lemmas.Iterator.Search.{find_from_yields_List}
use Rattle.rb_import_notices.specs.Pages.{is_lacking, pages_below}
use Rattle.rb_import_notices.proofs.pages.first_lacking.Goals as goal

pub returns : goal.returns
returns c =
    let pages = c.args.pages.now in
    let count = c.args.count in
    let highest = c.in_ok-highest.highest in
    let most : reduce max pages ≡ Some highest = search rules in
    let found : option_map (λ n. n) c.find.result ≡ find (is_lacking pages count) (range_with_len 1 (highest - 1)) =
    find_from_yields_List (is_lacking pages count) _ _ c.find.result c.find.ensures.ran (YieldsList-from_range 1 highest (highest - 1) refl refl) (λ x b q k. search (rules, tests)) in
    sym (option_map_id c.find.result) ∙ found ∙ ap (λ o. find (is_lacking pages count) (pages_below o)) (sym most)
