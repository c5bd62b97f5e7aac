use Rattle.std.proofs.Common.{ap, option_map, sym, ◌∙◌, rules, tests}
use Rattle.std.specs.Str.{bytes_eq}
use Rattle.std.proofs.lemmas.Iterator.{YieldsList-from_slice}
use Rattle.std.proofs.lemmas.Iterator.Search.{find_from_yields_List}
use Rattle.rb_import_setup.specs.HermesChains.{chain_view}
use Rattle.rb_import_setup.proofs.SetupsLemmas.{find-map, option_map-map}
use Rattle.rb_import_setup.proofs.hermes_setup.chain_with.Goals as goal

pub returns : goal.returns
returns c =
    let id = c.args.id in
    let found = find_from_yields_List (λ chain. bytes_eq chain.id id) _ _ c.find.result c.find.ensures.ran (YieldsList-from_slice c.args.chains.now cc) (λ x b q k. search (rules, tests)) in
    option_map-map chain_view c.find.result ∙ ap (option_map chain_view) found ∙ sym (find-map (λ chain. bytes_eq chain.id id) chain_view c.args.chains.now)
