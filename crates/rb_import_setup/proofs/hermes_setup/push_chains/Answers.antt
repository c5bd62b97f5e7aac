use Rattle.std.proofs.Common.{◌++◌, if◌then◌else◌, [], ap, sym, ◌∙◌, append_assoc, map, string_bytes, take}
use Rattle.std.specs.List.{flat_map}
use Rattle.rb_import_setup.specs.HermesChains.{chain_view}
use Rattle.rb_import_setup.specs.HermesSetups.{chain_table, is_needed, needed}
use Rattle.rb_import_setup.proofs.SetupsLemmas.{chosen_more}
use Rattle.rb_import_setup.proofs.hermes_setup.push_chains.Goals as goal

pub loop-chain-preserved : goal.loop-chain-preserved
loop-chain-preserved c =
    let before = string_bytes c.args.text.now in
    let clients = c.args.clients.now in
    let i = c.loop-chain.chain-index in
    let chain = c.chain-item.result in
    let table = if is_needed clients (chain_view chain) then chain_table (chain_view chain) else [] in
    c.in_ok-push_chain_if_needed.ensures ∙ ap (λ bs. bs ++ table) c.loop-chain.invariant
    ∙ append_assoc before (flat_map chain_table (needed clients (map chain_view (take i c.args.chains.now)))) table
    ∙ ap (λ bs. before ++ bs) (sym (chosen_more chain_table (is_needed clients) chain_view c.args.chains.now i chain c.loop-chain-test.true c.chain-item.is))
