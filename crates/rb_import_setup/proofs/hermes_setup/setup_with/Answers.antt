use Rattle.std.proofs.Common.{codes, map, string_bytes}
use Rattle.std.specs.List.{flat_map}
use Rattle.rb_import_setup.specs.HermesChains.{chain_view}
use Rattle.rb_import_setup.specs.HermesSetups.{beginning, chain_table, ending, needed, node_line, setup_text, table_of}
use Rattle.rb_import_setup.proofs.SetupsLemmas.{made}
use Rattle.rb_import_setup.proofs.hermes_setup.setup_with.Goals as goal

pub returns-clause-text : goal.returns-clause-text
unfolding setup_text
returns-clause-text c =
    let chains = map chain_view c.args.chains.now in
    let clients = c.args.clients.now in
    made (string_bytes c.new-text.result) (string_bytes c.push_str.new.self) (string_bytes c.push_nodes.new.text) (string_bytes c.push_str-2.new.self) (string_bytes c.push_chains.new.text)
    (string_bytes c.push_clients.new.text) (string_bytes c.push_str-3.new.self)
    beginning (flat_map node_line (needed clients chains)) (codes "version = 1\n\n") (flat_map chain_table (needed clients chains)) (flat_map (table_of chains) clients) ending
    c.new-text.ensures.bytes c.in_ok-push_str.ensures.bytes c.in_ok-push_nodes.ensures c.in_ok-push_str-2.ensures.bytes c.in_ok-push_chains.ensures c.in_ok-push_clients.ensures.text
    c.in_ok-push_str-3.ensures.bytes
