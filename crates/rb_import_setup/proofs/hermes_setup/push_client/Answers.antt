use Rattle.std.proofs.Common.{◌≡◌, ◌++◌, false, true, is_some, map, string_bytes, ap, sym, ◌∙◌, append_assoc, rules}
use Rattle.rb_script_toml.specs.Identifiers.{is_identifier}
use Rattle.rb_import_setup.specs.HermesChains.{chain_view}
use Rattle.rb_import_setup.specs.HermesClients.{setup_id}
use Rattle.rb_import_setup.specs.HermesSetups.{chain_with, identity_lines, terms_lines}
use Rattle.rb_import_setup.proofs.SetupsLemmas.{no_host, no_chain, too_long, not_refused, table-found}
use Rattle.rb_import_setup.proofs.hermes_setup.push_client.Goals as goal

pub returns-in_default-clause-refused : goal.returns-in_default-clause-refused
returns-in_default-clause-refused c = no_host (map chain_view c.args.chains.now) c.args.client.now (sym c.in_default.ensures)

pub returns-then-not-has_chain-clause-refused : goal.returns-then-not-has_chain-clause-refused
returns-then-not-has_chain-clause-refused c =
    no_chain (map chain_view c.args.chains.now) c.args.client.now (chain_view c.in-Some.host.now) (sym c.in-Some.ensures) (sym c.has_chain.ensures ∙ c.if-not-has_chain.true)

pub returns-then-not-is_identifier-clause-refused : goal.returns-then-not-is_identifier-clause-refused
returns-then-not-is_identifier-clause-refused c =
    let chains = map chain_view c.args.chains.now in
    let client = c.args.client.now in
    let there : is_some (chain_with client.chain chains) ≡ true = search rules in
    let long : is_identifier (setup_id client) ≡ false = search rules in
    too_long chains client (chain_view c.in-Some.host.now) (sym c.in-Some.ensures) there long

pub returns-clause-text : goal.returns-clause-text
returns-clause-text c =
    let chains = map chain_view c.args.chains.now in
    let client = c.args.client.now in
    let host = chain_view c.in-Some.host.now in
    let old = string_bytes c.args.text.now in
    let same : c.as_str-2.result.now ≡ setup_id client = search rules in
    rw (table-found chains client host (sym c.in-Some.ensures)) (
    c.in_ok-push_table.ensures ∙ ap (λ id. old ++ identity_lines id client ++ terms_lines host) same
    ∙ append_assoc old (identity_lines (setup_id client) client) (terms_lines host))

pub returns-clause-accepted : goal.returns-clause-accepted
returns-clause-accepted c =
    let chains = map chain_view c.args.chains.now in
    let client = c.args.client.now in
    let there : is_some (chain_with client.chain chains) ≡ true = search rules in
    let short : is_identifier (setup_id client) ≡ true = search rules in
    not_refused chains client (chain_view c.in-Some.host.now) (sym c.in-Some.ensures) there short
