use Rattle.std.proofs.Common.{rules}
use Rattle.rb_import_setup.proofs.WordsLemmas.{if_none, one_chain, bad_host, bad_id, bad_chain}
use Rattle.rb_import_setup.proofs.hermes_client.NamedClient.of_word.Goals as goal

pub returns-then-eq-clause-none : goal.returns-then-eq-clause-none
returns-then-eq-clause-none c = λ client names.
    one_chain c.args.word.now c.in_ok-host.host.now c.in_ok-host.rest.now c.in_ok-id.id.now c.in_ok-id.chain.now c.in_ok-host.ensures.first c.in_ok-id.ensures.first client names (search rules)

pub returns-in_err-new-clause-none : goal.returns-in_err-new-clause-none
returns-in_err-new-clause-none c = if_none c.from_residual-in_err-new.result _ (λ client names.
    bad_host c.args.word.now c.in_ok-host.host.now c.in_ok-host.rest.now c.in_ok-id.id.now c.in_ok-id.chain.now c.in_ok-host.ensures.first c.in_ok-id.ensures.first client names c.in_err-new.ensures)

pub returns-in_err-new-2-clause-none : goal.returns-in_err-new-2-clause-none
returns-in_err-new-2-clause-none c = if_none c.from_residual-in_err-new-2.result _ (λ client names.
    bad_id c.args.word.now c.in_ok-host.host.now c.in_ok-host.rest.now c.in_ok-id.id.now c.in_ok-id.chain.now c.in_ok-host.ensures.first c.in_ok-id.ensures.first client names c.in_err-new-2.ensures)

pub returns-in_err-new-3-clause-none : goal.returns-in_err-new-3-clause-none
returns-in_err-new-3-clause-none c = if_none c.from_residual-in_err-new-3.result _ (λ client names.
    bad_chain c.args.word.now c.in_ok-host.host.now c.in_ok-host.rest.now c.in_ok-id.id.now c.in_ok-id.chain.now c.in_ok-host.ensures.first c.in_ok-id.ensures.first client names c.in_err-new-3.ensures)
