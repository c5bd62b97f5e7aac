use Rattle.std.proofs.Common.{◌≡◌, ◌≢◌, ◌<◌, [], ◌∷◌, Some, length, take, get_or, false, arith, inl, rules, ap, refl, subst, sym, ◌∙◌}
use Rattle.std.proofs.lemmas.Bool.{true≢false}
use Rattle.std.specs.Prelude.{option_map, option_to_list}
use Rattle.std.proofs.lemmas.List.{take_all}
use Rattle.std.proofs.lemmas.Grind.{common_steps}
use Rattle.rb_import_check.specs.Clients.{HasReason, IsOnChain, client_states_in, client_states_of}
use Rattle.rb_import_check.specs.Named.{NamesIn, filed_client_states_of}
use Rattle.rb_import_check.proofs.Naming.{any_filed, two_filed}
use Rattle.rb_import_check.proofs.ReasonsLemmas.{other_chain, other_revision, other_state, two_states}
use Rattle.rb_import_check.proofs.Sorting.{one_of}
use Rattle.rb_import_check.proofs.client.state_of.Goals as goal

pub returns-then-not-is_of_chain-clause-reason : goal.returns-then-not-is_of_chain-clause-reason
returns-then-not-is_of_chain-clause-reason c =
    let small : c.loop-saved.saved-index < length c.args.answers.now = search rules in
    let is : c.saved-item.result ≡ get_or c.args.answers.now c.loop-saved.saved-index c.saved-item.result = search rules in
    let unlike : c.is_of_chain.result ≡ false = search rules in
    let other : c.in-ClientState.state.chain ≢ c.args.tracked.now = (λ same. true≢false (sym (c.is_of_chain.ensures.1 same) ∙ unlike)) in
    subst (HasReason c.args.setup.now c.args.tracked.now c.args.answers.now) (sym c.of_other_chain.ensures)
    (other_chain c.args.tracked.now c.args.answers.now c.loop-saved.saved-index c.saved-item.result c.in-ClientState.state small is (ap client_states_in c.in-ClientState.is) other)

pub returns-then-state-revision-clause-reason : goal.returns-then-state-revision-clause-reason
returns-then-state-revision-clause-reason c =
    let small : c.loop-saved.saved-index < length c.args.answers.now = search rules in
    let is : c.saved-item.result ≡ get_or c.args.answers.now c.loop-saved.saved-index c.saved-item.result = search rules in
    let other : c.in-ClientState.state.revision ≢ c.revision_of-revision.result = grind (arith, common_steps) in
    subst (HasReason c.args.setup.now c.args.tracked.now c.args.answers.now) (sym c.in_file.ensures)
    (other_state c.args.tracked.now c.args.answers.now c.loop-saved.saved-index c.saved-item.result c.in-ClientState.state c.revision_of-revision.result small is (ap client_states_in c.in-ClientState.is) (search rules) other)

pub returns-in-Some-clause-reason : goal.returns-in-Some-clause-reason
returns-in-Some-clause-reason c =
    let small : c.loop-saved.saved-index < length c.args.answers.now = search rules in
    let is : c.saved-item.result ≡ get_or c.args.answers.now c.loop-saved.saved-index c.saved-item.result = search rules in
    let before : c.in-Some.field-0-1.now ∷ [] ≡ client_states_of (take c.loop-saved.saved-index c.args.answers.now) = grind (arith, common_steps) in
    subst (HasReason c.args.setup.now c.args.tracked.now c.args.answers.now) (sym c.in_files.ensures)
    (two_states c.args.tracked.now c.args.answers.now c.loop-saved.saved-index c.saved-item.result c.in-Some.field-0-1.now c.in-ClientState.state small is before (ap client_states_in c.in-ClientState.is))

pub returns-then-not-is_of_chain-clause-named : goal.returns-then-not-is_of_chain-clause-named
returns-then-not-is_of_chain-clause-named c =
    let small : c.loop-saved.saved-index < length c.args.answers.now = search rules in
    let is : c.saved-item.result ≡ get_or c.args.answers.now c.loop-saved.saved-index c.saved-item.result = search rules in
    let unlike : c.is_of_chain.result ≡ false = search rules in
    let other : c.in-ClientState.state.chain ≢ c.args.tracked.now = (λ same. true≢false (sym (c.is_of_chain.ensures.1 same) ∙ unlike)) in
    subst (NamesIn c.args.tracked.now c.args.answers.now) (sym c.of_other_chain.ensures)
    (any_filed client_states_in _ c.args.answers.now c.loop-saved.saved-index c.saved-item.result c.in-ClientState.state small is (ap client_states_in c.in-ClientState.is) (other, ap Some c.as_str-then-not-is_of_chain.ensures.text, refl, (ap Some c.as_str-file.ensures.value, refl)))

pub returns-then-state-revision-clause-named : goal.returns-then-state-revision-clause-named
returns-then-state-revision-clause-named c =
    let small : c.loop-saved.saved-index < length c.args.answers.now = search rules in
    let is : c.saved-item.result ≡ get_or c.args.answers.now c.loop-saved.saved-index c.saved-item.result = search rules in
    let other : c.in-ClientState.state.revision ≢ c.revision_of-revision.result = grind (arith, common_steps) in
    subst (NamesIn c.args.tracked.now c.args.answers.now) (sym c.in_file.ensures)
    (inl (any_filed client_states_in _ c.args.answers.now c.loop-saved.saved-index c.saved-item.result c.in-ClientState.state small is (ap client_states_in c.in-ClientState.is)
    (other_revision c.args.tracked.now c.revision_of-revision.result c.in-ClientState.state.revision (search rules) other, refl, (ap Some c.as_str-file.ensures.value, refl))))

pub returns-in-Some-clause-named : goal.returns-in-Some-clause-named
returns-in-Some-clause-named c =
    let small : c.loop-saved.saved-index < length c.args.answers.now = search rules in
    let is : c.saved-item.result ≡ get_or c.args.answers.now c.loop-saved.saved-index c.saved-item.result = search rules in
    let before : (c.in-Some.field-0-1.now, c.in-Some.earlier.now) ∷ [] ≡ filed_client_states_of (take c.loop-saved.saved-index c.args.answers.now) = grind (arith, common_steps) in
    subst (NamesIn c.args.tracked.now c.args.answers.now) (sym c.in_files.ensures)
    (inl (_, _, two_filed client_states_in c.args.answers.now c.loop-saved.saved-index c.saved-item.result c.in-Some.field-0-1.now c.in-ClientState.state _ small is before (ap client_states_in c.in-ClientState.is), refl, (refl, ap Some c.as_str-file.ensures.value)))

pub returns-clause-chain : goal.returns-clause-chain
returns-clause-chain c =
    let all : take c.loop-saved.saved-index c.args.answers.now ≡ c.args.answers.now = take_all _ _ (search rules) in
    one_of (λ p. p.1.now) (IsOnChain c.args.tracked.now) c.loop-saved.found (client_states_of c.args.answers.now)
    (subst (λ l. option_to_list (option_map (λ p. p.1.now) c.loop-saved.found) ≡ client_states_of l) all c.loop-saved.invariant.states) c.loop-saved.invariant.chain
