use Rattle.std.proofs.Common.{◌≡◌, ◌<◌, ◌++◌, ◌∙◌, ℕ, List, map, filter, nat_le, Some, length, false, get_or, arith, rules, ap, refl, subst, sym}
use Rattle.std.specs.Prelude.{Any, Bool, string_bytes}
use Rattle.std.proofs.lemmas.Grind.{common_steps}
use Rattle.rb_import_check.specs.declared.error.CheckErrorName.{CheckErrorName}
use Rattle.rb_import_check.specs.declared.saved.Saved.{Saved}
use Rattle.rb_import_answers.specs.declared.client.ConsensusState.{ConsensusState}
use Rattle.rb_import_check.specs.Clients.{FiledState, filed_state, filed_states_in, is_of_client, stored_in}
use Rattle.rb_import_check.specs.Errors.{IsTold, IsToldOf}
use Rattle.rb_import_check.specs.Named.{NamesForeign}
use Rattle.rb_import_check.proofs.ReasonsLemmas.{is_foreign}
use Rattle.rb_import_check.proofs.Sorting.{filtered_more, of_client_more}
use Rattle.rb_import_check.proofs.client.current_of.Goals.{in-ConsensusStates+in_ok-add_states-in-ConsensusStates, in-ClientState-1, in-Other-1}
use Rattle.rb_import_check.proofs.client.current_of.Goals as goal

pub returns-in_default : goal.returns-in_default
returns-in_default c =
    let small : c.loop-saved.saved-index < length c.args.answers.now = search rules in
    let is : c.saved-item.result ≡ get_or c.args.answers.now c.loop-saved.saved-index c.saved-item.result = search rules in
    let other : is_of_client c.saved-item.result.answer ≡ false = is_foreign c.saved-item.result.answer (λ state e. grind (arith, common_steps)) (λ page e. grind (arith, common_steps)) (λ query e. grind (arith, common_steps)) in
    record {
      states = tt;
      files = tt;
      answers = tt;
      foreign = subst (IsTold CheckErrorName.WrongFolder (Any (λ (s : Saved). is_of_client s.answer ≡ false) c.args.answers.now)) (sym c.in_file.ensures) (refl, (c.loop-saved.saved-index, c.saved-item.result, small, sym is, other));
      named = subst (NamesForeign c.args.answers.now) (sym c.in_file.ensures) (c.loop-saved.saved-index, c.saved-item.result, small, sym is, (other, refl, (ap Some c.as_str-file.ensures.value, refl)));
      told = subst (IsToldOf c.args.id.now) (sym c.in_file.ensures) refl;
    }

-- the records that pass of a file are those of what is in it
filed_by : (p : FiledState → Bool) (done after later : List FiledState) (file bytes : List ℕ) (states stored : List ConsensusState) → after ≡ done ++ filter p (map (λ s. (s, file)) states) → file ≡ bytes → states ≡ stored → later ≡ after → later ≡ done ++ filter p (map (λ s. (s, bytes)) stored)
filed_by p done after later file bytes states stored is f s e = subst (λ b. later ≡ done ++ filter p (map (λ x. (x, b)) stored)) f (subst (λ l. later ≡ done ++ filter p (map (λ x. (x, file)) l)) s (e ∙ is))

pub loop-saved-preserved : goal.loop-saved-preserved
loop-saved-preserved c =
    let small : c.loop-saved.saved-index < length c.args.answers.now = search rules in
    let is : c.saved-item.result ≡ get_or c.args.answers.now c.loop-saved.saved-index c.saved-item.result = search rules in
    let current : ConsensusState → Bool = λ s. nat_le c.args.revision s.revision in
    let filed : FiledState → Bool = λ f. nat_le c.args.revision f.0.revision in
    elim c.match-saved.branch [
      | in-ConsensusStates+in_ok-add_states-in-ConsensusStates w ↦ record {
        answers = of_client_more c.args.answers.now c.loop-saved.saved-index c.saved-item.result small is c.loop-saved.invariant.answers (grind (arith, common_steps));
        states = filtered_more current (λ s. stored_in s.answer) _ _ c.args.answers.now c.loop-saved.saved-index c.saved-item.result small is c.loop-saved.invariant.states (grind (arith, common_steps));
        files = filtered_more filed filed_states_in _ _ c.args.answers.now c.loop-saved.saved-index c.saved-item.result small is c.loop-saved.invariant.files (filed_by filed (map filed_state c.loop-saved.stored.items) (map filed_state w.add_states.new.stored.items) _ c.as_str-file.result.now (string_bytes c.saved-item.result.file) w.as_slice.result.now _ (search rules) (grind (arith, common_steps)) (grind (arith, common_steps)) (search rules));
      }
      | in-ClientState-1 w ↦ record {
        answers = of_client_more c.args.answers.now c.loop-saved.saved-index c.saved-item.result small is c.loop-saved.invariant.answers (grind (arith, common_steps));
        states = filtered_more current (λ s. stored_in s.answer) _ _ c.args.answers.now c.loop-saved.saved-index c.saved-item.result small is c.loop-saved.invariant.states (grind (arith, common_steps));
        files = filtered_more filed filed_states_in _ _ c.args.answers.now c.loop-saved.saved-index c.saved-item.result small is c.loop-saved.invariant.files (grind (arith, common_steps));
      }
      | in-Other-1 w ↦ record {
        answers = of_client_more c.args.answers.now c.loop-saved.saved-index c.saved-item.result small is c.loop-saved.invariant.answers (grind (arith, common_steps));
        states = filtered_more current (λ s. stored_in s.answer) _ _ c.args.answers.now c.loop-saved.saved-index c.saved-item.result small is c.loop-saved.invariant.states (grind (arith, common_steps));
        files = filtered_more filed filed_states_in _ _ c.args.answers.now c.loop-saved.saved-index c.saved-item.result small is c.loop-saved.invariant.files (grind (arith, common_steps));
      }
    ]
