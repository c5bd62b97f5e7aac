use Rattle.std.proofs.Common.{◌≡◌, ◌≢◌, ◌<◌, [], ◌∷◌, Some, length, take, get_or, false, ◌∙◌, arith, inl, inr, rules, ap, refl, subst, sym}
use Rattle.std.proofs.lemmas.Bool.{true≢false}
use Rattle.std.specs.Prelude.{option_map, option_to_list}
use Rattle.std.proofs.lemmas.List.{take_all}
use Rattle.std.proofs.lemmas.Grind.{common_steps}
use Rattle.rb_import_check.specs.Named.{NamesOf, filed_verdicts_of}
use Rattle.rb_import_check.specs.Refusals.{HasReasonOf}
use Rattle.rb_import_check.specs.Verdicts.{verdicts_in, verdicts_of}
use Rattle.rb_import_check.proofs.ChainReasons.{other_verdicts, two_files}
use Rattle.rb_import_check.proofs.Naming.{any_filed, two_filed}
use Rattle.rb_import_check.proofs.Sorting.{one_of}
use Rattle.rb_import_check.proofs.verdicts.verdicts_in.Goals as goal

pub returns-then-not-are_on_chain-clause-reason : goal.returns-then-not-are_on_chain-clause-reason
returns-then-not-are_on_chain-clause-reason c =
    let small : c.loop-saved.saved-index < length c.args.answers.now = search rules in
    let is : c.saved-item.result ≡ get_or c.args.answers.now c.loop-saved.saved-index c.saved-item.result = search rules in
    let unlike : c.are_on_chain.result ≡ false = search rules in
    let other : c.in-Verdicts.verdicts.chain ≢ c.args.id.now = (λ same. true≢false (sym (c.are_on_chain.ensures.1 same) ∙ unlike)) in
    subst (HasReasonOf c.args.id.now c.args.answers.now) (sym c.of_other_chain.ensures)
    (inr (other_verdicts c.args.id.now c.args.answers.now c.loop-saved.saved-index c.saved-item.result c.in-Verdicts.verdicts small is (ap verdicts_in c.in-Verdicts.is) other))

pub returns-in-Some-clause-reason : goal.returns-in-Some-clause-reason
returns-in-Some-clause-reason c =
    let small : c.loop-saved.saved-index < length c.args.answers.now = search rules in
    let is : c.saved-item.result ≡ get_or c.args.answers.now c.loop-saved.saved-index c.saved-item.result = search rules in
    let before : c.in-Some.field-0-1.now ∷ [] ≡ verdicts_of (take c.loop-saved.saved-index c.args.answers.now) = grind (arith, common_steps) in
    subst (HasReasonOf c.args.id.now c.args.answers.now) (sym c.in_files.ensures)
    (inl (two_files c.args.answers.now c.loop-saved.saved-index c.saved-item.result c.in-Some.field-0-1.now c.in-Verdicts.verdicts small is before (ap verdicts_in c.in-Verdicts.is)))

pub returns-then-not-are_on_chain-clause-named : goal.returns-then-not-are_on_chain-clause-named
returns-then-not-are_on_chain-clause-named c =
    let small : c.loop-saved.saved-index < length c.args.answers.now = search rules in
    let is : c.saved-item.result ≡ get_or c.args.answers.now c.loop-saved.saved-index c.saved-item.result = search rules in
    let unlike : c.are_on_chain.result ≡ false = search rules in
    let other : c.in-Verdicts.verdicts.chain ≢ c.args.id.now = (λ same. true≢false (sym (c.are_on_chain.ensures.1 same) ∙ unlike)) in
    subst (NamesOf c.args.id.now c.args.answers.now) (sym c.of_other_chain.ensures)
    (inr (any_filed verdicts_in _ c.args.answers.now c.loop-saved.saved-index c.saved-item.result c.in-Verdicts.verdicts small is (ap verdicts_in c.in-Verdicts.is) (other, ap Some c.as_str.ensures.text, refl, (ap Some c.as_str-file.ensures.value, refl))))

pub returns-in-Some-clause-named : goal.returns-in-Some-clause-named
returns-in-Some-clause-named c =
    let small : c.loop-saved.saved-index < length c.args.answers.now = search rules in
    let is : c.saved-item.result ≡ get_or c.args.answers.now c.loop-saved.saved-index c.saved-item.result = search rules in
    let before : (c.in-Some.field-0-1.now, c.in-Some.earlier.now) ∷ [] ≡ filed_verdicts_of (take c.loop-saved.saved-index c.args.answers.now) = grind (arith, common_steps) in
    subst (NamesOf c.args.id.now c.args.answers.now) (sym c.in_files.ensures)
    (inr (_, _, two_filed verdicts_in c.args.answers.now c.loop-saved.saved-index c.saved-item.result c.in-Some.field-0-1.now c.in-Verdicts.verdicts _ small is before (ap verdicts_in c.in-Verdicts.is), refl, (refl, ap Some c.as_str-file.ensures.value)))

pub returns-clause-chain : goal.returns-clause-chain
returns-clause-chain c =
    let all : take c.loop-saved.saved-index c.args.answers.now ≡ c.args.answers.now = take_all _ _ (search rules) in
    one_of (λ p. p.1.now) (λ v. v.chain ≡ c.args.id.now) c.loop-saved.found (verdicts_of c.args.answers.now)
    (subst (λ l. option_to_list (option_map (λ p. p.1.now) c.loop-saved.found) ≡ verdicts_of l) all c.loop-saved.invariant.verdicts) c.loop-saved.invariant.chain
