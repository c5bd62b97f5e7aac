use Rattle.std.proofs.Common.{◌≡◌, ◌<◌, List, [], Some, None, length, rules, ap, sym, ◌∙◌}
use Rattle.std.specs.Prelude.{Vec, option_map, slice_get}
use Rattle.std.specs.Global.{Global}
use Rattle.std.specs.List.{flat_map}
use Rattle.rb_import_answers.specs.declared.verdicts.Verdicts.{Verdicts}
use Rattle.rb_import_check.specs.declared.saved.Saved.{Saved}
use Rattle.rb_import_check.specs.Verdicts.{verdicts_of}
use Rattle.rb_import_check.proofs.Sorting.{nothing_more}
use Rattle.rb_import.proofs.Firsts.{first_found, nil_from_none, verifier_first}
use Rattle.rb_import.proofs.opening.verifier_of.Goals as goal

abbrev held : Vec Saved Global → List Verdicts
held saved = verdicts_of saved.items

pub loop-saved-preserved : goal.loop-saved-preserved
loop-saved-preserved c =
    let items = c.deref-saved-items.result.now in
    let small : c.loop-saved.saved-index < length items = search rules in
    let none : slice_get (held c.saved-item.result) 0 ≡ None =
    ap (λ l. slice_get (verdicts_of l) 0) (sym c.as_slice.ensures.value) ∙ sym c.first_verdicts.ensures ∙ ap (option_map (λ v. v.now)) c.in_default.is in
    sym (nothing_more held [] items c.loop-saved.saved-index c.saved-item.result small c.saved-item.is (sym c.loop-saved.invariant) (nil_from_none (held c.saved-item.result) none))

pub returns-in-Some : goal.returns-in-Some
returns-in-Some c =
    let items = c.deref-saved-items.result.now in
    let small : c.loop-saved.saved-index < length items = search rules in
    let some : slice_get (held c.saved-item.result) 0 ≡ Some c.in-Some.verdicts.now =
    ap (λ l. slice_get (verdicts_of l) 0) (sym c.as_slice.ensures.value) ∙ sym c.first_verdicts.ensures ∙ ap (option_map (λ v. v.now)) c.in-Some.is in
    let first : slice_get (flat_map held items) 0 ≡ Some c.in-Some.verdicts.now =
    first_found held items c.loop-saved.saved-index c.saved-item.result c.in-Some.verdicts.now small c.saved-item.is c.loop-saved.invariant some in
    let all : slice_get (flat_map held c.args.answers.now.chains.items) 0 ≡ Some c.in-Some.verdicts.now = ap (λ l. slice_get (flat_map held l) 0) (sym c.deref-saved-items.ensures.value) ∙ first in
    c.as_str.ensures.value ∙ verifier_first (flat_map held c.args.answers.now.chains.items) c.in-Some.verdicts.now all
