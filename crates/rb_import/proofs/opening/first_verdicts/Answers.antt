use Rattle.std.proofs.Common.{◌<◌, length, rules, ap, sym}
use Rattle.std.specs.Prelude.{slice_get}
use Rattle.rb_import_check.specs.declared.saved.Saved.{Saved}
use Rattle.rb_import_check.specs.Verdicts.{verdicts_in}
use Rattle.rb_import.proofs.Firsts.{first_found}
use Rattle.rb_import.proofs.opening.first_verdicts.Goals as goal

pub returns-in-Verdicts : goal.returns-in-Verdicts
returns-in-Verdicts c =
    let small : c.loop-saved.saved-index < length c.args.answers.now = search rules in
    sym (first_found (λ (s : Saved). verdicts_in s.answer) c.args.answers.now c.loop-saved.saved-index c.saved-item.result c.in-Verdicts.verdicts small c.saved-item.is c.loop-saved.invariant
    (ap (λ a. slice_get (verdicts_in a) 0) c.in-Verdicts.is))
