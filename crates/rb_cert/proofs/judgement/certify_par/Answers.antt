use Rattle.std.proofs.Common.{◌≡◌, ◌∙◌, ap, sym, subst}
use Rattle.std.specs.Prelude.{IfErr, List, Option}
use Rattle.rb_step.specs.LightClient.{Update}
use Rattle.rb_step.specs.View.{client_of}
use Rattle.rb_script_types.specs.declared.goal.Goal.{Goal}
use Rattle.rb_plan_types.specs.Labelling.{Labels, label_of}
use Rattle.rb_plan_types.specs.Answer.{labels_of, claim_of}
use Rattle.rb_cert.specs.Refusal.{IsFirst}
use Rattle.rb_cert.proofs.Judged.{nothing_against}
use Rattle.rb_cert.proofs.judgement.certify_par.Goals as goal

pub returns-in-Err-clause-first : goal.returns-in-Err-clause-first
returns-in-Err-clause-first g c =
    let client = client_of c.args.view.now in
    let named : label_of c.labelling.result.now ≡ labels_of c.args.answer.now = ap label_of c.labelling.ensures in
    let judged = subst (λ r. IfErr r (λ r. (goal : Goal) (claim : Option (List Update)) → IsFirst client (label_of c.labelling.result.now) goal claim r)) c.in-Err.is c.check_labels_par.ensures.err in
    subst (λ (label : Labels). IsFirst client label c.args.goal (claim_of c.args.answer.now) c.in-Err.reason) named (judged c.args.goal (claim_of c.args.answer.now))

pub returns-in-Err-clause-accepts : goal.returns-in-Err-clause-accepts
returns-in-Err-clause-accepts g c exact shows =
    let client = client_of c.args.view.now in
    let named : label_of c.labelling.result.now ≡ labels_of c.args.answer.now = ap label_of c.labelling.ensures in
    let judged = subst (λ r. IfErr r (λ r. (goal : Goal) (claim : Option (List Update)) → IsFirst client (label_of c.labelling.result.now) goal claim r)) c.in-Err.is c.check_labels_par.ensures.err in
    let first = subst (λ (label : Labels). IsFirst client label c.args.goal (claim_of c.args.answer.now) c.in-Err.reason) named (judged c.args.goal (claim_of c.args.answer.now)) in
    absurd (nothing_against client (labels_of c.args.answer.now) c.args.goal c.check_labels_par.ensures.orderly (claim_of c.args.answer.now) exact shows c.in-Err.reason first.holds)
