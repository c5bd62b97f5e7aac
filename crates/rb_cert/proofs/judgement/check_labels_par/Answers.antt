use Rattle.std.proofs.lemmas.Result.{err_from_is_err_and, IfErr-weaker, on_ok_weaker}
use Rattle.rb_step.specs.View.{client_of}
use Rattle.rb_plan_types.specs.Labelling.{label_of}
use Rattle.rb_cert.specs.Checks.{AreStepsLow}
use Rattle.rb_cert.proofs.Judged.{first_of_sources, first_of_steps, sound_from_checks}
use Rattle.rb_cert.proofs.judgement.check_labels_par.Goals as goal

pub returns-in_err-check_sources-clause-err : goal.returns-in_err-check_sources-clause-err
returns-in_err-check_sources-clause-err g c =
    let p = err_from_is_err_and c.from_residual.result c.from_residual.ensures.1 in
    rw (p.1, p.2) (λ goal claim. first_of_sources (client_of c.args.view.now) (label_of c.args.labelling.now) goal claim _ (c.in_err-check_sources.ensures.err goal claim))

pub returns-clause-ok : goal.returns-clause-ok
returns-clause-ok g c =
    let client = client_of c.args.view.now in
    let label = label_of c.args.labelling.now in
    on_ok_weaker c.check_steps_par.result (λ (low : AreStepsLow client label). sound_from_checks client label c.in_ok-check_sources.ensures.ok low) c.check_steps_par.ensures.ok

pub returns-clause-err : goal.returns-clause-err
returns-clause-err g c =
    IfErr-weaker c.check_steps_par.result _ _ (λ r of goal claim. first_of_steps (client_of c.args.view.now) (label_of c.args.labelling.now) goal c.in_ok-check_sources.ensures.ok claim r (of goal claim)) c.check_steps_par.ensures.err
