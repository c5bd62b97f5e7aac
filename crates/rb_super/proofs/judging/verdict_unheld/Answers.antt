use Rattle.std.proofs.Common.{◌≡◌, Some, subst}
use Rattle.rb_cert.specs.declared.verdict.Judgement.TheVariants.{Yes}
use Rattle.rb_script_types.specs.declared.goal.Goal.{Goal}
use Rattle.rb_plan_types.specs.Answer.{labels_of, claim_of, Shows}
use Rattle.rb_plan_types.specs.Labelling.{IsSound, IsExact}
use Rattle.rb_step.specs.View.{View, client_of}
use Rattle.rb_super_turn.specs.Judging.{IsVerdictFor}
use Rattle.rb_super_turn.proofs.Judged.{judged_there, right_there, accepts_there}
use Rattle.rb_super.proofs.judging.verdict_unheld.Goals as goal

pub returns-clause-judged : goal.returns-clause-judged
returns-clause-judged g c =
    let labels = labels_of c.args.answer.now in
    let claim = claim_of c.args.answer.now in
    let verdict = c.verdict_for-verdict.result in
    judged_there c.args.relayer.now c.args.client c.in_ok-job.job c.requires.client c.requires.room c.requires.ready c.requires.none_open c.in_ok-job.ensures c.in_ok-goal.goal c.in_ok-goal.ensures
    labels claim verdict (subst (λ (v : View). IsVerdictFor v c.in_ok-goal.goal labels claim verdict) c.view-view.ensures c.verdict_for-verdict.ensures.judged)

pub returns-clause-right : goal.returns-clause-right
returns-clause-right g c =
    let labels = labels_of c.args.answer.now in
    let claim = claim_of c.args.answer.now in
    let verdict = c.verdict_for-verdict.result in
    right_there c.args.relayer.now c.args.client c.in_ok-job.job c.requires.client c.requires.room c.requires.ready c.requires.none_open c.in_ok-job.ensures c.in_ok-goal.goal c.in_ok-goal.ensures
    labels claim verdict
    (subst (λ (v : View). verdict ≡ Some Yes → (g : Goal) × (c.in_ok-goal.goal ≡ Some g) × IsSound (client_of v) labels × Shows (client_of v) g claim) c.view-view.ensures c.verdict_for-verdict.ensures.right)

pub returns-clause-accepts : goal.returns-clause-accepts
returns-clause-accepts g c =
    let labels = labels_of c.args.answer.now in
    let claim = claim_of c.args.answer.now in
    let verdict = c.verdict_for-verdict.result in
    accepts_there c.args.relayer.now c.args.client c.in_ok-job.job c.requires.client c.requires.room c.requires.ready c.requires.none_open c.in_ok-job.ensures c.in_ok-goal.goal c.in_ok-goal.ensures
    labels claim verdict
    (subst (λ (v : View). (g : Goal) → c.in_ok-goal.goal ≡ Some g → IsExact (client_of v) labels → Shows (client_of v) g claim → verdict ≡ Some Yes) c.view-view.ensures c.verdict_for-verdict.ensures.accepts)
