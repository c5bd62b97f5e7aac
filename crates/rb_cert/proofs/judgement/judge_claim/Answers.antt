use Rattle.std.proofs.Common.{List, Some, None, sym, subst}
use Rattle.std.proofs.lemmas.Result.{IfErr-weaker, on_ok_weaker}
use Rattle.rb_step.specs.LightClient.{Update}
use Rattle.rb_step.specs.View.{client_of}
use Rattle.rb_plan_types.specs.declared.answer.Answer.{Answer}
use Rattle.rb_plan_types.specs.Least.{IsLeast, IsUnreachable}
use Rattle.rb_plan_types.specs.Labelling.{IsSound, IsExact, label_of}
use Rattle.rb_plan_types.proofs.Bounds.{unreachable_from_labels}
use Rattle.rb_plan_types.specs.Answer.{Shows, labels_of, claim_of}
use Rattle.rb_cert.specs.Judgement.{Judges}
use Rattle.rb_cert.proofs.Judged.{judged, yes_where_none, holds_at_yes, first_of_none, none_holds_of_none, nothing_against_least, nothing_against_none}
use Rattle.rb_cert.proofs.judgement.judge_claim.Goals as goal

pub returns-in-Plan-clause-first : goal.returns-in-Plan-clause-first
returns-in-Plan-clause-first g c =
    let client = client_of c.args.view.now in
    let label = label_of c.in-Plan.labelling in
    subst (λ (a : Answer _). Judges client (labels_of a) c.args.goal (claim_of a) c.verdict_of.result) (sym c.in-Plan.is)
    (subst (λ (us : List Update). Judges client label c.args.goal (Some us) c.verdict_of.result) c.deref.ensures.value
    (judged client label c.args.goal (Some c.deref.result.now) c.check_plan.result c.verdict_of.result c.verdict_of.ensures c.check_plan.ensures.none c.check_plan.ensures.err))

pub returns-in-Plan-clause-accepts : goal.returns-in-Plan-clause-accepts
returns-in-Plan-clause-accepts g c exact shows =
    let client = client_of c.args.view.now in
    let label = label_of c.in-Plan.labelling in
    let exact' : IsExact client label = subst (λ (a : Answer _). IsExact client (labels_of a)) c.in-Plan.is exact in
    let least : IsLeast client c.args.goal c.in-Plan.updates.items = subst (λ (a : Answer _). Shows client c.args.goal (claim_of a)) c.in-Plan.is shows in
    let least' : IsLeast client c.args.goal c.deref.result.now = subst (IsLeast client c.args.goal) (sym c.deref.ensures.value) least in
    yes_where_none client label c.args.goal (Some c.deref.result.now) c.check_plan.result c.verdict_of.result c.verdict_of.ensures c.check_plan.ensures.err
    (nothing_against_least client label c.args.goal c.requires.orderly c.deref.result.now exact' least')

pub returns-in-Unreachable-clause-first : goal.returns-in-Unreachable-clause-first
returns-in-Unreachable-clause-first g c =
    let client = client_of c.args.view.now in
    let label = label_of c.in-Unreachable.labelling in
    let sound : IsSound client label = subst (λ (a : Answer _). IsSound client (labels_of a)) c.in-Unreachable.is c.requires.sound in
    subst (λ (a : Answer _). Judges client (labels_of a) c.args.goal (claim_of a) c.verdict_of-in-Unreachable.result) (sym c.in-Unreachable.is)
    (judged client label c.args.goal None c.check_none_wanted.result c.verdict_of-in-Unreachable.result c.verdict_of-in-Unreachable.ensures
    (on_ok_weaker c.check_none_wanted.result (none_holds_of_none client label c.args.goal sound) c.check_none_wanted.ensures.ok)
    (IfErr-weaker c.check_none_wanted.result _ _ (λ r of. first_of_none client label c.args.goal sound r (of c.args.view.now)) c.check_none_wanted.ensures.err))

pub returns-in-Unreachable-clause-shows : goal.returns-in-Unreachable-clause-shows
returns-in-Unreachable-clause-shows g c says =
    let client = client_of c.args.view.now in
    let label = label_of c.in-Unreachable.labelling in
    let sound : IsSound client label = subst (λ (a : Answer _). IsSound client (labels_of a)) c.in-Unreachable.is c.requires.sound in
    subst (λ (a : Answer _). Shows client c.args.goal (claim_of a)) (sym c.in-Unreachable.is)
    (holds_at_yes _ c.check_none_wanted.result c.verdict_of-in-Unreachable.result c.verdict_of-in-Unreachable.ensures
    (on_ok_weaker c.check_none_wanted.result (unreachable_from_labels client label c.requires.orderly sound c.args.goal) c.check_none_wanted.ensures.ok) says)

pub returns-in-Unreachable-clause-accepts : goal.returns-in-Unreachable-clause-accepts
returns-in-Unreachable-clause-accepts g c exact shows =
    let client = client_of c.args.view.now in
    let label = label_of c.in-Unreachable.labelling in
    let sound : IsSound client label = subst (λ (a : Answer _). IsSound client (labels_of a)) c.in-Unreachable.is c.requires.sound in
    let exact' : IsExact client label = subst (λ (a : Answer _). IsExact client (labels_of a)) c.in-Unreachable.is exact in
    let none : IsUnreachable client c.args.goal = subst (λ (a : Answer _). Shows client c.args.goal (claim_of a)) c.in-Unreachable.is shows in
    yes_where_none client label c.args.goal None c.check_none_wanted.result c.verdict_of-in-Unreachable.result c.verdict_of-in-Unreachable.ensures
    (IfErr-weaker c.check_none_wanted.result _ _ (λ r of. first_of_none client label c.args.goal sound r (of c.args.view.now)) c.check_none_wanted.ensures.err)
    (nothing_against_none client label c.args.goal c.requires.orderly exact' none)
