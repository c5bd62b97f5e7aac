use Rattle.std.proofs.Common.{Any, List, [], subst}
use Rattle.std.proofs.lemmas.Bool.{iff_false}
use Rattle.rb_plan_types.specs.ProofHeight.{IsProofHeight}
use Rattle.rb_plan_client.specs.Task.{PathTask}
use Rattle.rb_step.specs.View.{View, client_of}
use Rattle.rb_explain.specs.Idle.{Goes, Owes}
use Rattle.rb_explain.proofs.Readiness.{messages_wait, nothing_goes, nothing_proved, some_there}
use Rattle.rb_explain.proofs.idle.idle_reason.Goals as goal

pub returns-then-branch : goal.returns-then-branch
returns-then-branch g c =
    let top = c.proof_height.result in
    let proof = subst (λ (v : View). IsProofHeight (client_of v) [] top) c.view.ensures c.proof_height.ensures in
    let some = some_there top c.is_none.result c.is_none.ensures c.if-is_none.false in
    let owed = subst (λ (ps : List PathTask). Any Owes ps) c.paths.ensures (c.owes.ensures.0 c.if-not-owes.false) in
    messages_wait c.args.job.now.task top c.args.reach.now proof some c.requires owed (c.in_ok-has_ready.ensures.0 c.if-branch.true)

pub returns-then-branch-2 : goal.returns-then-branch-2
returns-then-branch-2 g c =
    let t = c.args.job.now.task in
    let top = c.proof_height.result in
    let proof = subst (λ (v : View). IsProofHeight (client_of v) [] top) c.view.ensures c.proof_height.ensures in
    let some = some_there top c.is_none.result c.is_none.ensures c.if-is_none.false in
    let owed = subst (λ (ps : List PathTask). Any Owes ps) c.paths.ensures (c.owes.ensures.0 c.if-not-owes.false) in
    let goes = subst (λ (ps : List PathTask). Any (Goes t) ps) c.paths-2.ensures (c.in_ok-any_goes.ensures.0 c.if-branch-2.true) in
    nothing_proved t top c.args.reach.now proof some c.requires owed (iff_false c.in_ok-has_ready.ensures c.if-branch.false) goes

pub returns-else-branch-2 : goal.returns-else-branch-2
returns-else-branch-2 g c =
    let t = c.args.job.now.task in
    let top = c.proof_height.result in
    let proof = subst (λ (v : View). IsProofHeight (client_of v) [] top) c.view.ensures c.proof_height.ensures in
    let some = some_there top c.is_none.result c.is_none.ensures c.if-is_none.false in
    let owed = subst (λ (ps : List PathTask). Any Owes ps) c.paths.ensures (c.owes.ensures.0 c.if-not-owes.false) in
    let never = subst (λ (ps : List PathTask). Any (Goes t) ps → ⊥) c.paths-2.ensures (iff_false c.in_ok-any_goes.ensures c.if-branch-2.false) in
    nothing_goes t top c.args.reach.now proof some owed never
