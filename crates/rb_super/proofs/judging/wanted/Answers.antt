use Rattle.std.proofs.Common.{◌≡◌, Option, Some, None, sym, ap, ◌∙◌, subst}
use Rattle.std.specs.Option.{option_map}
use Rattle.rb_plan_client.specs.Draft.{Job, Draft, Planned, IsAnswer, IsDraft}
use Rattle.rb_super_turn.specs.Judging.{IsWanted}
use Rattle.rb_super.proofs.judging.wanted.Goals as goal

-- what a job's draft is for
drafted_goal : (d : Draft) (job : Job) (answer : Option Planned) → IsDraft d → d.job ≡ job → answer ≡ d.answer → IsWanted job.task (option_map (λ (p : Planned). p.goal) answer)
drafted_goal d job answer draft of is =
    subst (λ (j : Job). IsWanted j.task (option_map (λ (p : Planned). p.goal) answer)) of (go answer (subst (IsAnswer d.job.task) (sym is) draft.answer))
  where
    go : (a : Option Planned) → IsAnswer d.job.task a → IsWanted d.job.task (option_map (λ (p : Planned). p.goal) a)
    go None idle = record { reach = idle.reach; is_reach = idle.is_reach; is_goal = sym idle.goal }
    go (Some p) right = record { reach = right.reach; is_reach = right.is_reach; is_goal = sym right.goal }

pub returns-in-Some : goal.returns-in-Some
returns-in-Some g c =
    let job = c.in_ok-draft.ensures.job ∙ c.in_ok-copy.ensures in
    subst (IsWanted c.args.job.now.task) (ap (λ x. Some x) (sym c.goal.ensures))
    (drafted_goal c.in_ok-draft.draft c.args.job.now (Some c.in-Some.planned.now) c.in_ok-draft.ensures.right job c.in-Some.ensures.value)

pub returns : goal.returns
returns g c =
    let job = c.in_ok-draft.ensures.job ∙ c.in_ok-copy.ensures in
    drafted_goal c.in_ok-draft.draft c.args.job.now None c.in_ok-draft.ensures.right job c.in-None.ensures.value
