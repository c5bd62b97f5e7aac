-- A client that is judged by how things stand.
use Rattle.std.proofs.Common.{◌≡◌, ℕ, ◌<◌, List, Option, Some, None, MatchOption, Result, Ok, length, refl, sym, ap, ◌∙◌, subst}
use Rattle.std.specs.List.{slice_get}
use Rattle.std.specs.Option.{option_and_then, unwrap_or}
use Rattle.std.specs.Result.{result_ok}
use Rattle.std.specs.declared.alloc.AllocError.{AllocError}
use Rattle.std.proofs.lemmas.Option.{none-some, same_Some}
use Rattle.rb_cert.specs.declared.verdict.Judgement.{Judgement}
use Rattle.rb_cert.specs.declared.verdict.Judgement.TheVariants.{Yes}
use Rattle.rb_core.specs.Core.{Core, state_in}
use Rattle.rb_plan_client.specs.Draft.{Job, Draft}
use Rattle.rb_core_model.specs.Machine.{client_view}
use Rattle.rb_core_model.specs.Standing.{OpenBatch, ClientState, Standing, task_in, batch_open}
use Rattle.rb_plan_client.specs.Task.{Task, view_of, goal_of}
use Rattle.rb_core_model.proofs.Drafted.{drafted}
use Rattle.rb_core_model.proofs.Options.{some_from}
use Rattle.rb_script_types.specs.declared.goal.Goal.{Goal}
use Rattle.rb_plan_types.specs.Answer.{Shows}
use Rattle.rb_plan_types.specs.Labelling.{Labels, IsSound, IsExact}
use Rattle.rb_step.specs.LightClient.{Update}
use Rattle.rb_step.specs.View.{client_of}
use Rattle.rb_super_turn.specs.Judging.{IsClientIn, IsWanted, IsPlannedGoal, IsVerdictFor, IsVerdictIn, IsRightAs, IsExactAs}
use Rattle.rb_super_turn.specs.Phases.{standing_in, HasLogRoom, IsPlannable}
use Rattle.rb_super_turn.proofs.OneReport.{one_reach}
use Rattle.rb_super_turn.proofs.Plans.{known_at, client_of_view, draft_accepted}

-- ---- the client is one, and so is its goal

pub one_known : (s : Standing) (client : ℕ) (k l : ClientState) (t u : Task) → IsClientIn s client k t → IsClientIn s client l u → k ≡ l
one_known s client k l t u a b = same_Some k l (sym a.is_known ∙ b.is_known)

pub one_task : (s : Standing) (client : ℕ) (k l : ClientState) (t u : Task) → IsClientIn s client k t → IsClientIn s client l u → t ≡ u
one_task s client k l t u a b =
    let window : a.window ≡ b.window = same_Some a.window b.window (sym a.is_window ∙ b.is_window) in
    let known = one_known s client k l t u a b in
    a.is_task ∙ (λ i. task_in s (window i) client (known i)) ∙ sym b.is_task

one_wanted : (t : Task) (g h : Option Goal) → IsWanted t g → IsWanted t h → g ≡ h
one_wanted t g h a b = a.is_goal ∙ ap (goal_of t) (one_reach (client_of (view_of t)) a.reach b.reach a.is_reach b.is_reach) ∙ sym b.is_goal

pub one_goal : (k : ClientState) (t : Task) (g h : Option Goal) → IsPlannedGoal k t g → IsPlannedGoal k t h → g ≡ h
one_goal k t g h a b = go k.batch a b
  where
    go : (o : Option OpenBatch) → MatchOption o (IsWanted t g) (λ b. g ≡ None) → MatchOption o (IsWanted t h) (λ b. h ≡ None) → g ≡ h
    go None p q = one_wanted t g h p q
    go (Some b) p q = p ∙ sym q

-- ---- a client that is held

pub held_there : (core : Core) (client : ℕ) (b : OpenBatch) → client < length core.config.clients → IsPlannable core → Some b ≡ batch_open (standing_in core) client
    → (known : ClientState) × (task : Task) × IsClientIn (standing_in core) client known task × IsPlannedGoal known task None
held_there core client b lt ready is_open =
    let k = known_at core client lt in
    let w = some_from (standing_in core).window ready.window in
    let batch : k.0.batch ≡ Some b = sym (ap (option_and_then (λ (x : ClientState). x.batch)) k.1) ∙ sym is_open in
    let task = task_in (standing_in core) w.0 client k.0 in (
      k.0,
      task,
      record { window = w.0; is_window = w.1; is_known = k.1; is_task = refl },
      subst (λ o. MatchOption o (IsWanted task None) (λ b. ◌≡◌ {A = Option Goal} None None)) (sym batch) refl,
    )

-- ---- a client that is planned for

-- what is seen of it is how it stands
pub job_there : (core : Core) (client : ℕ) (job : Job) → client < length core.config.clients → HasLogRoom core 1 → IsPlannable core
    → batch_open (standing_in core) client ≡ None → client_view (state_in core) client ≡ Some job
    → (known : ClientState) × IsClientIn (standing_in core) client known job.task × (known.batch ≡ None)
job_there core client job lt room ready none_open view =
    let d : Draft = record { job = job; answer = None; next = None } in
    let x = drafted (state_in core) d (draft_accepted core client d lt room ready none_open view) in
    let place : job.client ≡ client = client_of_view (state_in core) client d view in (
      x.known,
      record {
        window = x.window;
        is_window = x.is_window;
        is_known = ap (slice_get (standing_in core).clients) (sym place) ∙ x.is_known;
        is_task = x.task ∙ ap (λ n. task_in (standing_in core) x.window n x.known) place;
      },
      x.none_open,
    )

wanted_free : (k : ClientState) (t : Task) (goal : Option Goal) → k.batch ≡ None → IsWanted t goal → IsPlannedGoal k t goal
wanted_free k t goal free wanted = subst (λ o. MatchOption o (IsWanted t goal) (λ b. goal ≡ None)) (sym free) wanted

module _ (core : Core) (client : ℕ) (job : Job) (lt : client < length core.config.clients) (room : HasLogRoom core 1) (ready : IsPlannable core)
    (none_open : batch_open (standing_in core) client ≡ None) (view : client_view (state_in core) client ≡ Some job)
    (goal : Option Goal) (wanted : IsWanted job.task goal) (labels : Labels) (claim : Option (List Update)) (verdict : Option Judgement) where
  pub judged_there : IsVerdictFor (view_of job.task) goal labels claim verdict → IsVerdictIn (standing_in core) client labels claim verdict
  judged_there judged =
      let x = job_there core client job lt room ready none_open view in
      record { known = x.0; task = job.task; is = x.1; goal = goal; is_planned = wanted_free x.0 job.task goal x.2 wanted; judged = judged }

  pub right_there : (verdict ≡ Some Yes → (g : Goal) × (goal ≡ Some g) × IsSound (client_of (view_of job.task)) labels × Shows (client_of (view_of job.task)) g claim)
      → ◌≡◌ {A = Result (Option Judgement) AllocError} (Ok verdict) (Ok (Some Yes)) → IsRightAs (standing_in core) client labels claim
  right_there right answered =
      let said : verdict ≡ Some Yes = ap (λ (r : Result (Option Judgement) AllocError). unwrap_or (result_ok r) verdict) answered in
      let x = job_there core client job lt room ready none_open view in
      let r = right said in
      record {
        known = x.0;
        task = job.task;
        is = x.1;
        goal = r.0;
        is_planned = wanted_free x.0 job.task (Some r.0) x.2 (subst (IsWanted job.task) r.1 wanted);
        sound = r.2;
        shows = r.3;
      }

  pub accepts_there : ((g : Goal) → goal ≡ Some g → IsExact (client_of (view_of job.task)) labels → Shows (client_of (view_of job.task)) g claim → verdict ≡ Some Yes)
      → IsExactAs (standing_in core) client labels claim → verdict ≡ Some Yes
  accepts_there accepts own =
      let x = job_there core client job lt room ready none_open view in
      let g = own.goal in
      let knowns : own.known ≡ x.0 = one_known (standing_in core) client own.known x.0 own.task job.task own.is x.1 in
      let tasks : own.task ≡ job.task = one_task (standing_in core) client own.known x.0 own.task job.task own.is x.1 in
      let mine : IsPlannedGoal x.0 job.task (Some g) = subst (λ (p : ClientState × Task). IsPlannedGoal p.0 p.1 (Some g)) (λ i. (knowns i, tasks i)) own.is_planned in
      let goals : goal ≡ Some g = one_goal x.0 job.task goal (Some g) (wanted_free x.0 job.task goal x.2 wanted) mine in
      accepts g goals (subst (λ (t : Task). IsExact (client_of (view_of t)) labels) tasks own.exact) (subst (λ (t : Task). Shows (client_of (view_of t)) g claim) tasks own.shows)

-- one that is held has no answer
pub held_alone : (core : Core) (client : ℕ) (b : OpenBatch) → client < length core.config.clients → IsPlannable core → Some b ≡ batch_open (standing_in core) client
    → (known : ClientState) (task : Task) (g : Goal) → IsClientIn (standing_in core) client known task → IsPlannedGoal known task (Some g) → ⊥
held_alone core client b lt ready is_open known task g is planned =
    let x = held_there core client b lt ready is_open in
    let knowns : known ≡ x.0 = one_known (standing_in core) client known x.0 task x.1 is x.2 in
    let tasks : task ≡ x.1 = one_task (standing_in core) client known x.0 task x.1 is x.2 in
    let mine : IsPlannedGoal x.0 x.1 (Some g) = subst (λ (p : ClientState × Task). IsPlannedGoal p.0 p.1 (Some g)) (λ i. (knowns i, tasks i)) planned in
    none-some g (one_goal x.0 x.1 None (Some g) x.3 mine)
