-- A draft that is not refused was made for its client as things stand.
use Rattle.std.proofs.Common.{◌≡◌, ℕ, ◌+◌, true, false, not, ◌&&◌, List, [], ◌∷◌, Option, Some, None, is_some, refl, sym, ap, ◌∙◌}
use Rattle.std.specs.List.{slice_get, filter_map, cons_option, list_any, enumerate_from}
use Rattle.std.specs.Option.{option_map, option_map_or}
use Rattle.std.proofs.lemmas.Bool.{not-true, not-false, and_parts, or_parts, cond-true}
use Rattle.rb_base.specs.Window.{Span}
use Rattle.rb_scan.specs.declared.message.PacketMsg.{PacketMsg}
use Rattle.rb_base.specs.declared.gate.Part.{Part}
use Rattle.rb_base.specs.declared.gate.Part.TheVariants.{Packets, Channel}
use Rattle.rb_core_model.specs.Config.{part_for}
use Rattle.rb_plan_client.specs.Draft.{Job, Draft}
use Rattle.rb_core_model.specs.Event.{Planned}
use Rattle.rb_core_model.specs.Machine.{State, is_scanned, is_missed, all_scanned, seen_owed, job_of, client_view, is_known, is_held, is_job, draft_refusal, refusal_of}
use Rattle.rb_script_types.specs.declared.refusal.Refusal.TheVariants.{UnknownObject, Stale, Busy, Repeat, OutOfOrder, NotOwed, LogFull}
use Rattle.rb_plan_client.specs.Same.{same_job, same_job-Decides}
use Rattle.rb_core_model.specs.Standing.{ClientState, PathState, owed_at, path_task, task_of, task_in}
use Rattle.rb_plan_client.specs.Task.{PathTask}
use Rattle.rb_core_model.proofs.Options.{passes, mapped, chained, tested, none_from}

-- ---- what is seen of a path that was scanned is what it owes

seen : (s : State) (n : ℕ) (part : Part) → (is_scanned s n Packets && is_scanned s n Channel) ≡ true → seen_owed s n part ≡ owed_at s.standing n part
seen s n Packets e = cond-true (is_scanned s n Packets) _ _ (and_parts (is_scanned s n Packets) (is_scanned s n Channel) e).0
seen s n Channel e = cond-true (is_scanned s n Channel) _ _ (and_parts (is_scanned s n Packets) (is_scanned s n Channel) e).1

task_at : PathState → ℕ → (Part → List PacketMsg) → Part → PathTask
task_at p n owed part = record { path = n; order = p.config.order; gas = p.config.gas; waits = p.config.waits; owed = owed part }

one_task : (s : State) (n : ℕ) (p : PathState) (o : Option Part) → (is_some o && not (is_scanned s n Packets && is_scanned s n Channel)) ≡ false
    → option_map (task_at p n (seen_owed s n)) o ≡ option_map (task_at p n (owed_at s.standing n)) o
unfolding task_at
one_task s n p None e = refl
one_task s n p (Some part) e =
    let both = not-false (is_scanned s n Packets && is_scanned s n Channel) e in
    ap (λ owed. Some (record { path = n; order = p.config.order; gas = p.config.gas; waits = p.config.waits; owed = owed })) (seen s n part both)

all_tasks : (s : State) (client n : ℕ) (paths : List PathState) → list_any (is_missed s client) (enumerate_from n paths) ≡ false
    → filter_map (path_task (seen_owed s) client) (enumerate_from n paths) ≡ filter_map (path_task (owed_at s.standing) client) (enumerate_from n paths)
unfolding task_at
all_tasks s client n [] e = refl
all_tasks s client n (p ∷ paths) e =
    let parts = or_parts (is_missed s client (n, p)) (list_any (is_missed s client) (enumerate_from (n + 1) paths)) e in
    let here = one_task s n p (part_for p.config client) parts.0 in
    let rest = all_tasks s client (n + 1) paths parts.1 in
    λ i. cons_option (here i) (rest i)

-- ---- what a draft that is accepted says

pub record IsDrafted (s : State) (d : Draft) : Type 0 where
  pub window : Span
  pub known : ClientState
  pub is_window : s.standing.window ≡ Some window
  pub is_known : slice_get s.standing.clients d.job.client ≡ Some known
  pub none_open : known.batch ≡ None
  pub task : d.job.task ≡ task_in s.standing window d.job.client known

pub drafted : (s : State) (d : Draft) → refusal_of s (Planned d) ≡ None → IsDrafted s d
drafted s d e =
    let one = passes (not (is_known s (Planned d))) UnknownObject _ e in
    let two = passes _ LogFull (draft_refusal s d) one.1 in
    let three = passes _ Repeat _ two.1 in
    let four = passes _ OutOfOrder _ three.1 in
    let five = passes (is_held s d.job.client) Busy _ four.1 in
    let six = passes (not (all_scanned s d.job.client)) NotOwed _ five.1 in
    let seven = passes (not (is_job s d.job)) (Stale s.front) None six.1 in
    let job = tested (same_job d.job) (client_view s d.job.client) (not-false (is_job s d.job) seven.0) in
    let same : d.job ≡ job.0 = (same_job-Decides d.job job.0).0 job.2 in
    let found = chained (λ window. option_map (job_of s d.job.client window) (slice_get s.standing.clients d.job.client)) s.standing.window job.0 job.1 in
    let known = mapped (job_of s d.job.client found.0) (slice_get s.standing.clients d.job.client) job.0 found.2 in
    let tasks = all_tasks s d.job.client 0 s.standing.paths (not-true (list_any (is_missed s d.job.client) (enumerate_from 0 s.standing.paths)) (not-false (all_scanned s d.job.client) six.0)) in
    record {
      window = found.0;
      known = known.0;
      is_window = found.1;
      is_known = known.1;
      none_open = none_from known.0.batch (sym (ap (λ o. option_map_or (λ (c : ClientState). is_some c.batch) o false) known.1) ∙ five.0);
      task = ap (λ (j : Job). j.task) (same ∙ sym known.2) ∙ ap (λ paths. task_of found.0 s.standing.books paths known.0) tasks;
    }
