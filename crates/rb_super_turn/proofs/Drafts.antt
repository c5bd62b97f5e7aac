-- What is planned for a client where all is scanned is planned for it as things stand.
use Rattle.std.proofs.Common.{◌≡◌, ℕ, zero, suc, ◌+◌, ◌<◌, true, List, [], ◌∷◌, ◌++◌, Option, Some, None, IsSomeAnd, length, get_or, refl, sym, ap, ◌∙◌, subst, inl, inr, arith, add-zero}
use Rattle.std.specs.List.{slice_get, filter_map, cons_option, enumerate_from}
use Rattle.std.specs.Option.{option_map}
use Rattle.std.proofs.lemmas.Bool.{cases_eq, cond-true}
use Rattle.std.proofs.lemmas.List.{length-append}
use Rattle.std.proofs.lemmas.Option.{same_Some, slice_get_within}
use Rattle.rb_script_types.specs.declared.config.ClientConfig.{ClientConfig}
use Rattle.rb_scan.specs.declared.message.PacketMsg.{PacketMsg}
use Rattle.rb_base.specs.declared.gate.Part.{Part}
use Rattle.rb_core_model.specs.Config.{part_for}
use Rattle.rb_core.specs.Core.{Core, state_in}
use Rattle.rb_plan_client.specs.Draft.{Job, Draft, IsDraft}
use Rattle.rb_core_model.specs.Machine.{State, is_scanned, seen_owed, job_of, client_view}
use Rattle.rb_core_model.specs.Standing.{ClientState, PathState, Standing, book_at, owed_at, path_task, path_tasks, task_of}
use Rattle.rb_plan_client.specs.Task.{PathTask}
use Rattle.rb_core_model.proofs.Options.{mapped, chained}
use Rattle.rb_super_turn.specs.Drafts.{IsDraftFor, AreDrafts}
use Rattle.rb_super_turn.specs.Phases.{standing_in, IsPlannable}
use Rattle.rb_super_turn.proofs.Configs.{known_config}
use Rattle.rb_super_turn.proofs.Steps.{sizes_in}

-- ---- the book of a view

pub book_seen : (core : Core) (client : ℕ) (c : ClientConfig) (job : Job) → client < length core.config.clients → c ≡ get_or core.config.clients client c
    → client_view (state_in core) client ≡ Some job → job.task.book ≡ book_at (standing_in core).books c.tracks
book_seen core client c job lt at view =
    let s = state_in core in
    let w = chained (λ window. option_map (job_of s client window) (slice_get s.standing.clients client)) s.standing.window job view in
    let k = mapped (job_of s client w.0) (slice_get s.standing.clients client) job w.2 in
    ap (λ (j : Job). j.task.book) (sym k.2) ∙ ap (λ (x : ClientConfig). book_at s.standing.books x.tracks) (known_config core client c lt at k.0 k.1)

-- ---- what is seen to be owed

owed_as : (owed : Part → List PacketMsg) → ℕ → PathState → Part → PathTask
owed_as owed n p part = record { path = n; order = p.config.order; gas = p.config.gas; waits = p.config.waits; owed = owed part }

one_task : (seen owed : Part → List PacketMsg) (n : ℕ) (p : PathState) → ((part : Part) → seen part ≡ owed part) → (o : Option Part)
    → option_map (owed_as seen n p) o ≡ option_map (owed_as owed n p) o
unfolding owed_as
one_task seen owed n p same None = refl
one_task seen owed n p same (Some part) = ap (λ messages. Some (record { path = n; order = p.config.order; gas = p.config.gas; waits = p.config.waits; owed = messages })) (same part)

all_tasks : (seen owed : ℕ → Part → List PacketMsg) (client n : ℕ) (paths : List PathState) → ((k : ℕ) (part : Part) → k < length paths → seen (n + k) part ≡ owed (n + k) part)
    → filter_map (path_task seen client) (enumerate_from n paths) ≡ filter_map (path_task owed client) (enumerate_from n paths)
unfolding owed_as
all_tasks seen owed client n [] same = refl
all_tasks seen owed client n (p ∷ paths) same =
    let here = one_task (seen n) (owed n) n p (λ part. subst (λ k. seen k part ≡ owed k part) (add-zero n) (same 0 part (omega arith))) (part_for p.config client) in
    let rest = all_tasks seen owed client (n + 1) paths (λ k part lt. let next : n + suc k ≡ (n + 1) + k = omega arith in subst (λ m. seen m part ≡ owed m part) next (same (suc k) part (omega arith))) in
    λ i. cons_option (here i) (rest i)

tasks_seen : (s : State) (client : ℕ) → ((path : ℕ) (part : Part) → path < length s.standing.paths → is_scanned s path part ≡ true)
    → path_tasks (seen_owed s) s.standing.paths client ≡ path_tasks (owed_at s.standing) s.standing.paths client
tasks_seen s client scanned =
    all_tasks (seen_owed s) (owed_at s.standing) client 0 s.standing.paths
    (λ k part lt. cond-true (is_scanned s (0 + k) part) _ _ (let same : k ≡ 0 + k = omega arith in subst (λ m. is_scanned s m part ≡ true) same (scanned k part lt)))

-- ---- a draft

pub draft_is : (core : Core) (client : ℕ) (d : Draft) → IsPlannable core → client_view (state_in core) client ≡ Some d.job → IsDraft d
    → (known : ClientState) → slice_get (standing_in core).clients client ≡ Some known → IsDraftFor (standing_in core) client known d
draft_is core client d ready view right known at =
    let s = state_in core in
    let w = chained (λ window. option_map (job_of s client window) (slice_get s.standing.clients client)) s.standing.window d.job view in
    let k = mapped (job_of s client w.0) (slice_get s.standing.clients client) d.job w.2 in
    let same : k.0 ≡ known = same_Some k.0 known (sym k.1 ∙ at) in
    let job : d.job ≡ job_of s client w.0 known = sym k.2 ∙ ap (job_of s client w.0) same in
    let tasks = tasks_seen s client (λ path part lt. ready.scanned path part (subst (λ n. path < n) (sizes_in core).paths lt)) in
    record {
      client = ap (λ (j : Job). j.client) job;
      window = w.0;
      is_window = w.1;
      task = ap (λ (j : Job). j.task) job ∙ ap (λ paths. task_of w.0 s.standing.books paths known) tasks;
      held = ap (λ (j : Job). j.held) job;
      right = right;
    }

-- ---- drafts one after another

-- the drafts of the first clients
pub record AreFirst (s : Standing) (n : ℕ) (drafts : List Draft) : Type 0 where
  pub count : length drafts ≡ n
  pub each : (client : ℕ) (known : ClientState) → client < n → slice_get s.clients client ≡ Some known → IsSomeAnd (slice_get drafts client) (IsDraftFor s client known)

get_first : {X : Type 0} (xs : List X) (x : X) (k : ℕ) → k < length xs → slice_get (xs ++ x ∷ []) k ≡ slice_get xs k
get_first [] x k lt = absurd (omega arith)
get_first (y ∷ xs) x zero lt = refl
get_first (y ∷ xs) x (suc k) lt = get_first xs x k (omega arith)

get_last : {X : Type 0} (xs : List X) (x : X) (k : ℕ) → length xs ≡ k → slice_get (xs ++ x ∷ []) k ≡ Some x
get_last [] x zero e = refl
get_last [] x (suc k) e = absurd (omega arith)
get_last (y ∷ xs) x zero e = absurd (omega arith)
get_last (y ∷ xs) x (suc k) e = get_last xs x k (omega arith)

pub first_none : (s : Standing) → AreFirst s 0 []
first_none s = record { count = refl; each = λ client known lt at. absurd (omega arith) }

pub first_more : (s : Standing) (n : ℕ) (drafts : List Draft) (d : Draft) → AreFirst s n drafts
    → ((known : ClientState) → slice_get s.clients n ≡ Some known → IsDraftFor s n known d) → AreFirst s (n + 1) (drafts ++ d ∷ [])
first_more s n drafts d first next = record {
  count = let count = first.count in omega (arith, length-append drafts (d ∷ []));
  each = λ client known lt at.
      let count = first.count in
      elim (cases_eq client n) [
        | inl same ↦
            subst (λ o. IsSomeAnd o (IsDraftFor s client known)) (sym (get_last drafts d client (count ∙ sym same)))
            (subst (λ k. IsDraftFor s k known d) (sym same) (next known (ap (slice_get s.clients) (sym same) ∙ at)))
        | inr other ↦
            subst (λ o. IsSomeAnd o (IsDraftFor s client known)) (sym (get_first drafts d client (omega arith)))
            (first.each client known (omega arith) at)
      ];
}

pub first_all : (s : Standing) (n : ℕ) (drafts : List Draft) → n ≡ length s.clients → AreFirst s n drafts → AreDrafts s drafts
first_all s n drafts all first = record {
  count = first.count ∙ all;
  each = λ client known at. let within = slice_get_within s.clients client known at in first.each client known (omega arith) at;
}
