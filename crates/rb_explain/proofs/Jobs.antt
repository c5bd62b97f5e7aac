-- Clients as they are planned for, one after another.
use Rattle.std.proofs.Common.{◌≡◌, ℕ, zero, suc, ◌+◌, ◌<◌, ◌⊎◌, Bool, true, List, [], ◌∷◌, ◌++◌, Option, Some, None, IfSome, IsSomeAnd, is_some, length, map, get_or, refl, sym, ap, ◌∙◌, subst, inl, inr, arith, add-zero}
use Rattle.std.specs.List.{AllZip, slice_get, filter_map, cons_option, enumerate_from}
use Rattle.std.specs.Option.{option_map}
use Rattle.std.proofs.lemmas.Bool.{cond-true}
use Rattle.std.proofs.lemmas.List.{length-append}
use Rattle.std.proofs.lemmas.Option.{same_Some, none-some, slice_get_within, slice_get-get_or}
use Rattle.rb_base.specs.Window.{Span}
use Rattle.rb_base.specs.declared.gate.Part.{Part}
use Rattle.rb_scan.specs.declared.message.PacketMsg.{PacketMsg}
use Rattle.rb_core.specs.Core.{Core, state_in}
use Rattle.rb_core_model.specs.Config.{part_for}
use Rattle.rb_core_model.specs.Machine.{State, is_scanned, seen_owed, job_of, client_view}
use Rattle.rb_core_model.specs.Standing.{ClientState, PathState, Standing, owed_at, path_task, path_tasks, task_in, task_of}
use Rattle.rb_core_model.proofs.Options.{mapped, chained}
use Rattle.rb_plan_client.specs.Draft.{Job}
use Rattle.rb_plan_client.specs.Task.{PathTask, Task}
use Rattle.rb_super_turn.specs.Phases.{standing_in, IsPlannable}
use Rattle.rb_super_turn.specs.Report.{ClientReport}
use Rattle.rb_super_turn.specs.Script.{Turn}
use Rattle.rb_super_turn.specs.Turns.{before_plans, IsClientReport, IsOutcome, IsTurnReport}
use Rattle.rb_super_turn.specs.Views.{client_report_view, turn_report_view}
use Rattle.rb_super_turn.specs.declared.report.ClientReport.{ClientReport as CodeReport}
use Rattle.rb_super_turn.proofs.Sizes.{at_place}
use Rattle.rb_super_turn.proofs.Steps.{sizes_in}
use Rattle.rb_explain.specs.Client.{IsRight}
use Rattle.rb_explain.specs.Turn.{AreExplained, AreJobs, AreRight, IsExplainedAt, IsJobFor, IsRightFor, IsToldIn, IsTurnExplained}
use Rattle.rb_explain.specs.Subjects.{AreSubjects}
use Rattle.rb_explain.specs.Wanted.{has_client, has_turn}
use Rattle.rb_explain.specs.declared.client.ClientExplanation.{ClientExplanation}
use Rattle.rb_explain.specs.declared.turn.TurnExplanation.{TurnExplanation}
use Rattle.rb_explain.specs.declared.wanted.Detail.{Detail}
use Rattle.rb_explain.specs.declared.wanted.Wanted.{Wanted}

-- ---- what is owed, where all is scanned

owed_as : (owed : Part → List PacketMsg) → ℕ → PathState → Part → PathTask
owed_as owed n p part = record { path = n; order = p.config.order; gas = p.config.gas; waits = p.config.waits; owed = owed part }

one_task : (seen owed : Part → List PacketMsg) (n : ℕ) (p : PathState) → ((part : Part) → seen part ≡ owed part) → (o : Option Part)
    → option_map (owed_as seen n p) o ≡ option_map (owed_as owed n p) o
unfolding owed_as
one_task seen owed n p same None = refl
one_task seen owed n p same (Some part) = ap (λ messages. Some (record { path = n; order = p.config.order; gas = p.config.gas; waits = p.config.waits; owed = messages })) (same part)

all_tasks : (seen owed : ℕ → Part → List PacketMsg) (client n : ℕ) (paths : List PathState) → ((k : ℕ) (part : Part) → k < length paths → seen (n + k) part ≡ owed (n + k) part)
    → filter_map (path_task seen client) (enumerate_from n paths) ≡ filter_map (path_task owed client) (enumerate_from n paths)
unfolding owed_as
all_tasks seen owed client n [] same = refl
all_tasks seen owed client n (p ∷ paths) same =
    let here = one_task (seen n) (owed n) n p (λ part. subst (λ k. seen k part ≡ owed k part) (add-zero n) (same 0 part (omega arith))) (part_for p.config client) in
    let rest = all_tasks seen owed client (n + 1) paths (λ k part lt. let next : n + suc k ≡ (n + 1) + k = omega arith in subst (λ m. seen m part ≡ owed m part) next (same (suc k) part (omega arith))) in
    λ i. cons_option (here i) (rest i)

tasks_seen : (s : State) (client : ℕ) → ((path : ℕ) (part : Part) → path < length s.standing.paths → is_scanned s path part ≡ true)
    → path_tasks (seen_owed s) s.standing.paths client ≡ path_tasks (owed_at s.standing) s.standing.paths client
tasks_seen s client scanned =
    all_tasks (seen_owed s) (owed_at s.standing) client 0 s.standing.paths
    (λ k part lt. cond-true (is_scanned s (0 + k) part) _ _ (let same : k ≡ 0 + k = omega arith in subst (λ m. is_scanned s m part ≡ true) same (scanned k part lt)))

-- a client that is seen is as things stand
pub job_is : (core : Core) (place : ℕ) (job : Job) → IsPlannable core → client_view (state_in core) place ≡ Some job
    → (known : ClientState) → slice_get (standing_in core).clients place ≡ Some known → IsJobFor (standing_in core) place known job
job_is core place job ready view known at =
    let s = state_in core in
    let w = chained (λ window. option_map (job_of s place window) (slice_get s.standing.clients place)) s.standing.window job view in
    let k = mapped (job_of s place w.0) (slice_get s.standing.clients place) job w.2 in
    let same : k.0 ≡ known = same_Some k.0 known (sym k.1 ∙ at) in
    let is : job ≡ job_of s place w.0 known = sym k.2 ∙ ap (job_of s place w.0) same in
    let tasks = tasks_seen s place (λ path part lt. ready.scanned path part (subst (λ n. path < n) (sizes_in core).paths lt)) in
    record {
      client = ap (λ (j : Job). j.client) is;
      window = w.0;
      is_window = w.1;
      task = ap (λ (j : Job). j.task) is ∙ ap (λ paths. task_of w.0 s.standing.books paths known) tasks;
    }

-- the client that is seen is known
known_of : (s : State) (place : ℕ) (job : Job) → client_view s place ≡ Some job → (known : ClientState) × (slice_get s.standing.clients place ≡ Some known)
known_of s place job view =
    let w = chained (λ window. option_map (job_of s place window) (slice_get s.standing.clients place)) s.standing.window job view in
    let k = mapped (job_of s place w.0) (slice_get s.standing.clients place) job w.2 in
    (k.0, k.1)

-- ---- lists that grow

module _ {X : Type 0} where
  -- what stands in a list with one more stands in the list, or is the last one
  pub get_grown : (xs : List X) (x y : X) (k : ℕ) → slice_get (xs ++ x ∷ []) k ≡ Some y → (slice_get xs k ≡ Some y) ⊎ ((k ≡ length xs) × (x ≡ y))
  get_grown [] x y zero is = inr (refl, same_Some x y is)
  get_grown [] x y (suc k) is = absurd (none-some y is)
  get_grown (z ∷ xs) x y zero is = inl is
  get_grown (z ∷ xs) x y (suc k) is = go (get_grown xs x y k is)
    where
      go : (slice_get xs k ≡ Some y) ⊎ ((k ≡ length xs) × (x ≡ y)) → (slice_get xs k ≡ Some y) ⊎ ((suc k ≡ length (z ∷ xs)) × (x ≡ y))
      go (inl e) = inl e
      go (inr e) = inr (omega (arith, e.0), e.1)

pub at_index : {X : Type 0} (xs : List X) (i : ℕ) (x : X) → i < length xs → x ≡ get_or xs i x → slice_get xs i ≡ Some x
at_index xs i x lt is = slice_get-get_or xs i x lt ∙ ap (λ y. Some y) (sym is)

-- the jobs of the first clients
pub record AreFirstJobs (s : State) (asked : ℕ → Bool) (n : ℕ) (jobs : List (Option Job)) : Type 0 where
  pub count : length jobs ≡ n
  pub each : (place : ℕ) (job : Job) → slice_get jobs place ≡ Some (Some job) → client_view s place ≡ Some job
  pub seen : (place : ℕ) (o : Option Job) → slice_get jobs place ≡ Some o → is_some o ≡ asked place

pub jobs_none : (s : State) (asked : ℕ → Bool) → AreFirstJobs s asked 0 []
jobs_none s asked = record { count = refl; each = λ place job at. absurd (none-some (Some job) at); seen = λ place o at. absurd (none-some o at) }

some_job : (s : State) (n : ℕ) (o : Option Job) (job : Job) → IfSome o (λ j. client_view s n ≡ Some j) → o ≡ Some job → client_view s n ≡ Some job
some_job s n None job is e = absurd (none-some job e)
some_job s n (Some j) job is e = is ∙ e

pub jobs_more : (s : State) (asked : ℕ → Bool) (n : ℕ) (jobs : List (Option Job)) (o : Option Job) → AreFirstJobs s asked n jobs → IfSome o (λ j. client_view s n ≡ Some j) → is_some o ≡ asked n
    → AreFirstJobs s asked (n + 1) (jobs ++ o ∷ [])
jobs_more s asked n jobs o first next here_asked = record {
  count = let count = first.count in omega (arith, length-append jobs (o ∷ []));
  each = λ place job at. go place job (get_grown jobs o (Some job) place at);
  seen = λ place p at. see place p (get_grown jobs o p place at);
}
  where
    see : (place : ℕ) (p : Option Job) → (slice_get jobs place ≡ Some p) ⊎ ((place ≡ length jobs) × (o ≡ p)) → is_some p ≡ asked place
    see place p (inl at) = first.seen place p at
    see place p (inr here) = ap (λ (q : Option Job). is_some q) (sym here.1) ∙ here_asked ∙ ap asked (sym (here.0 ∙ first.count))

    go : (place : ℕ) (job : Job) → (slice_get jobs place ≡ Some (Some job)) ⊎ ((place ≡ length jobs) × (o ≡ Some job)) → client_view s place ≡ Some job
    go place job (inl at) = first.each place job at
    go place job (inr here) = subst (λ k. client_view s k ≡ Some job) (sym (here.0 ∙ first.count)) (some_job s n o job next here.1)

pub jobs_all : (s : State) (asked : ℕ → Bool) (n : ℕ) (jobs : List (Option Job)) → n ≡ length s.standing.clients → AreFirstJobs s asked n jobs → AreJobs s asked jobs
jobs_all s asked n jobs all first = record { count = first.count ∙ all; each = first.each; seen = first.seen }

-- ---- their outcomes are right

module _ {A : Type 0} where
  mapped_at : (rs : List (CodeReport A)) (k : ℕ) (r : CodeReport A) → slice_get rs k ≡ Some r → slice_get (map client_report_view rs) k ≡ Some (client_report_view r)
  mapped_at [] k r at = absurd (none-some r at)
  mapped_at (x ∷ rs) zero r at = ap (λ o. option_map client_report_view o) at
  mapped_at (x ∷ rs) (suc k) r at = mapped_at rs k r at

reported_at : (s : Standing) (n : ℕ) (cs : List ClientState) (rs : List ClientReport) (k : ℕ) (c : ClientState) (r : ClientReport) → AllZip (IsClientReport s) (enumerate_from n cs) rs
    → slice_get cs k ≡ Some c → slice_get rs k ≡ Some r → IsClientReport s (n + k, c) r
reported_at s n [] rs k c r all at is = absurd (none-some c at)
reported_at s n (x ∷ cs) [] k c r all at is = absurd all
reported_at s n (x ∷ cs) (y ∷ rs) zero c r all at is =
    subst (λ (p : (ℕ × ClientState) × ClientReport). IsClientReport s p.0 p.1) (λ i. ((sym (add-zero n) i, same_Some x c at i), same_Some y r is i)) all.0
reported_at s n (x ∷ cs) (y ∷ rs) (suc k) c r all at is =
    let next : (n + 1) + k ≡ n + suc k = omega arith in
    subst (λ m. IsClientReport s (m, c) r) next (reported_at s (n + 1) cs rs k c r all.1 at is)

right_here : (s : Standing) (place : ℕ) (known : ClientState) (job : Job) (r : ClientReport) → IsJobFor s place known job → IsClientReport s (place, known) r → IsRight job.task r.outcome
right_here s place known job r is report =
    let window : report.window ≡ is.window = same_Some report.window is.window (sym report.is_window ∙ is.is_window) in
    let task : task_in s report.window place known ≡ job.task = ap (λ (w : Span). task_in s w place known) window ∙ sym is.task in
    (known, subst (λ (t : Task). IsOutcome t known r.outcome) task report.outcome)

pub jobs_right : {A : Type 0} (core : Core) (asked : ℕ → Bool) (jobs : List (Option Job)) (rs : List (CodeReport A)) → IsPlannable core → AreJobs (state_in core) asked jobs
    → AllZip (IsClientReport (standing_in core)) (enumerate_from 0 (standing_in core).clients) (map client_report_view rs) → AreRight jobs rs
jobs_right core asked jobs rs ready are reports = λ place job r at is.
    let view = are.each place job at in
    let k = known_of (state_in core) place job view in
    let first : 0 + place ≡ place = omega arith in
    let report = subst (λ (n : ℕ). IsClientReport (standing_in core) (n, k.0) (client_report_view r)) first
    (reported_at (standing_in core) 0 (standing_in core).clients (map client_report_view rs) place k.0 (client_report_view r) reports k.1 (mapped_at rs place r is)) in
    right_here (standing_in core) place k.0 job (client_report_view r) (job_is core place job ready view k.0 k.1) report

-- ---- they are explained

-- the first of them are
pub record AreFirstExplained {A : Type 0} (detail : Detail) (jobs : List (Option Job)) (rs : List (CodeReport A)) (n : ℕ) (xs : List (Option (ClientExplanation A))) : Type 0 where
  pub count : length xs ≡ n
  pub each : AreExplained detail jobs rs xs

module _ {A : Type 0} (detail : Detail) (jobs : List (Option Job)) (rs : List (CodeReport A)) where
  pub explained_none : AreFirstExplained detail jobs rs 0 []
  explained_none = record { count = refl; each = λ place job r x at is told. absurd (none-some x told) }

  pub explained_more : (n : ℕ) (xs : List (Option (ClientExplanation A))) (job : Option Job) (r : CodeReport A) (x : Option (ClientExplanation A)) → slice_get jobs n ≡ Some job → slice_get rs n ≡ Some r
      → IsExplainedAt detail job r x → AreFirstExplained detail jobs rs n xs → AreFirstExplained detail jobs rs (n + 1) (xs ++ x ∷ [])
  explained_more n xs job r x job_at r_at told first = record {
    count = let count = first.count in omega (arith, length-append xs (x ∷ []));
    each = λ place j q y j_at q_at y_at. go place j q y j_at q_at (get_grown xs x y place y_at);
  }
    where
      go : (place : ℕ) (j : Option Job) (q : CodeReport A) (y : Option (ClientExplanation A)) → slice_get jobs place ≡ Some j → slice_get rs place ≡ Some q
          → (slice_get xs place ≡ Some y) ⊎ ((place ≡ length xs) × (x ≡ y)) → IsExplainedAt detail j q y
      go place j q y j_at q_at (inl at) = first.each place j q y j_at q_at at
      go place j q y j_at q_at (inr here) =
          let place_is : place ≡ n = here.0 ∙ first.count in
          let job_is_j : job ≡ j = same_Some job j (sym job_at ∙ ap (slice_get jobs) (sym place_is) ∙ j_at) in
          let r_is_q : r ≡ q = same_Some r q (sym r_at ∙ ap (slice_get rs) (sym place_is) ∙ q_at) in
          subst (λ (p : Option Job × CodeReport A × Option (ClientExplanation A)). IsExplainedAt detail p.0 p.1 p.2) (λ i. (job_is_j i, r_is_q i, here.1 i)) told

  pub right_at : (n : ℕ) (job : Option Job) (r : CodeReport A) → AreRight jobs rs → slice_get jobs n ≡ Some job → slice_get rs n ≡ Some r → IfSome job (λ j. IsRightFor j r)
  right_at n None r right job_at r_at = tt
  right_at n (Some j) r right job_at r_at = right n j r job_at r_at

-- ---- a turn is explained

module _ {A : Type 0} where
  told_in : (core : Core) (asked : ℕ → Bool) (detail : Detail) (place : ℕ) (known : ClientState) (r : CodeReport A) (jobs : List (Option Job)) (o : Option Job) (y : Option (ClientExplanation A))
      → IsPlannable core → AreJobs (state_in core) asked jobs → slice_get (standing_in core).clients place ≡ Some known → slice_get jobs place ≡ Some o → IsExplainedAt detail o r y
      → IsToldIn (standing_in core) detail place known r (is_some o) y
  told_in core asked detail place known r jobs None y ready are here at told = told
  told_in core asked detail place known r jobs (Some job) None ready are here at told = absurd told
  told_in core asked detail place known r jobs (Some job) (Some x) ready are here at told = record {
    job = job;
    is_job = job_is core place job ready (are.each place job at) known here;
    explained = told;
  }

  -- what stands in the list of explanations at a client's place
  told_at : (core : Core) (asked : ℕ → Bool) (detail : Detail) (place : ℕ) (known : ClientState) (r : CodeReport A) (jobs : List (Option Job)) (rs : List (CodeReport A)) (ys : List (Option (ClientExplanation A)))
      → IsPlannable core → AreJobs (state_in core) asked jobs → length ys ≡ length jobs → slice_get (standing_in core).clients place ≡ Some known → slice_get rs place ≡ Some r → AreExplained detail jobs rs ys
      → IsSomeAnd (slice_get ys place) (IsToldIn (standing_in core) detail place known r (asked place))
  told_at core asked detail place known r jobs rs ys ready are long here r_at explained =
      let within = slice_get_within (standing_in core).clients place known here in
      let count = are.count in
      let o = at_place jobs place (omega arith) in
      let y = at_place ys place (omega arith) in
      let told = told_in core asked detail place known r jobs o.0 y.0 ready are here o.1 (explained place o.0 r y.0 o.1 r_at y.1) in
      subst (λ (z : Option (Option (ClientExplanation A))). IsSomeAnd z (IsToldIn (standing_in core) detail place known r (asked place))) (sym y.1)
      (subst (λ b. IsToldIn (standing_in core) detail place known r b y.0) (are.seen place o.0 o.1) told)

  pub turn_explained : (core : Core) (s : Standing) (turn : Turn) (wanted : Wanted) (jobs : List (Option Job)) (x : TurnExplanation A) → IsPlannable core → standing_in core ≡ before_plans s turn
      → AreJobs (state_in core) (has_client wanted x.turn) jobs → x.window ≡ turn.window → AreSubjects (has_turn wanted x.turn) turn.events x.subjects.items
      → IsTurnReport s turn (turn_report_view x.report) → length x.clients.items ≡ length jobs → length jobs ≡ length x.report.clients.items
      → AreExplained wanted.detail jobs x.report.clients.items x.clients.items → IsTurnExplained s turn wanted x
  turn_explained core s turn wanted jobs x ready is are window subjects report long many explained = record {
    window = window;
    report = report;
    subjects = subjects;
    count = long ∙ many;
    clients = λ place known r at r_at.
        let here : slice_get (standing_in core).clients place ≡ Some known = ap (λ (t : Standing). slice_get t.clients place) is ∙ at in
        subst (λ (t : Standing). IsSomeAnd (slice_get x.clients.items place) (IsToldIn t wanted.detail place known r (has_client wanted x.turn place))) is
        (told_at core (has_client wanted x.turn) wanted.detail place known r jobs x.report.clients.items x.clients.items ready are long here r_at explained);
  }

  pub explained_as : {detail : Detail} {jobs others : List (Option Job)} {rs qs : List (CodeReport A)} {xs ys : List (Option (ClientExplanation A))} → jobs ≡ others → rs ≡ qs → xs ≡ ys → AreExplained detail jobs rs xs → AreExplained detail others qs ys
  explained_as {detail} same_jobs same_reports same told =
      subst (λ (p : List (Option Job) × List (CodeReport A) × List (Option (ClientExplanation A))). AreExplained detail p.0 p.1 p.2) (λ i. (same_jobs i, same_reports i, same i)) told

  pub right_as : {jobs others : List (Option Job)} {rs qs : List (CodeReport A)} → jobs ≡ others → rs ≡ qs → AreRight jobs rs → AreRight others qs
  right_as same_jobs same_reports right = subst (λ (p : List (Option Job) × List (CodeReport A)). AreRight p.0 p.1) (λ i. (same_jobs i, same_reports i)) right

-- the reports of a turn's clients, as things stand where they are planned
pub reports_here : (core : Core) (s : Standing) (turn : Turn) (rs : List ClientReport) → standing_in core ≡ before_plans s turn
    → AllZip (IsClientReport (before_plans s turn)) (enumerate_from 0 (before_plans s turn).clients) rs → AllZip (IsClientReport (standing_in core)) (enumerate_from 0 (standing_in core).clients) rs
reports_here core s turn rs is all = subst (λ (t : Standing). AllZip (IsClientReport t) (enumerate_from 0 t.clients) rs) (sym is) all

-- as many are seen as are reported
pub as_many : {A : Type 0} (core : Core) (asked : ℕ → Bool) (jobs : List (Option Job)) (rs : List (CodeReport A)) → AreJobs (state_in core) asked jobs → length rs ≡ length core.config.clients → length jobs ≡ length rs
as_many core asked jobs rs are count = are.count ∙ (sizes_in core).clients ∙ sym count
