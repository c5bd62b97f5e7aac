-- What is reported of a draft that is accepted.
use Rattle.std.proofs.Common.{◌≡◌, ℕ, zero, suc, ◌+◌, List, [], ◌∷◌, map, set, Option, Some, None, is_some, refl, sym, ap, ◌∙◌, subst, if◌then◌else◌}
use Rattle.std.specs.List.{slice_get}
use Rattle.std.specs.Option.{option_map, option_map_or, option_and_then}
use Rattle.std.proofs.lemmas.Option.{same_Some}
use Rattle.rb_step.specs.LightClient.{Update}
use Rattle.rb_plan_client.specs.Draft.{Sending, nothing, too_big, batched, Plan, Planned as Answer, Draft, planned_updates, IsDraft, IsIdle, IsPlanned, IsAnswer}
use Rattle.rb_plan_client.specs.Next.{IsNext}
use Rattle.rb_core_model.specs.Event.{Planned}
use Rattle.rb_core_model.specs.Machine.{State, accepted, after}
use Rattle.rb_core_model.specs.Standing.{ClientState, task_in, with_batch, batch_of_sending, batch_of, after_answer, changed_at}
use Rattle.rb_plan_client.specs.Task.{Task, too_big_messages}
use Rattle.rb_core_model.proofs.Drafted.{drafted}
use Rattle.rb_super_turn.specs.Accepted.{AcceptedDraftsAreReported}
use Rattle.rb_super_turn.specs.Report.{PlanReport as ReportedPlan, idle, planned}
use Rattle.rb_super_turn.specs.Turns.{priced, numbered, reported, reported_plan, outcome_of, update_of, batch_sent, opened, IsOutcome, after_outcome}

-- ---- what a plan leaves

pub updates_back : (t : Task) (us : List Update) → map update_of (map (priced t) us) ≡ us
updates_back t [] = refl
updates_back t (u ∷ us) = ap (λ vs. u ∷ vs) (updates_back t us)

batch_back : (t : Task) (number : ℕ) (p : Plan) (x : Sending) → batch_sent (reported_plan t number p) (numbered number x) ≡ batch_of_sending number p x
batch_back t number p nothing = refl
batch_back t number p (too_big index) = refl
batch_back t number p (batched b) =
    ap (λ us. Some (record { number = number; proof = b.proof; updates = us; messages = p.messages; transactions = b.transactions })) (updates_back t p.updates)

pub opened_back : (t : Task) (number : ℕ) (next : Option ℕ) (a : Answer) → opened (reported t number next a) ≡ batch_of number (Some a)
opened_back t number next a = go a.plan
  where
    go : (o : Option Plan) → option_and_then (λ (p : ReportedPlan). batch_sent p p.sending) (option_map (reported_plan t number) o) ≡ option_and_then (λ (p : Plan). batch_of_sending number p p.sending) o
    go None = refl
    go (Some p) = batch_back t number p p.sending

pub same_client : (c : ClientState) (d : Draft) → after_outcome (outcome_of c d) c ≡ after_answer d.answer c
same_client c d = go d.answer
  where
    go : (o : Option Answer) → after_outcome (option_map_or (λ a. planned (reported d.job.task (c.batches + 1) d.next a)) o (idle d.next)) c ≡ after_answer o c
    go None = refl
    go (Some a) = ap (with_batch c) (opened_back d.job.task (c.batches + 1) d.next a)

pub changed_by : (f g : ClientState → ClientState) (cs : List ClientState) (i : ℕ) (c : ClientState) → slice_get cs i ≡ Some c → f c ≡ g c → changed_at f cs i ≡ changed_at g cs i
changed_by f g cs i c at e =
    ap (λ o. option_map_or (λ x. set cs i (f x)) o cs) at ∙ ap (set cs i) e ∙ sym (ap (λ o. option_map_or (λ x. set cs i (g x)) o cs) at)

pub set_same : {X : Type 0} (xs : List X) (i : ℕ) (x : X) → slice_get xs i ≡ Some x → set xs i x ≡ xs
set_same [] i x e = refl
set_same (y ∷ xs) zero x e = ap (λ z. z ∷ xs) (sym (same_Some y x e))
set_same (y ∷ xs) (suc i) x e = ap (λ ys. y ∷ ys) (set_same xs i x e)

pub right_outcome : (t : Task) (c : ClientState) (d : Draft) → c.batch ≡ None → d.job.task ≡ t → IsDraft d → IsOutcome t c (outcome_of c d)
right_outcome t c d not_held task is = go d.answer is.answer is.next
  where
    go : (o : Option Answer) → IsAnswer d.job.task o → IsNext d.job.task (planned_updates o) d.next
        → IsOutcome t c (option_map_or (λ a. planned (reported d.job.task (c.batches + 1) d.next a)) o (idle d.next))
    go None right next = (not_held, subst (λ u. IsIdle u) task right, subst (λ u. IsNext u [] d.next) task next)
    go (Some a) right next = (
      not_held,
      record {
        answer = a;
        right = subst (λ u. IsPlanned u a) task right;
        next = subst (λ u. IsNext u (planned_updates (Some a)) d.next) task next;
        is = ap (λ u. reported u (c.batches + 1) d.next a) task;
      },
    )

-- ---- the law

pub accepted_reported : AcceptedDraftsAreReported
accepted_reported s d c is ok at =
    let x = drafted s d ok in
    let known : x.known ≡ c = same_Some x.known c (sym x.is_known ∙ at) in
    let task : d.job.task ≡ task_in s.standing x.window d.job.client c = x.task ∙ ap (task_in s.standing x.window d.job.client) known in
    let t = task_in s.standing x.window d.job.client c in
    let none_open : c.batch ≡ None = ap (λ (k : ClientState). k.batch) (sym known) ∙ x.none_open in
    let next : after s (Planned d) ≡ accepted s (Planned d) = ap (λ o. if is_some o then s else accepted s (Planned d)) ok in (
      record {
        id = refl;
        window = x.window;
        is_window = x.is_window;
        outcome = right_outcome t c d none_open task is;
        too_big = ap (λ u. too_big_messages u) task ∙ sym (ap (λ o. if is_some o then [] else too_big_messages t) none_open);
      },
      ap (λ (t : State). t.standing) next
          ∙ ap (λ cs. record s.standing { clients = cs }) (changed_by (after_answer d.answer) (after_outcome (outcome_of c d)) s.standing.clients d.job.client c at (sym (same_client c d))),
    )
