-- Each batch that is opened is the right one.
use Rattle.std.proofs.Common.{◌≡◌, ◌≤◌, All, ℕ, ◌+◌, Option, Some, None, MatchOption, is_some, refl, sym, ap, ◌∙◌, subst, if◌then◌else◌}
use Rattle.std.specs.Option.{option_and_then}
use Rattle.std.proofs.lemmas.Option.{none-some, same_Some}
use Rattle.rb_plan_types.specs.Least.{IsUnreachable}
use Rattle.rb_scan.specs.Laws.{ReadyReceivesAreConsecutive, GoingReceivesAreConsecutive, ReadyIsWithinReach}
use Rattle.rb_step.specs.View.{client_of}
use Rattle.rb_core_model.specs.Batches.{IsRightBatch, BatchesAreRight, AreInTurn, receives_on}
use Rattle.rb_plan_client.specs.Draft.{Batch, Sending, nothing, too_big, batched, Plan, Planned as Answer, IsBatch, IsSending, IsPlan, IsPlanned, IsAnswer, Draft}
use Rattle.rb_core_model.specs.Event.{Planned}
use Rattle.rb_core_model.specs.Machine.{State, Opened, reply_for, batch_for, refusal_of, accepted, after, state_of}
use Rattle.rb_core_model.specs.Standing.{OpenBatch, ClientState, task_in, batch_of_sending, batch_of, batch_opened, with_batch, after_answer, batch_open}
use Rattle.rb_plan_client.specs.Task.{Message, view_of, messages_of}
use Rattle.rb_core_model.proofs.Drafted.{IsDrafted, drafted}
use Rattle.rb_core_model.proofs.Floors.{floors_fit}
use Rattle.rb_core_model.proofs.InTurn.{in_turn}
use Rattle.rb_core_model.proofs.Options.{chained, get_changed_same}
use Rattle.rb_core_model.proofs.AtHeight.{ready_at, same_proof}

-- ---- the plan that opens a batch

pub record Opens (number : ℕ) (answer : Option Answer) (b : OpenBatch) : Type 0 where
  pub planned : Answer
  pub plan : Plan
  pub batch : Batch
  pub is_planned : answer ≡ Some planned
  pub is_plan : planned.plan ≡ Some plan
  pub is_batched : plan.sending ≡ batched batch
  pub is : b ≡ record { number = number; proof = batch.proof; updates = plan.updates; messages = plan.messages; transactions = batch.transactions }

pub record Sends (number : ℕ) (p : Plan) (sending : Sending) (b : OpenBatch) : Type 0 where
  pub batch : Batch
  pub is_batched : sending ≡ batched batch
  pub is : b ≡ record { number = number; proof = batch.proof; updates = p.updates; messages = p.messages; transactions = batch.transactions }

sends : (number : ℕ) (p : Plan) (sending : Sending) (b : OpenBatch) → batch_of_sending number p sending ≡ Some b → Sends number p sending b
sends number p nothing b e = absurd (none-some b e)
sends number p (too_big index) b e = absurd (none-some b e)
sends number p (batched x) b e = record { batch = x; is_batched = refl; is = sym (same_Some _ b e) }

pub opens : (number : ℕ) (answer : Option Answer) (b : OpenBatch) → batch_of number answer ≡ Some b → Opens number answer b
opens number answer b e =
    let a = chained (λ (x : Answer). option_and_then (λ (p : Plan). batch_of_sending number p p.sending) x.plan) answer b e in
    let p = chained (λ (p : Plan). batch_of_sending number p p.sending) a.0.plan b a.2 in
    let x = sends number p.0 p.0.sending b p.2 in
    record { planned = a.0; plan = p.0; batch = x.batch; is_planned = a.1; is_plan = p.1; is_batched = x.is_batched; is = x.is }

replied : (o : Option OpenBatch) (number : ℕ) → reply_for o ≡ Opened number → (b : OpenBatch) × (o ≡ Some b) × (b.number ≡ number)
replied None number e = absurd (cc)
replied (Some b) number e = (b, refl, number_of e)
  where
    number_of : Opened b.number ≡ Opened number → b.number ≡ number
    number_of h = cc

-- the state after an event that is not refused
pub after_accepted : (s : State) (d : Draft) → refusal_of s (Planned d) ≡ None → after s (Planned d) ≡ accepted s (Planned d)
after_accepted s d e = ap (λ o. if is_some o then s else accepted s (Planned d)) e

-- ---- the batch is right

module _ (law : ReadyReceivesAreConsecutive) (going_too : GoingReceivesAreConsecutive) (within : ReadyIsWithinReach) (s : State) (d : Draft) where
  right_batch : (x : IsDrafted s d) (b : OpenBatch) → Opens (x.known.batches + 1) d.answer b → IsAnswer (task_in s.standing x.window d.job.client x.known) d.answer
      → IsRightBatch s.standing d.job.client b
  right_batch x b o right =
      let t = task_in s.standing x.window d.job.client x.known in
      let planned : IsPlanned t o.planned = subst (IsAnswer t) o.is_planned right in
      let plan : IsPlan t planned.reach o.planned.goal o.plan = subst (λ p. MatchOption p (IsUnreachable (client_of (view_of t)) o.planned.goal) (IsPlan t planned.reach o.planned.goal)) o.is_plan planned.plan in
      let batch : IsBatch t planned.reach o.plan o.batch = subst (IsSending t planned.reach o.plan) o.is_batched plan.sending in
      let proof : plan.proof ≡ Some o.batch.proof = same_proof (client_of (view_of t)) o.plan.updates plan.proof o.batch.proof plan.is_proof batch.proof in
      let messages : o.plan.messages ≡ messages_of t planned.reach (Some o.batch.proof) = plan.messages ∙ ap (messages_of t planned.reach) proof in
      let at = ready_at t planned.reach (Some o.batch.proof) in
      subst (IsRightBatch s.standing d.job.client) (sym o.is) (record {
        window = x.window;
        known = x.known;
        reach = planned.reach;
        goal = o.planned.goal;
        is_window = x.is_window;
        is_known = x.is_known;
        none_open = x.none_open;
        is_reach = planned.is_reach;
        is_goal = planned.goal;
        least = plan.least;
        messages = messages;
        cut = batch.transactions;
        proof = batch.proof;
        floors = subst (λ ms. All (λ (m : Message). m.packet.floor ≤ o.batch.proof) ms) (sym messages)
            (floors_fit within t planned.reach o.planned.goal o.plan.updates o.batch.proof planned.goal plan.least.meets batch.proof);
        in_turn = λ path v is ordered.
            subst (λ ms. AreInTurn v (receives_on path ms)) (sym (messages ∙ at.are)) (in_turn law going_too s.standing d.job.client path t at.height v is ordered);
      })

pub batches_right : ReadyReceivesAreConsecutive → GoingReceivesAreConsecutive → ReadyIsWithinReach → BatchesAreRight
batches_right law going_too within config log d number is accepted_by reply =
    let s : State = state_of config log in
    let x = drafted s d accepted_by in
    let b = replied (batch_for s d) number reply in
    let at : batch_for s d ≡ batch_opened x.known d.answer = ap (option_and_then (λ c. batch_opened c d.answer)) x.is_known in
    let opened : batch_opened x.known d.answer ≡ Some b.0 = sym at ∙ b.1 in
    let o = opens (x.known.batches + 1) d.answer b.0 opened in (
      b.0,
      b.2,
      ap (λ (u : State). batch_open u.standing d.job.client) (after_accepted s d accepted_by)
          ∙ ap (option_and_then (λ (c : ClientState). c.batch)) (get_changed_same (after_answer d.answer) s.standing.clients d.job.client x.known x.is_known)
          ∙ ap (λ o. (with_batch x.known o).batch) opened,
      right_batch law going_too within s d x b.0 o (subst (λ t. IsAnswer t d.answer) x.task is.answer),
    )
