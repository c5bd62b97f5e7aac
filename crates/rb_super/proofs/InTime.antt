-- A message that presses in a turn goes in it.
use Rattle.std.proofs.Common.{◌≡◌, ℕ, zero, suc, ◌+◌, nat_le, true, false, List, [], ◌∷◌, Option, Some, None, MatchOption, IsSomeAnd, sym, ap, ◌∙◌, subst, inr, arith}
use Rattle.std.specs.List.{enumerate_from, flat_map, slice_get}
use Rattle.std.specs.Option.{option_map, option_map_or}
use Rattle.std.proofs.lemmas.Bool.{le-leb}
use Rattle.std.proofs.lemmas.Option.{none-some, same_Some}
use Rattle.std.proofs.lemmas.Slice.Zip.{AllZip-left}
use Rattle.rb_book.specs.Invariant.{IsBook}
use Rattle.rb_plan_types.specs.Least.{IsUnreachable}
use Rattle.rb_scan.specs.Owed.{ready, ready_beyond}
use Rattle.rb_scan.specs.declared.message.PacketMsg.{PacketMsg}
use Rattle.rb_script_types.specs.declared.config.RefreshTo.TheVariants.{Newer}
use Rattle.rb_step.specs.View.{client_of}
use Rattle.rb_plan_client.specs.Draft.{Sending, nothing, too_big, batched, Plan, IsSending, IsPlan}
use Rattle.rb_plan_client.specs.Reach.{IsReach}
use Rattle.rb_plan_client.specs.Task.{PathTask, Task, Message, view_of, message_on, going_on, ready_on, ready_messages, near_reach, press_moment, press_moments_on, presses}
use Rattle.rb_core_model.specs.Standing.{OpenBatch, ClientState, Standing, task_in}
use Rattle.rb_super_turn.specs.Report.{PlanReport, PlannedReport, Outcome, held, idle, planned, ClientReport, TurnReport}
use Rattle.rb_super_turn.specs.Script.{Turn}
use Rattle.rb_super_turn.specs.Turns.{before_plans, numbered, reported_plan, IsOutcome, IsClientReport}
use Rattle.rb_super.specs.InTime.{Presses, IsInBatchUnlessTooBig, GoesUnlessTooBig, IsPlannedIn, MessagesGoInTime}
use Rattle.rb_super.specs.Pressing.{KeepsNoneBack, PressingGoes}
use Rattle.rb_super.proofs.Members.{In, in_from, contains_from, in_map, in_flat_map, far_is_ready}
use Rattle.rb_super.proofs.Moments.{no_later}

-- ---- a message that presses

-- it makes the client go for all that are ready
pub pressing : (t : Task) (reach : Option ℕ) (p : PathTask) (m : PacketMsg) → Presses t reach p m → presses t reach ≡ true
pressing t reach p m is =
    let one : In (press_moments_on t reach p) (press_moment t p.waits m) = in_map (press_moment t p.waits) (ready_beyond (going_on t p) p.order (near_reach t) reach) m (in_from (ready_beyond (going_on t p) p.order (near_reach t) reach) m is.far) in
    let all : In (flat_map (press_moments_on t reach) t.paths) (Some is.moment) =
    subst (In (flat_map (press_moments_on t reach) t.paths)) is.from_then_on (in_flat_map (press_moments_on t reach) t.paths p (press_moment t p.waits m) (in_from t.paths p is.path) one) in
    let first = no_later (flat_map (press_moments_on t reach) t.paths) None is.moment (inr all) in
    ap (λ o. option_map_or (λ moment. nat_le moment t.window.until) o false) first.1 ∙ le-leb first.0 t.window.until (omega (arith, first.2, is.by_the_end))

-- and it is one of them
pub among_ready : (t : Task) (reach : Option ℕ) (p : PathTask) (m : PacketMsg) → Presses t reach p m → In (ready_messages t reach) (message_on p m)
among_ready t reach p m is =
    in_flat_map (ready_on t reach) t.paths p (message_on p m) (in_from t.paths p is.path)
    (in_map (message_on p) (ready (going_on t p) p.order reach) m (far_is_ready (going_on t p) p.order (near_reach t) reach m (in_from (ready_beyond (going_on t p) p.order (near_reach t) reach) m is.far)))

-- ---- the report of a client

place_enumerated : {X : Type 0} (first : ℕ) (xs : List X) (k : ℕ) (x : X) → slice_get xs k ≡ Some x → slice_get (enumerate_from first xs) k ≡ Some (first + k, x)
place_enumerated first [] k x e = absurd (none-some x e)
place_enumerated first (y ∷ ys) zero x e = (let same : first ≡ first + 0 = omega arith in λ i. Some (same i, same_Some y x e i))
place_enumerated first (y ∷ ys) (suc k) x e =
    place_enumerated (first + 1) ys k x e ∙ (let same : (first + 1) + k ≡ first + suc k = omega arith in ap (λ n. Some (n, x)) same)

both_some : {X Y : Type 0} (o : Option X) (x : X) (q : Option Y) (y : Y) (R : X → Y → Type 0) → o ≡ Some x → q ≡ Some y → MatchOption o (Unit {0}) (λ a. IsSomeAnd q (R a)) → R x y
both_some {X} {Y} o x q y R e f h = subst (λ (q : Option Y). IsSomeAnd q (R x)) f (subst (λ (o : Option X). MatchOption o (Unit {0}) (λ a. IsSomeAnd q (R a))) e h)

-- ---- what is planned

module _ (goes : PressingGoes) (t : Task) (reach : Option ℕ) (book : t.config.refresh_to ≡ Newer → IsBook t.book) (is : IsReach (client_of (view_of t)) reach) (asked : KeepsNoneBack t.asked t.config.refresh_to) (pressed : presses t reach ≡ true) (m : Message) (there : In (ready_messages t reach) m) where
  in_plan : (other : Option ℕ) (number : ℕ) (p : Plan) → IsSending t other p p.sending → p.messages ≡ ready_messages t reach → IsInBatchUnlessTooBig m (reported_plan t number p) (numbered number p.sending)
  in_plan other number p sending all = go p.sending sending
    where
      inside : In p.messages m
      inside = subst (λ ms. In ms m) (sym all) there

      go : (x : Sending) → IsSending t other p x → IsInBatchUnlessTooBig m (reported_plan t number p) (numbered number x)
      go nothing none = subst (λ ms. In ms m) none.1 inside
      go (too_big index) first = tt
      go (batched b) batch = contains_from p.messages m inside

  sent : (c : ClientState) → c.batch ≡ None → (o : Outcome) → IsOutcome t c o → GoesUnlessTooBig m o
  sent c free (held number) right = none-some number (sym (ap (option_map (λ (b : OpenBatch). b.number)) free) ∙ right)
  sent c free (idle next) right = goes t reach None book is asked pressed right.1
  sent c free (planned x) right =
      let a = right.1.answer in
      subst (λ (x : PlannedReport). GoesUnlessTooBig m (planned x)) (sym right.1.is) (go a.plan (goes t reach (Some a) book is asked pressed right.1.right) right.1.right.plan)
    where
      go : (o : Option Plan) → IsSomeAnd o (λ (p : Plan). p.messages ≡ ready_messages t reach)
          → MatchOption o (IsUnreachable (client_of (view_of t)) right.1.answer.goal) (IsPlan t right.1.right.reach right.1.answer.goal)
          → IsSomeAnd (option_map (reported_plan t (c.batches + 1)) o) (λ (p : PlanReport). IsInBatchUnlessTooBig m p p.sending)
      go None all plan = absurd all
      go (Some p) all plan = in_plan right.1.right.reach (c.batches + 1) p plan.sending all

-- what a turn reports of a client is right for its task
pub outcome_of : (s : Standing) (turn : Turn) (r : TurnReport) (place : ℕ) (c : ClientState) (report : ClientReport) (t : Task) (reach : Option ℕ)
    → IsPlannedIn s turn r place c report t reach → IsOutcome t c report.outcome
outcome_of s turn r place c report t reach is =
    let here = before_plans s turn in
    let of_client : IsClientReport here (place, c) report =
    both_some _ (place, c) _ report (IsClientReport here) (place_enumerated 0 here.clients place c is.is_client ∙ (let same : 0 + place ≡ place = omega arith in ap (λ n. Some (n, c)) same)) is.is_report
    (AllZip-left (IsClientReport here) (enumerate_from 0 here.clients) r.clients is.is_turn.clients place) in
    let window = same_Some of_client.window is.window (sym of_client.is_window ∙ is.is_window) in
    subst (λ u. IsOutcome u c report.outcome) (ap (λ w. task_in here w place c) window ∙ sym is.task) of_client.outcome

pub in_time : PressingGoes → MessagesGoInTime
in_time goes s turn r place c report t reach p m is book free asked pressed =
    sent goes t reach book is.is_reach (subst (λ (u : Task). KeepsNoneBack u.asked u.config.refresh_to) (sym is.task) asked) (pressing t reach p m pressed) (message_on p m) (among_ready t reach p m pressed) c free report.outcome
    (outcome_of s turn r place c report t reach is)
