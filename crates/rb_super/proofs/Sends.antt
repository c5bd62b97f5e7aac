-- What goes with an update is spent, and what is spent isn't ready.
use Rattle.std.proofs.Common.{◌≡◌, ℕ, zero, suc, ◌+◌, ◌<◌, Bool, true, false, eqb, not, ◌&&◌, List, [], ◌∷◌, ◌++◌, length, map, Option, Some, None, MatchOption, IsSomeAnd, is_some, refl, sym, ap, ◌∙◌, subst, inl, inr, arith}
use Rattle.std.specs.List.{fold, list_any, slice_get, sum_by, AllByRecursion}
use Rattle.std.specs.Option.{option_map, option_map_or, option_and_then}
use Rattle.std.proofs.lemmas.Bool.{true≢false, false≢true, and_parts, and_from, eqb-true, eq-eqb, not-true}
use Rattle.std.proofs.lemmas.List.{length-map, length-append}
use Rattle.std.proofs.lemmas.List.Elements.{recursion_from_All}
use Rattle.std.proofs.lemmas.List.Sums.{sum_by-cons}
use Rattle.std.proofs.lemmas.Option.{none-some, same_Some}
use Rattle.rb_batch.specs.Cut.{FollowOn, shifted}
use Rattle.rb_batch.specs.Limits.{TransactionLimits}
use Rattle.rb_batch.specs.declared.transaction.Transaction.{Transaction}
use Rattle.rb_book.specs.Invariant.{IsBook}
use Rattle.rb_book.specs.Laws.{StaysABook}
use Rattle.rb_plan_types.specs.Least.{IsUnreachable}
use Rattle.rb_scan.specs.Laws.{SettledIsNotOwed}
use Rattle.rb_scan.specs.Owed.{same_kind}
use Rattle.rb_scan.specs.declared.message.PacketMsg.{PacketMsg}
use Rattle.rb_script_types.specs.Config.{Config}
use Rattle.rb_script_types.specs.declared.script.Asked.{Asked as Question}
use Rattle.rb_script_types.specs.declared.script.HostWindow.{HostWindow as WindowOf}
use Rattle.rb_script_types.specs.declared.config.RefreshTo.TheVariants.{Newer}
use Rattle.rb_step.specs.View.{client_of}
use Rattle.rb_plan_client.specs.Draft.{Sending, nothing, too_big, batched, Plan, IsCut, IsSending, IsPlan}
use Rattle.rb_plan_client.specs.Same.{kinds_Decides}
use Rattle.rb_plan_client.specs.Task.{PathTask, Task, Message, view_of, ready_messages, near_reach, is_apart, gas_of, presses, going_on}
use Rattle.rb_core_model.specs.Standing.{OpenBatch, ClientState, PathState, Standing, batch_open, with_batch}
use Rattle.rb_core_model.proofs.Marks.{part_of, mark_at}
use Rattle.rb_core_model.proofs.Options.{none_from}
use Rattle.rb_super_turn.specs.Report.{PlanReport, PlannedReport, Outcome, held, idle, planned, ClientReport, TurnReport}
use Rattle.rb_super_turn.specs.Script.{Turn, IsSeen, IsTurn}
use Rattle.rb_super_turn.specs.Turns.{after_window, after_host_window, after_question, before_events, before_plans, priced, update_of, numbered, reported_plan, IsOutcome, batch_sent, after_outcome, after_reports, after_plans, after_settlement, takers, after_turn}
use Rattle.rb_super.specs.Fewest.{ClientTurn, MessageId, AreTurnsOf, has_id, far_on, is_far, is_in_batch, is_ready, is_batched, opens_batch, is_update, AreWholeFor, SettlesWhole, is_within_reach}
use Rattle.rb_super.specs.InTime.{IsPlannedIn}
use Rattle.rb_super.specs.Pressing.{PressingGoes}
use Rattle.rb_super.proofs.InTime.{outcome_of}
use Rattle.rb_super.proofs.Later.{AreBooks, before_later, rest_later, planned_book}
use Rattle.rb_super.proofs.Members.{In, all_in, from_test, test_from}
use Rattle.rb_core_model.proofs.Owed.{going_all}
use Rattle.rb_super.proofs.Pressing.{none_asked}
use Rattle.rb_super.proofs.Owing.{IsOwing, AreOwing, owing, far_all, going}
use Rattle.rb_super.proofs.Spent.{mark_for, CarryAll, IsSpent, AreFound, Keeps, keeps_self, keeps_trans, host_window_keeps, window_keeps, asked_keeps, events_keep, settlements_keep, takings_keep}

-- ---- messages by what names them

pub id_parts : (i : MessageId) (path : ℕ) (m : PacketMsg) → has_id i path m ≡ true → (path ≡ i.path) × (m.kind ≡ i.kind) × (m.sequence ≡ i.sequence)
id_parts i path m e =
    let one = and_parts (eqb path i.path && same_kind m.kind i.kind) (eqb m.sequence i.sequence) e in
    let two = and_parts (eqb path i.path) (same_kind m.kind i.kind) one.0 in
    (eqb-true path i.path two.0, (kinds_Decides m.kind i.kind).0 two.1, eqb-true m.sequence i.sequence one.1)

pub has_id_from : (i : MessageId) (path : ℕ) (m : PacketMsg) → path ≡ i.path → m.kind ≡ i.kind → m.sequence ≡ i.sequence → has_id i path m ≡ true
has_id_from i path m p k s =
    and_from (eqb path i.path && same_kind m.kind i.kind) (eqb m.sequence i.sequence)
    (and_from (eqb path i.path) (same_kind m.kind i.kind) (eq-eqb path i.path p) ((kinds_Decides m.kind i.kind).1 k)) (eq-eqb m.sequence i.sequence s)

-- the message's mark is that of its packet
mark_by_id : (ps : List PathState) (i : MessageId) (path : ℕ) (m : PacketMsg) → has_id i path m ≡ true → mark_at ps path (part_of m.kind) m.sequence ≡ mark_for ps i
mark_by_id ps i path m e =
    let is = id_parts i path m e in
    ap (λ (k : MessageId). mark_for ps k) (λ j. record { path = is.0 j; kind = is.1 j; sequence = is.2 j })

-- ---- what a cut carries

carried : (first : ℕ) (ts : List Transaction) (end : ℕ) → FollowOn first ts end → first + sum_by (λ (t : Transaction). t.count) ts ≡ end
carried first [] end e = (let same : first ≡ end = e in omega arith)
carried first (t ∷ ts) end e =
    let rest = carried (first + t.count) ts end e.1 in
    let sum = sum_by-cons (λ (t : Transaction). t.count) t ts in
    omega (arith, rest, sum)

-- the second of two cuts that stand apart goes on where the first ends
shift_carries : (n : ℕ) (ts : List Transaction) → sum_by (λ (t : Transaction). t.count) (map (shifted n) ts) ≡ sum_by (λ (t : Transaction). t.count) ts
shift_carries n [] = refl
shift_carries n (t ∷ ts) =
    let here = sum_by-cons (λ (t : Transaction). t.count) (shifted n t) (map (shifted n) ts) in
    let there = sum_by-cons (λ (t : Transaction). t.count) t ts in
    let rest = shift_carries n ts in
    omega (arith, here, there, rest)

both_carry : (ts us : List Transaction) → sum_by (λ (t : Transaction). t.count) (ts ++ us) ≡ sum_by (λ (t : Transaction). t.count) ts + sum_by (λ (t : Transaction). t.count) us
both_carry [] us = omega arith
both_carry (t ∷ ts) us =
    let here = sum_by-cons (λ (t : Transaction). t.count) t (ts ++ us) in
    let there = sum_by-cons (λ (t : Transaction). t.count) t ts in
    let rest = both_carry ts us in
    omega (arith, here, there, rest)

-- a cut carries all, apart or not
cut_carries : (apart : Bool) (limits : TransactionLimits) (us ms : List ℕ) (cut : List Transaction) → IsCut apart limits us ms cut → sum_by (λ (t : Transaction). t.count) cut ≡ length us + length ms
cut_carries true limits us ms cut is =
    let front = carried 0 is.front (length us) is.least_front.division.whole in
    let back = carried 0 is.back (length ms) is.least_back.division.whole in
    let same : sum_by (λ (t : Transaction). t.count) cut ≡ sum_by (λ (t : Transaction). t.count) (is.front ++ map (shifted (length us)) is.back) = ap (sum_by (λ (t : Transaction). t.count)) is.joined in
    let both = both_carry is.front (map (shifted (length us)) is.back) in
    let shift = shift_carries (length us) is.back in
    omega (arith, front, back, same, both, shift)
cut_carries false limits us ms cut is =
    let sum = carried 0 cut (length (us ++ ms)) is.division.whole in
    let both = length-append us ms in
    omega (arith, sum, both)

-- ---- one turn

module _ (place : ℕ) (s : Standing) (turn : Turn) (r : TurnReport) (k : ClientTurn) (is : IsPlannedIn s turn r place k.client k.report k.task k.reach) where
  report_at : (cs : List ClientState) (rs : List ClientReport) (n : ℕ) → slice_get cs n ≡ Some k.client → slice_get rs n ≡ Some k.report
      → slice_get (after_reports cs rs) n ≡ Some (after_outcome k.report.outcome k.client)
  report_at [] rs n c e = absurd (none-some k.client c)
  report_at (x ∷ cs) [] n c e = absurd (none-some k.report e)
  report_at (x ∷ cs) (y ∷ rs) zero c e = λ j. Some (after_outcome (same_Some y k.report e j).outcome (same_Some x k.client c j))
  report_at (x ∷ cs) (y ∷ rs) (suc n) c e = report_at cs rs n c e

  outcome : IsOutcome k.task k.client k.report.outcome
  outcome = outcome_of s turn r place k.client k.report k.task k.reach is

  open_after : batch_open (after_plans s turn r) place ≡ (after_outcome k.report.outcome k.client).batch
  open_after = ap (option_and_then (λ (c : ClientState). c.batch)) (report_at (before_plans s turn).clients r.clients place is.is_client is.is_report)

  open_before : batch_open (before_plans s turn) place ≡ k.client.batch
  open_before = ap (option_and_then (λ (c : ClientState). c.batch)) is.is_client

  -- a client with an open batch is held
  held_on : (b : OpenBatch) → k.client.batch ≡ Some b → (o : Outcome) → IsOutcome k.task k.client o → (after_outcome o k.client).batch ≡ Some b
  held_on b e (held number) right = e
  held_on b e (idle next) right = absurd (none-some b (sym right.0 ∙ e))
  held_on b e (planned p) right = absurd (none-some b (sym right.0 ∙ e))

  plans_keep : (i : MessageId) → Keeps place i (before_plans s turn) (after_plans s turn r)
  plans_keep i = record { found = λ all. all; spent = go }
    where
      go : IsSpent (before_plans s turn) place i → IsSpent (after_plans s turn r) place i
      go (inr m) = inr m
      go (inl x) = inl (record {
        batch = x.batch;
        is_open = open_after ∙ held_on x.batch (sym open_before ∙ x.is_open) k.report.outcome outcome;
        whole = x.whole;
        message = x.message;
        has = x.has;
        named = x.named;
        mark = x.mark;
        is_marked = x.is_marked;
      })

  goals_keep : (i : MessageId) (goals : List Question) (t : Standing) → Keeps place i t (fold after_question t goals)
  goals_keep i [] t = keeps_self place i t
  goals_keep i (g ∷ goals) t =
      keeps_trans place i t (after_question t g) (fold after_question (after_question t g) goals) (asked_keeps place i t g.client g.goal) (goals_keep i goals (after_question t g))

  hosts_keep : (i : MessageId) (ws : List WindowOf) (t : Standing) → Keeps place i t (fold after_host_window t ws)
  hosts_keep i [] t = keeps_self place i t
  hosts_keep i (w ∷ ws) t =
      keeps_trans place i t (after_host_window t w) (fold after_host_window (after_host_window t w) ws) (host_window_keeps place i t w.host w.window) (hosts_keep i ws (after_host_window t w))

  pub before_keeps : (i : MessageId) (config : Config) → IsTurn config turn → Keeps place i s (before_plans s turn)
  before_keeps i config right =
      let entered = fold after_host_window s turn.windows in
      keeps_trans place i s entered (before_plans s turn) (hosts_keep i turn.windows s)
      (keeps_trans place i entered (after_window entered turn.window) (before_plans s turn) (window_keeps place i entered turn.window)
      (keeps_trans place i (after_window entered turn.window) (before_events s turn) (before_plans s turn) (goals_keep i turn.goals (after_window entered turn.window))
      (events_keep place i config turn.events (before_events s turn) (recursion_from_All (IsSeen config) turn.events right.events))))

  pub after_keeps : (i : MessageId) → AreWholeFor place (after_plans s turn r) turn.settlements → Keeps place i (after_plans s turn r) (after_turn s turn r)
  after_keeps i whole =
      let sent = after_plans s turn r in
      let settled = fold after_settlement sent turn.settlements in
      keeps_trans place i sent settled (after_turn s turn r) (settlements_keep place i turn.settlements sent whole) (takings_keep place i (takers sent turn.taken) settled)

  pub turn_keeps : (i : MessageId) (config : Config) → IsTurn config turn → AreWholeFor place (after_plans s turn r) turn.settlements → Keeps place i s (after_turn s turn r)
  turn_keeps i config right whole =
      keeps_trans place i s (before_plans s turn) (after_turn s turn r) (before_keeps i config right)
      (keeps_trans place i (before_plans s turn) (after_plans s turn r) (after_turn s turn r) (plans_keep i) (after_keeps i whole))

  -- ---- what is owed

  module _ (law : SettledIsNotOwed) (found : AreFound (before_plans s turn)) where
    are_owing : AllByRecursion (AreOwing (before_plans s turn).paths) k.task.paths
    are_owing = subst (λ (t : Task). AllByRecursion (AreOwing (before_plans s turn).paths) t.paths) (sym is.task) (owing law (before_plans s turn) found place)

    -- what is spent isn't ready
    pub spent_not_ready : (i : MessageId) → IsSpent (before_plans s turn) place i → is_ready i k ≡ true → ⊥
    spent_not_ready i spent ready = go spent (and_parts (is_far i k) (not (is_in_batch i k)) ready)
      where
        go : IsSpent (before_plans s turn) place i → (is_far i k ≡ true) × (not (is_in_batch i k) ≡ true) → ⊥
        go (inl x) both =
            let here : k.client.batch ≡ Some x.batch = sym open_before ∙ x.is_open in
            let on_its_way : is_in_batch i k ≡ true =
            ap (λ o. option_map_or (λ (b : OpenBatch). list_any (λ (m : Message). has_id i m.path m.packet) b.messages) o false) here
            ∙ test_from (λ (m : Message). has_id i m.path m.packet) x.batch.messages x.message x.has (has_id_from i x.message.path x.message.packet x.named.0 x.named.1 x.named.2) in
            true≢false (sym on_its_way ∙ not-true (is_in_batch i k) both.1)
        go (inr m) both =
            let p = from_test (λ (p : PathTask). list_any (has_id i p.path) (far_on k p)) k.task.paths both.0 in
            let x = from_test (has_id i p.0.path) (far_on k p.0) p.2 in
            let owes = all_in (AreOwing (before_plans s turn).paths) k.task.paths p.0 are_owing p.1 in
            let unsettled = all_in (IsOwing (before_plans s turn).paths p.0.path) (far_on k p.0) x.0
            (far_all (IsOwing (before_plans s turn).paths p.0.path) (going_on k.task p.0) p.0.order (near_reach k.task) k.reach (going_all (IsOwing (before_plans s turn).paths p.0.path) k.task p.0 owes)) x.1 in
            true≢false (same_Some true false (sym m ∙ sym (mark_by_id (before_plans s turn).paths i p.0.path x.0 x.2) ∙ unsettled))

    -- ---- an update takes all that are ready with it

    -- the batch that is opened, with all messages that are ready at the reach
    record TakesAll (c : ClientState) : Type 0 where
      batch : OpenBatch
      is_open : c.batch ≡ Some batch
      whole : CarryAll batch
      messages : batch.messages ≡ ready_messages k.task k.reach

    module _ (goes : PressingGoes) (book : k.task.config.refresh_to ≡ Newer → IsBook k.task.book) (asked : k.task.asked ≡ None) (pressed : presses k.task k.reach ≡ true) where
      by_sending : (other : Option ℕ) (number : ℕ) (p : Plan) → p.messages ≡ ready_messages k.task k.reach → (x : Sending) → IsSending k.task other p x
          → is_batched (numbered number x) ≡ true → TakesAll (with_batch k.client (batch_sent (reported_plan k.task number p) (numbered number x)))
      by_sending other number p all nothing right e = absurd (false≢true e)
      by_sending other number p all (too_big index) right e = absurd (false≢true e)
      by_sending other number p all (batched b) right e = record {
        batch = record { number = number; proof = b.proof; updates = map update_of (map (priced k.task) p.updates); messages = p.messages; transactions = b.transactions };
        is_open = refl;
        whole =
            let sum = cut_carries (is_apart k.task other) k.task.config.limits (map (gas_of k.task) p.updates) (map (λ (m : Message). m.gas) p.messages) b.transactions right.transactions in
            let updates = length-map p.updates (gas_of k.task) in
            let messages = length-map p.messages (λ (m : Message). m.gas) in
            let reports = length-map (map (priced k.task) p.updates) update_of in
            let fees = length-map p.updates (priced k.task) in
            omega (arith, sum, updates, messages, reports, fees);
        messages = all;
      }

      takes_all : (o : Outcome) → IsOutcome k.task k.client o → opens_batch o ≡ true → TakesAll (after_outcome o k.client)
      takes_all (held number) right e = absurd (false≢true e)
      takes_all (idle next) right e = absurd (false≢true e)
      takes_all (planned x) right e =
          let a = right.1.answer in
          subst (λ (x : PlannedReport). opens_batch (planned x) ≡ true → TakesAll (after_outcome (planned x) k.client)) (sym right.1.is)
          (go a.plan (goes k.task k.reach (Some a) book is.is_reach (none_asked k.task.asked k.task.config.refresh_to asked) pressed right.1.right) right.1.right.plan) e
        where
          go : (o : Option Plan) → IsSomeAnd o (λ (p : Plan). p.messages ≡ ready_messages k.task k.reach)
              → MatchOption o (IsUnreachable (client_of (view_of k.task)) right.1.answer.goal) (IsPlan k.task right.1.right.reach right.1.answer.goal)
              → option_map_or (λ (p : PlanReport). is_batched p.sending) (option_map (reported_plan k.task (k.client.batches + 1)) o) false ≡ true
              → TakesAll (with_batch k.client (option_and_then (λ (p : PlanReport). batch_sent p p.sending) (option_map (reported_plan k.task (k.client.batches + 1)) o)))
          go None all plan e = absurd all
          go (Some p) all plan e = by_sending right.1.right.reach (k.client.batches + 1) p all p.sending plan.sending e

    pub sent_is_spent : PressingGoes → (k.task.config.refresh_to ≡ Newer → IsBook k.task.book) → (i : MessageId) → is_update k ≡ true → is_within_reach i k ≡ true → IsSpent (after_plans s turn r) place i
    sent_is_spent goes book i update within =
        let one = and_parts (not (is_some k.client.asked)) (presses k.task k.reach && opens_batch k.report.outcome) update in
        let two = and_parts (presses k.task k.reach) (opens_batch k.report.outcome) one.1 in
        let unasked : k.client.asked ≡ None = none_from k.client.asked (not-true (is_some k.client.asked) one.0) in
        let x = takes_all goes book (ap (λ (t : Task). t.asked) is.task ∙ unasked) two.0 k.report.outcome outcome two.1 in
        let m = from_test (λ (m : Message). has_id i m.path m.packet) (ready_messages k.task k.reach) within in
        let unsettled = all_in (λ (m : Message). IsOwing (before_plans s turn).paths m.path m.packet) (ready_messages k.task k.reach) m.0
        (going k.task (before_plans s turn).paths k.reach k.task.paths are_owing) m.1 in
        inl (record {
          batch = x.batch;
          is_open = open_after ∙ x.is_open;
          whole = x.whole;
          message = m.0;
          has = subst (λ ms. In ms m.0) (sym x.messages) m.1;
          named = id_parts i m.0.path m.0.packet m.2;
          mark = false;
          is_marked = sym (mark_by_id (before_plans s turn).paths i m.0.path m.0.packet m.2) ∙ unsettled;
        })

-- ---- turn after turn

module _ (law : SettledIsNotOwed) (stays : StaysABook) (goes : PressingGoes) (config : Config) (place : ℕ) where
  -- what is spent is never ready again
  spent_for_good : (i : MessageId) (turns : List Turn) (rs : List TurnReport) (ks : List ClientTurn) (s : Standing) → AllByRecursion (IsTurn config) turns
      → AreTurnsOf place s turns rs ks → SettlesWhole place s turns rs → AreFound s → IsSpent s place i
      → (n : ℕ) (k : ClientTurn) → slice_get ks n ≡ Some k → is_ready i k ≡ true → ⊥
  spent_for_good i [] rs [] s are turns whole found spent n k at ready = none-some k at
  spent_for_good i [] rs (x ∷ ks) s are turns whole found spent n k at ready = turns
  spent_for_good i (turn ∷ later) [] ks s are turns whole found spent n k at ready = turns
  spent_for_good i (turn ∷ later) (r ∷ rs) [] s are turns whole found spent n k at ready = turns
  spent_for_good i (turn ∷ later) (r ∷ rs) (x ∷ ks) s are turns whole found spent zero k at ready =
      let keeps = before_keeps place s turn r x turns.0 i config are.0 in
      spent_not_ready place s turn r x turns.0 law (keeps.found found) i (keeps.spent spent) (ap (is_ready i) (same_Some x k at) ∙ ready)
  spent_for_good i (turn ∷ later) (r ∷ rs) (x ∷ ks) s are turns whole found spent (suc n) k at ready =
      let keeps = turn_keeps place s turn r x turns.0 i config are.0 whole.0 in
      spent_for_good i later rs ks (after_turn s turn r) are.1 turns.1 whole.1 (keeps.found found) (keeps.spent spent) n k at ready

  -- what goes with an update is never ready after it
  pub gone_for_good : (i : MessageId) (turns : List Turn) (rs : List TurnReport) (ks : List ClientTurn) (s : Standing) → AllByRecursion (IsTurn config) turns
      → AreTurnsOf place s turns rs ks → SettlesWhole place s turns rs → AreFound s → AreBooks s
      → (update after : ℕ) (k l : ClientTurn) → update < after → slice_get ks update ≡ Some k → slice_get ks after ≡ Some l
      → is_update k ≡ true → is_within_reach i k ≡ true → is_ready i l ≡ true → ⊥
  gone_for_good i [] rs [] s are turns whole found books update after k l lt at later sends within ready = none-some k at
  gone_for_good i [] rs (x ∷ ks) s are turns whole found books update after k l lt at later sends within ready = turns
  gone_for_good i (turn ∷ rest) [] ks s are turns whole found books update after k l lt at later sends within ready = turns
  gone_for_good i (turn ∷ rest) (r ∷ rs) [] s are turns whole found books update after k l lt at later sends within ready = turns
  gone_for_good i (turn ∷ rest) (r ∷ rs) (x ∷ ks) s are turns whole found books update zero k l lt at later sends within ready = omega (arith, lt)
  gone_for_good i (turn ∷ rest) (r ∷ rs) (x ∷ ks) s are turns whole found books zero (suc after) k l lt at later sends within ready =
      let same = same_Some x k at in
      let before = before_keeps place s turn r x turns.0 i config are.0 in
      let book = planned_book s turn r place x.client x.report x.task x.reach turns.0 ((before_later stays config s turn are.0 books).are_books books) in
      let spent = sent_is_spent place s turn r x turns.0 law (before.found found) goes (λ _. book) i (ap is_update same ∙ sends) (ap (is_within_reach i) same ∙ within) in
      let keeps = after_keeps place s turn r x turns.0 i whole.0 in
      spent_for_good i rest rs ks (after_turn s turn r) are.1 turns.1 whole.1 (keeps.found (before.found found)) (keeps.spent spent) after l later ready
  gone_for_good i (turn ∷ rest) (r ∷ rs) (x ∷ ks) s are turns whole found books (suc update) (suc after) k l lt at later sends within ready =
      let keeps = turn_keeps place s turn r x turns.0 i config are.0 whole.0 in
      let books_after = (rest_later s turn r).are_books ((before_later stays config s turn are.0 books).are_books books) in
      gone_for_good i rest rs ks (after_turn s turn r) are.1 turns.1 whole.1 (keeps.found found) books_after update after k l (omega (arith, lt)) at later sends within ready
