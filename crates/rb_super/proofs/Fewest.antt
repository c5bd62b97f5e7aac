-- The turns in which packets make a client update are as few as can be.
use Rattle.std.proofs.Common.{◌≡◌, ◌⊎◌, ℕ, zero, suc, ◌<◌, ◌≤◌, Bool, true, false, not, ◌&&◌, nat_le, List, [], ◌∷◌, length, map, Some, None, is_some, refl, sym, ap, ◌∙◌, subst, inl, inr, arith}
use Rattle.std.specs.List.{AllByRecursion, flat_map, list_any, slice_get}
use Rattle.std.specs.Option.{option_map_or}
use Rattle.std.proofs.lemmas.Bool.{false≢true, and_parts, and_from, cases_lt}
use Rattle.std.proofs.lemmas.List.Elements.{recursion_from_All}
use Rattle.std.proofs.lemmas.Option.{none-some, same_Some}
use Rattle.rb_book.specs.Laws.{StaysABook}
use Rattle.rb_scan.specs.Laws.{SettledIsNotOwed}
use Rattle.rb_scan.specs.Owed.{ready}
use Rattle.rb_scan.specs.declared.message.PacketMsg.{PacketMsg}
use Rattle.rb_script_types.specs.declared.config.PathConfig.{PathConfig}
use Rattle.rb_super.specs.Seen.{SeenIsFewest}
use Rattle.rb_plan_client.specs.Task.{PathTask, Task, Message, message_on, going_on, ready_on, ready_messages, near_reach, press_moment, press_moments_on, first_press, presses}
use Rattle.rb_core_model.specs.Standing.{OpenBatch, ClientState, Standing, new_path, opening_standing}
use Rattle.rb_core_model.proofs.Marks.{AllFound}
use Rattle.rb_core_model.proofs.Options.{tested}
use Rattle.rb_super_turn.specs.Report.{Outcome, held, idle, planned, TurnReport}
use Rattle.rb_super_turn.specs.Script.{Turn, IsTurn}
use Rattle.rb_super_turn.specs.Turns.{IsOutcome, after_turn}
use Rattle.rb_super.specs.Fewest.{ClientTurn, AreTurnsOf, in_turn, MessageId, id_on, has_id, far_on, is_far, is_in_batch, is_ready, presses_on, is_pressing, far_ids, opens_batch, is_update, is_within_reach, UpdatesAreFewest}
use Rattle.rb_super.specs.Pressing.{PressingGoes}
use Rattle.rb_super.proofs.InTime.{outcome_of}
use Rattle.rb_super.proofs.Later.{empty_books}
use Rattle.rb_super.proofs.Members.{In, in_map, in_flat_map, from_map, from_flat_map, from_test, test_from, far_is_ready}
use Rattle.rb_super.proofs.Moments.{first_is}
use Rattle.rb_super.proofs.Sends.{has_id_from, gone_for_good}
use Rattle.rb_super.proofs.TurnByTurn.{HasPressed, sending_turns}

-- ---- where some message presses there is one that does

-- a message of a path that presses by the end of the window
record Pressing (k : ClientTurn) : Type 0 where
  path : PathTask
  is_path : In k.task.paths path
  message : PacketMsg
  is_far : In (far_on k path) message
  presses : presses_on k path message ≡ true

one_presses : (k : ClientTurn) → presses k.task k.reach ≡ true → Pressing k
one_presses k e =
    let moment = tested (λ moment. nat_le moment k.task.window.until) (first_press k.task k.reach) e in
    among moment.0 moment.2 (first_is (flat_map (press_moments_on k.task k.reach) k.task.paths) None moment.0 moment.1)
  where
    among : (n : ℕ) → nat_le n k.task.window.until ≡ true → (None ≡ Some n) ⊎ In (flat_map (press_moments_on k.task k.reach) k.task.paths) (Some n) → Pressing k
    among n by_end (inl none) = absurd (none-some n none)
    among n by_end (inr there) =
        let p = from_flat_map (press_moments_on k.task k.reach) k.task.paths (Some n) there in
        let m = from_map (press_moment k.task p.0.waits) (far_on k p.0) (Some n) p.2 in
        record {
          path = p.0;
          is_path = p.1;
          message = m.0;
          is_far = m.1;
          presses = ap (λ o. option_map_or (λ moment. nat_le moment k.task.window.until) o false) m.2 ∙ by_end;
        }

-- a client that updates has no open batch
free : (t : Task) (c : ClientState) (o : Outcome) → IsOutcome t c o → opens_batch o ≡ true → c.batch ≡ None
free t c (held number) right e = absurd (false≢true e)
free t c (idle next) right e = absurd (false≢true e)
free t c (planned p) right e = right.0

has_pressed : (k : ClientTurn) → IsOutcome k.task k.client k.report.outcome → is_update k ≡ true → HasPressed is_ready is_pressing far_ids k
has_pressed k outcome update =
    let one = and_parts (not (is_some k.client.asked)) (presses k.task k.reach && opens_batch k.report.outcome) update in
    let two = and_parts (presses k.task k.reach) (opens_batch k.report.outcome) one.1 in
    let x = one_presses k two.0 in
    let i = id_on x.path x.message in
    let named : has_id i x.path.path x.message ≡ true = has_id_from i x.path.path x.message refl refl refl in
    let far : is_far i k ≡ true =
    test_from (λ (p : PathTask). list_any (has_id i p.path) (far_on k p)) k.task.paths x.path x.is_path (test_from (has_id i x.path.path) (far_on k x.path) x.message x.is_far named) in
    let left : not (is_in_batch i k) ≡ true =
    ap (λ o. not (option_map_or (λ (b : OpenBatch). list_any (λ (m : Message). has_id i m.path m.packet) b.messages) o false)) (free k.task k.client k.report.outcome outcome two.1) in (
      i,
      in_flat_map (λ (p : PathTask). map (id_on p) (far_on k p)) k.task.paths x.path i x.is_path (in_map (id_on x.path) (far_on k x.path) x.message x.is_far),
      and_from (is_far i k) (not (is_in_batch i k)) far left,
      test_from (λ (p : PathTask). list_any (λ (m : PacketMsg). has_id i p.path m && presses_on k p m) (far_on k p)) k.task.paths x.path x.is_path
          (test_from (λ (m : PacketMsg). has_id i x.path.path m && presses_on k x.path m) (far_on k x.path) x.message x.is_far
          (and_from (has_id i x.path.path x.message) (presses_on k x.path x.message) named x.presses)),
    )

-- what is ready can be brought across
pub ready_within : (i : MessageId) (k : ClientTurn) → is_ready i k ≡ true → is_within_reach i k ≡ true
ready_within i k e =
    let far = (and_parts (is_far i k) (not (is_in_batch i k)) e).0 in
    let p = from_test (λ (p : PathTask). list_any (has_id i p.path) (far_on k p)) k.task.paths far in
    let m = from_test (has_id i p.0.path) (far_on k p.0) p.2 in
    test_from (λ (m : Message). has_id i m.path m.packet) (ready_messages k.task k.reach) (message_on p.0 m.0)
    (in_flat_map (ready_on k.task k.reach) k.task.paths p.0 (message_on p.0 m.0) p.1
    (in_map (message_on p.0) (ready (going_on k.task p.0) p.0.order k.reach) m.0 (far_is_ready (going_on k.task p.0) p.0.order (near_reach k.task) k.reach m.0 m.1)))
    m.2

-- ---- the turns of a script

outcome_at : (place : ℕ) (turns : List Turn) (rs : List TurnReport) (ks : List ClientTurn) (s : Standing) → AreTurnsOf place s turns rs ks
    → (n : ℕ) (k : ClientTurn) → slice_get ks n ≡ Some k → IsOutcome k.task k.client k.report.outcome
outcome_at place [] rs [] s are n k at = absurd (none-some k at)
outcome_at place [] rs (x ∷ ks) s are n k at = absurd are
outcome_at place (turn ∷ turns) [] ks s are n k at = absurd are
outcome_at place (turn ∷ turns) (r ∷ rs) [] s are n k at = absurd are
outcome_at place (turn ∷ turns) (r ∷ rs) (x ∷ ks) s are zero k at =
    subst (λ (y : ClientTurn). IsOutcome y.task y.client y.report.outcome) (same_Some x k at) (outcome_of s turn r place x.client x.report x.task x.reach are.0)
outcome_at place (turn ∷ turns) (r ∷ rs) (x ∷ ks) s are (suc n) k at = outcome_at place turns rs ks (after_turn s turn r) are.1 n k at

pub new_found : (cs : List PathConfig) → AllByRecursion AllFound (map new_path cs)
new_found [] = tt
new_found (c ∷ cs) = (tt, new_found cs)

pub fewest : SeenIsFewest → PressingGoes → StaysABook → SettledIsNotOwed → UpdatesAreFewest
fewest seen goes stays_books law script report place ks choice is whole stays punctual =
    seen.fewest (length ks) _ _ choice
    (sending_turns is_ready is_pressing is_update far_ids ks
    (λ n k at update. has_pressed k (outcome_at place script.turns report ks opening is.turns n k at) update)
    (λ i before update after j k l no_later later at_before at_update at_after was updates again.
    gone_for_good law stays_books goes script.config place i script.turns report ks opening (recursion_from_All (IsTurn script.config) script.turns is.is_script.turns) is.turns whole
    (new_found script.config.paths) (empty_books script.config.limit (length script.config.chains) is.is_script.config.rules.limit) update after k l later at_update at_after updates
    (within i before update after j k l no_later later at_before at_update at_after was updates again) again))
    punctual
  where
    opening : Standing
    opening = opening_standing script.config

    passes : (test : ClientTurn → Bool) (n : ℕ) (k : ClientTurn) → slice_get ks n ≡ Some k → test k ≡ true → in_turn ks test n ≡ true
    passes test n k at e = ap (λ o. option_map_or test o false) at ∙ e

    within : (i : MessageId) (before update after : ℕ) (j k l : ClientTurn) → before ≤ update → update < after
        → slice_get ks before ≡ Some j → slice_get ks update ≡ Some k → slice_get ks after ≡ Some l
        → is_ready i j ≡ true → is_update k ≡ true → is_ready i l ≡ true → is_within_reach i k ≡ true
    within i before update after j k l no_later later at_before at_update at_after was updates again = go (cases_lt before update)
      where
        go : (before < update) ⊎ (update ≤ before) → is_within_reach i k ≡ true
        go (inl earlier) =
            sym (ap (λ o. option_map_or (is_within_reach i) o false) at_update)
            ∙ stays i before update after earlier later (passes (is_ready i) before j at_before was) (passes is_update update k at_update updates) (passes (is_ready i) after l at_after again)
        go (inr same) =
            let here : before ≡ update = omega (arith, no_later, same) in
            let one : j ≡ k = same_Some j k (sym at_before ∙ ap (slice_get ks) here ∙ at_update) in
            ready_within i k (ap (is_ready i) (sym one) ∙ was)
