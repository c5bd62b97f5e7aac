-- Where every open batch is taken, each turn in which a message presses is an update.
use Rattle.std.proofs.Common.{◌≡◌, ℕ, zero, suc, ◌+◌, ◌<◌, true, false, not, ◌&&◌, nat_le, List, [], ◌∷◌, length, Option, Some, None, IsSomeAnd, is_some, refl, sym, ap, ◌∙◌, subst, inl, inr, arith}
use Rattle.std.specs.List.{AllByRecursion, flat_map, list_any, range_with_len, slice_get}
use Rattle.std.specs.Option.{option_map_or}
use Rattle.std.proofs.lemmas.Bool.{and_parts, and_from, leb-true}
use Rattle.std.proofs.lemmas.List.Elements.{recursion_from_All}
use Rattle.std.proofs.lemmas.Option.{none-some, same_Some}
use Rattle.rb_book.specs.Invariant.{IsBook}
use Rattle.rb_book.specs.Laws.{StaysABook}
use Rattle.rb_plan_client.specs.Task.{PathTask, Message, message_on, press_moment, presses}
use Rattle.rb_super.specs.Seen.{SeenIsFewest}
use Rattle.rb_super.specs.Seen.{is_pressed, SendsWherePressed}
use Rattle.rb_scan.specs.declared.message.PacketMsg.{PacketMsg}
use Rattle.rb_script_types.specs.Config.{Config}
use Rattle.rb_core_model.specs.Standing.{Standing, opening_standing}
use Rattle.rb_core_model.proofs.Options.{tested}
use Rattle.rb_super_turn.specs.Report.{SendingReport, nothing, too_big, batched, PlanReport, Outcome, held, idle, planned, TurnReport}
use Rattle.rb_super_turn.specs.Script.{Turn, IsTurn}
use Rattle.rb_super_turn.specs.Turns.{after_turn}
use Rattle.rb_super.specs.Fewest.{ClientTurn, AreTurnsOf, in_turn, MessageId, has_id, far_on, is_ready, presses_on, is_pressing, seen_of, far_ids, all_seen, is_batched, opens_batch, is_update, update_turns}
use Rattle.rb_super.specs.InTime.{Presses, IsInBatchUnlessTooBig, GoesUnlessTooBig, IsPlannedIn, MessagesGoInTime}
use Rattle.rb_super.specs.Punctual.{HasTooBig, PlansTooBig, UpdatesKeepDeadlines}
use Rattle.rb_super.proofs.InTime.{pressing}
use Rattle.rb_super.proofs.Later.{AreBooks, before_later, rest_later, planned_book, empty_books}
use Rattle.rb_super.proofs.Members.{In, in_passing, all_in, contains_from, in_from, from_get, from_map, from_test}
use Rattle.rb_super.proofs.Pressing.{none_asked}
use Rattle.rb_super.proofs.Taken.{AllAt, IsFree, before_free, after_free, none_at_first}

-- ---- one turn

-- a batch is opened where a message goes and none is too big
opens : (m : Message) (o : Outcome) → GoesUnlessTooBig m o → (¬ PlansTooBig o) → opens_batch o ≡ true
opens m (held number) goes fits = absurd goes
opens m (idle next) goes fits = absurd goes
opens m (planned a) goes fits = go a.plan goes fits
  where
    sent : (p : PlanReport) (x : SendingReport) → IsInBatchUnlessTooBig m p x → (¬ HasTooBig x) → is_batched x ≡ true
    sent p nothing h fits = absurd h
    sent p (too_big index) h fits = absurd (fits tt)
    sent p (batched b) h fits = refl

    go : (o : Option PlanReport) → IsSomeAnd o (λ (p : PlanReport). IsInBatchUnlessTooBig m p p.sending) → (¬ IsSomeAnd o (λ (p : PlanReport). HasTooBig p.sending))
        → option_map_or (λ (p : PlanReport). is_batched p.sending) o false ≡ true
    go None h fits = absurd h
    go (Some p) h fits = sent p p.sending h fits

-- the message that presses
presses_at : (i : MessageId) (k : ClientTurn) → is_pressing i k ≡ true → (p : PathTask) × (m : PacketMsg) × Presses k.task k.reach p m
presses_at i k e =
    let p = from_test (λ (p : PathTask). list_any (λ (m : PacketMsg). has_id i p.path m && presses_on k p m) (far_on k p)) k.task.paths e in
    let m = from_test (λ (m : PacketMsg). has_id i p.0.path m && presses_on k p.0 m) (far_on k p.0) p.2 in
    let by_end = (and_parts (has_id i p.0.path m.0) (presses_on k p.0 m.0) m.2).1 in
    let moment = tested (λ moment. nat_le moment k.task.window.until) (press_moment k.task p.0.waits m.0) by_end in (
      p.0,
      m.0,
      record {
        path = contains_from k.task.paths p.0 p.1;
        far = contains_from (far_on k p.0) m.0 m.1;
        moment = moment.0;
        from_then_on = moment.1;
        by_the_end = leb-true moment.0 k.task.window.until moment.2;
      },
    )

updates : MessagesGoInTime → (s : Standing) (turn : Turn) (r : TurnReport) (place : ℕ) (k : ClientTurn) → IsPlannedIn s turn r place k.client k.report k.task k.reach → IsBook k.task.book → IsFree k.client
    → (¬ PlansTooBig k.report.outcome) → (i : MessageId) → is_pressing i k ≡ true → is_update k ≡ true
updates goes s turn r place k is book free fits i e =
    let x = presses_at i k e in
    let sent = goes s turn r place k.client k.report k.task k.reach x.0 x.1 is (λ _. book) free.0 (none_asked k.client.asked k.client.config.refresh_to free.1) x.2 in
    and_from (not (is_some k.client.asked)) (presses k.task k.reach && opens_batch k.report.outcome) (ap (λ o. not (is_some o)) free.1)
    (and_from (presses k.task k.reach) (opens_batch k.report.outcome) (pressing k.task k.reach x.0 x.1 x.2) (opens (message_on x.0 x.1) k.report.outcome sent fits))

-- ---- turn after turn

updates_at : MessagesGoInTime → StaysABook → (config : Config) (place : ℕ) (turns : List Turn) (rs : List TurnReport) (ks : List ClientTurn) (s : Standing) → AllByRecursion (IsTurn config) turns
    → AllByRecursion (λ (turn : Turn). (turn.taken ≡ true) × (turn.goals ≡ [])) turns → AreTurnsOf place s turns rs ks → AllAt IsFree s.clients → AreBooks s
    → (n : ℕ) (k : ClientTurn) → slice_get ks n ≡ Some k → (¬ PlansTooBig k.report.outcome) → (i : MessageId) → is_pressing i k ≡ true → is_update k ≡ true
updates_at goes stays config place [] rs [] s right all are free books n k at fits i e = absurd (none-some k at)
updates_at goes stays config place [] rs (x ∷ ks) s right all are free books n k at fits i e = absurd are
updates_at goes stays config place (turn ∷ turns) [] ks s right all are free books n k at fits i e = absurd are
updates_at goes stays config place (turn ∷ turns) (r ∷ rs) [] s right all are free books n k at fits i e = absurd are
updates_at goes stays config place (turn ∷ turns) (r ∷ rs) (x ∷ ks) s right all are free books zero k at fits i e =
    let same : x ≡ k = same_Some x k at in
    ap is_update (sym same)
    ∙ updates goes s turn r place x are.0 (planned_book s turn r place x.client x.report x.task x.reach are.0 ((before_later stays config s turn right.0 books).are_books books)) (before_free config s turn right.0 all.0.1 free place x.client are.0.is_client)
    (λ big. fits (subst (λ (y : ClientTurn). PlansTooBig y.report.outcome) same big)) i (ap (is_pressing i) same ∙ e)
updates_at goes stays config place (turn ∷ turns) (r ∷ rs) (x ∷ ks) s right all are free books (suc n) k at fits i e =
    updates_at goes stays config place turns rs ks (after_turn s turn r) right.1 all.1 are.1 (after_free config s turn r right.0 all.0.0 all.0.1 free)
    ((rest_later s turn r).are_books ((before_later stays config s turn right.0 books).are_books books)) n k at fits i e

-- ---- the numbers of turns

in_range : (first count k : ℕ) → k < count → In (range_with_len first count) (first + k)
in_range first zero k lt = absurd (omega (arith, lt))
in_range first (suc count) zero lt = inl (let same : first ≡ first + 0 = omega arith in same)
in_range first (suc count) (suc k) lt = inr (let same : (first + 1) + k ≡ first + suc k = omega arith in subst (In (range_with_len (first + 1) count)) same (in_range (first + 1) count k (omega (arith, lt))))

-- ---- the law

pub punctual : SeenIsFewest → MessagesGoInTime → StaysABook → UpdatesKeepDeadlines
punctual seen goes stays script report place ks is all fits = seen.punctual (length ks) (all_seen ks) (update_turns ks) sends
  where
    sends : SendsWherePressed (length ks) (all_seen ks) (update_turns ks)
    sends turn within (n, s, inside, same, pressed) =
        let there : In (all_seen ks) s = in_from (all_seen ks) s (n, inside, same) in
        let i = from_map (seen_of ks) (flat_map far_ids ks) s there in
        let both : is_pressed turn (seen_of ks i.0) ≡ true = ap (is_pressed turn) i.2 ∙ pressed in
        let now = (and_parts (in_turn ks (is_ready i.0) turn) (in_turn ks (is_pressing i.0) turn) both).1 in
        let k = tested (is_pressing i.0) (slice_get ks turn) now in
        let fit : (¬ PlansTooBig k.0.report.outcome) =
        all_in (λ (x : ClientTurn). ¬ PlansTooBig x.report.outcome) ks k.0 (recursion_from_All (λ (x : ClientTurn). ¬ PlansTooBig x.report.outcome) ks fits) (from_get ks turn k.0 k.1) in
        let update = updates_at goes stays script.config place script.turns report ks (opening_standing script.config) (recursion_from_All (IsTurn script.config) script.turns is.is_script.turns)
        (recursion_from_All (λ (turn : Turn). (turn.taken ≡ true) × (turn.goals ≡ [])) script.turns all) is.turns (none_at_first script.config.clients) (empty_books script.config.limit (length script.config.chains) is.is_script.config.rules.limit) turn k.0 k.1 fit i.0 k.2 in
        contains_from (update_turns ks) turn
        (in_passing (in_turn ks is_update) (range_with_len 0 (length ks)) turn
        (let same : 0 + turn ≡ turn = omega arith in subst (In (range_with_len 0 (length ks))) same (in_range 0 (length ks) turn within))
        (ap (λ o. option_map_or is_update o false) k.1 ∙ update))
