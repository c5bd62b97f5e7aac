-- The updates of a report's last turn are those of least lists.
use Rattle.std.proofs.Common.{◌≡◌, ℕ, zero, suc, ◌+◌, ◌-◌, ◌<◌, List, [], ◌∷◌, ◌++◌, take, map, length, Option, None, Some, IsSome, refl, sym, ap, ◌∙◌, subst, inl, inr, arith}
use Rattle.std.specs.Global.{Global}
use Rattle.std.specs.Prelude.{IsSomeAnd, MatchOption}
use Rattle.std.specs.List.{AllByRecursion, AllZip, enumerate_from, flat_map, fold, slice_get}
use Rattle.std.specs.Option.{option_map, option_map_or}
use Rattle.std.proofs.lemmas.List.{length-map}
use Rattle.std.proofs.lemmas.Option.{same_Some}
use Rattle.rb_batch.specs.declared.transaction.Transaction.{Transaction}
use Rattle.rb_book.specs.Book.{Book}
use Rattle.rb_core_model.proofs.Lengths.{HasLengthsOf, lengths_after, lengths_fold, lengths_same, lengths_trans}
use Rattle.rb_core_model.specs.Event.{Asked, Window}
use Rattle.rb_core_model.specs.Standing.{OpenBatch, ClientState, Standing, book_at, new_client, opening_standing, standing_after, task_in}
use Rattle.rb_plan_client.specs.Draft.{IsPlan, IsSending, Plan, Sending, nothing, too_big, batched}
use Rattle.rb_plan_client.specs.Task.{Task, view_of}
use Rattle.rb_plan_types.specs.Least.{IsLeast, IsUnreachable}
use Rattle.rb_script_types.specs.declared.config.ClientConfig.{ClientConfig}
use Rattle.rb_script_types.specs.declared.goal.Goal.{Goal}
use Rattle.rb_script_types.specs.declared.script.Settlement.{Settlement}
use Rattle.rb_step.specs.LightClient.{Update}
use Rattle.rb_step.specs.View.{client_of}
use Rattle.rb_super_turn.specs.Judging.{IsWanted, Leads}
use Rattle.rb_super_turn.specs.Report.{ClientReport, TurnReport}
use Rattle.rb_super_turn.specs.Script.{Script, Turn}
use Rattle.rb_super_turn.specs.Turns.{AreTurnReports, IsClientReport, IsOutcome, IsTurnReport, after_host_window, after_plans, after_question, after_reports, after_settlement, after_taking, after_turn, after_window, before_events, before_plans, numbered, priced, reported_plan, settlement_event, taking, takers, window_event, update_of as update_in}
use Rattle.rb_super_turn.specs.Views.{client_report_view, outcome_view, plan_view, priced_view, sending_view, turn_report_view}
use Rattle.rb_super_turn.specs.declared.report.ClientReport.{ClientReport as CodeClientReport}
use Rattle.rb_super_turn.specs.declared.report.Outcome.{Outcome as CodeOutcome}
use Rattle.rb_super_turn.specs.declared.report.Outcome.TheVariants.{Held, Idle, Planned}
use Rattle.rb_super_turn.specs.declared.report.PlanReport.{PlanReport as CodePlan}
use Rattle.rb_super_turn.specs.declared.report.PricedUpdate.{PricedUpdate as CodePriced}
use Rattle.rb_super_turn.specs.declared.report.SendingReport.{SendingReport as CodeSending}
use Rattle.rb_super_turn.specs.declared.report.SendingReport.TheVariants.{Nothing, TooBig, Batch}
use Rattle.rb_super_turn.specs.declared.report.TurnReport.{TurnReport as CodeTurnReport}
use Rattle.rb_messages.specs.Least.{IsPart, IsSentTo, UpdatesAreLeast, update_of}
use Rattle.rb_messages.specs.Updates.{batch_updates, client_updates, last_updates, plan_updates, sent_as, updates_at}

-- ---- lists

placed_updates : (book : Book) (c : ClientConfig) (ts : List Transaction) (n : ℕ) (us : List (CodePriced Global)) → map update_of (map (sent_as book c ts) (enumerate_from n us)) ≡ map (λ (u : CodePriced Global). u.update) us
placed_updates book c ts n [] = refl
placed_updates book c ts n (u ∷ us) = ap (λ vs. u.update ∷ vs) (placed_updates book c ts (n + 1) us)

viewed_updates : (us : List (CodePriced Global)) → map update_in (map priced_view us) ≡ map (λ (u : CodePriced Global). u.update) us
viewed_updates [] = refl
viewed_updates (u ∷ us) = ap (λ vs. u.update ∷ vs) (viewed_updates us)

priced_updates : (t : Task) (us : List Update) → map update_in (map (priced t) us) ≡ us
priced_updates t [] = refl
priced_updates t (u ∷ us) = ap (λ vs. u ∷ vs) (priced_updates t us)

of_client : (book : Book) (c : ClientConfig) (ts : List Transaction) (n : ℕ) (us : List (CodePriced Global)) → AllByRecursion (λ u. u.client ≡ c.id) (map (sent_as book c ts) (enumerate_from n us))
of_client book c ts n [] = tt
of_client book c ts n (u ∷ us) = (refl, of_client book c ts (n + 1) us)

flat : {X Y : Type 0} (f : X → List Y) (xs : List X) → flat_map f xs ≡ flat_map (λ ys. ys) (map f xs)
flat f [] = refl
flat f (x ∷ xs) = ap (λ ys. f x ++ ys) (flat f xs)

there : {X : Type 0} (xs : List X) (i : ℕ) → i < length xs → IsSome (slice_get xs i)
there [] i lt = absurd (omega (arith, lt))
there (x ∷ xs) zero lt = refl
there (x ∷ xs) (suc i) lt = there xs i (omega (arith, lt))

-- ---- a client

some_number : (b : Option OpenBatch) (number : ℕ) → option_map (λ (b : OpenBatch). b.number) b ≡ Some number → IsSome b
some_number None number e = absurd (cc)
some_number (Some b) number e = refl

own_updates : (book : Book) (c : ClientConfig) (us : List (CodePriced Global)) (s : CodeSending Global) → AllByRecursion (λ u. u.client ≡ c.id) (batch_updates book c us s)
own_updates book c us Nothing = tt
own_updates book c us (TooBig index) = tt
own_updates book c us (Batch b) = of_client book c b.transactions.items 0 us

own_of_plan : (book : Book) (c : ClientConfig) (p : Option (CodePlan Global)) → AllByRecursion (λ u. u.client ≡ c.id) (option_map_or (plan_updates book c) p [])
own_of_plan book c None = tt
own_of_plan book c (Some p) = own_updates book c p.updates.items p.sending

own_of_client : (book : Book) (c : ClientConfig) (o : CodeOutcome Global) → AllByRecursion (λ u. u.client ≡ c.id) (client_updates book c o)
own_of_client book c (Held number) = tt
own_of_client book c (Idle next) = tt
own_of_client book c (Planned p) = own_of_plan book c p.plan

module _ (book : Book) (c : ClientConfig) (t : Task) (k : ClientState) (number : ℕ) (reach : Option ℕ) (goal : Goal) (wanted : IsWanted t (Some goal)) where
  of_sending : (plan : Plan) → IsPlan t reach goal plan → (us : List (CodePriced Global)) → map (λ (u : CodePriced Global). u.update) us ≡ plan.updates
      → (s : CodeSending Global) (x : Sending) → sending_view s ≡ numbered number x → IsSending t reach plan x → IsSentTo t k (batch_updates book c us s)
  of_sending plan is us same Nothing nothing e none = inl (record { goal = goal; wanted = wanted; least = subst (IsLeast (client_of (view_of t)) goal) none.0 is.least })
  of_sending plan is us same Nothing (too_big index) e over = absurd (cc)
  of_sending plan is us same Nothing (batched b) e cut = absurd (cc)
  of_sending plan is us same (TooBig place) nothing e none = absurd (cc)
  of_sending plan is us same (TooBig place) (too_big index) e over =
      inr (refl, inr (inr (record { goal = goal; wanted = wanted; stuck = inr (record { reach = reach; plan = plan; planned = is; index = index; too_big = over }) })))
  of_sending plan is us same (TooBig place) (batched b) e cut = absurd (cc)
  of_sending plan is us same (Batch d) nothing e none = absurd (cc)
  of_sending plan is us same (Batch d) (too_big index) e over = absurd (cc)
  of_sending plan is us same (Batch d) (batched b) e cut =
      inl (record { goal = goal; wanted = wanted; least = subst (IsLeast (client_of (view_of t)) goal) (sym (placed_updates book c d.transactions.items 0 us ∙ same)) is.least })

  of_plan : (p : Option (CodePlan Global)) (a : Option Plan) → option_map plan_view p ≡ option_map (reported_plan t number) a
      → MatchOption a (IsUnreachable (client_of (view_of t)) goal) (IsPlan t reach goal) → IsSentTo t k (option_map_or (plan_updates book c) p [])
  of_plan None None e none = inr (refl, inr (inr (record { goal = goal; wanted = wanted; stuck = inl none })))
  of_plan None (Some a) e is = absurd (cc)
  of_plan (Some p) None e none = absurd (cc)
  of_plan (Some p) (Some a) e is =
      let same : plan_view p ≡ reported_plan t number a = same_Some (plan_view p) (reported_plan t number a) e in
      let us : map (λ (u : CodePriced Global). u.update) p.updates.items ≡ a.updates =
      sym (viewed_updates p.updates.items) ∙ ap (λ x. map update_in x.updates) same ∙ priced_updates t a.updates in
      of_sending a is p.updates.items us p.sending a.sending (ap (λ x. x.sending) same) is.sending

of_outcome : (book : Book) (c : ClientConfig) (t : Task) (k : ClientState) (o : CodeOutcome Global) → IsOutcome t k (outcome_view o) → IsSentTo t k (client_updates book c o)
of_outcome book c t k (Held number) right = inr (refl, inl (some_number k.batch number right))
of_outcome book c t k (Idle next) right =
    inr (refl, inr (inl (record { reach = right.1.reach; is_reach = right.1.is_reach; is_goal = sym right.1.goal })))
of_outcome book c t k (Planned p) right =
    let is = right.1.right in
    of_plan book c t k (k.batches + 1) is.reach right.1.answer.goal (record { reach = is.reach; is_reach = is.is_reach; is_goal = sym is.goal })
    p.plan right.1.answer.plan (ap (λ x. x.plan) right.1.is) is.plan

-- ---- the clients of a turn

module _ (script : Script) (s e : Standing) where
  at_place : (t : Task) (k : ClientState) (o : CodeOutcome Global) → IsOutcome t k (outcome_view o) → (c : Option ClientConfig) → IsSome c
      → IsSomeAnd c (λ config. AllByRecursion (λ u. u.client ≡ config.id) (option_map_or (λ (c : ClientConfig). client_updates (book_at e.books c.tracks) c o) c []))
      × IsSentTo t k (option_map_or (λ (c : ClientConfig). client_updates (book_at e.books c.tracks) c o) c [])
  at_place t k o right None is = absurd (cc)
  at_place t k o right (Some c) is = (own_of_client (book_at e.books c.tracks) c o, of_outcome (book_at e.books c.tracks) c t k o right)

  part : (n : ℕ) (k : ClientState) (r : CodeClientReport Global) → IsClientReport s (n, k) (client_report_view r) → n < length script.config.clients
      → IsPart script s (n, k) (updates_at e script.config.clients (n, r))
  part n k r right lt =
      let is = at_place (task_in s right.window n k) k r.outcome right.outcome (slice_get script.config.clients n) (there script.config.clients n lt) in
      record { own = is.0; window = right.window; is_window = right.is_window; updates = is.1 }

  all_parts : (n : ℕ) (ks : List ClientState) (rs : List (CodeClientReport Global)) → n + length ks ≡ length script.config.clients
      → AllZip (IsClientReport s) (enumerate_from n ks) (map client_report_view rs)
      → AllZip (IsPart script s) (enumerate_from n ks) (map (updates_at e script.config.clients) (enumerate_from n rs))
  all_parts n [] [] len all = tt
  all_parts n [] (r ∷ rs) len all = absurd all
  all_parts n (k ∷ ks) [] len all = absurd all
  all_parts n (k ∷ ks) (r ∷ rs) len all = (part n k r all.0 (omega (arith, len)), all_parts (n + 1) ks rs (omega (arith, len)) all.1)

-- ---- the last turn

lengths_before : (s : Standing) (turn : Turn) → HasLengthsOf s (before_plans s turn)
lengths_before s turn =
    let hosts = fold after_host_window s turn.windows in
    let opened = after_window hosts turn.window in
    let one = lengths_fold after_host_window (λ s w. lengths_after s (window_event w)) turn.windows s in
    let two = lengths_trans s hosts opened one (lengths_after hosts (Window turn.window)) in
    let three = lengths_trans s opened (before_events s turn) two (lengths_fold after_question (λ s q. lengths_after s (Asked q.client q.goal)) turn.goals opened) in
    lengths_trans s (before_events s turn) (before_plans s turn) three (lengths_fold standing_after lengths_after turn.events (before_events s turn))

length-reports : (ks : List ClientState) (rs : List ClientReport) → length (after_reports ks rs) ≡ length ks
length-reports [] rs = refl
length-reports (k ∷ ks) [] = refl
length-reports (k ∷ ks) (r ∷ rs) = ap suc (length-reports ks rs)

lengths_taking : (s : Standing) (client : ℕ) → HasLengthsOf s (after_taking s client)
lengths_taking s client = go (taking s client)
  where
    go : (o : Option Settlement) → HasLengthsOf s (option_map_or (after_settlement s) o s)
    go None = lengths_same s
    go (Some x) = lengths_after s (settlement_event x)

length-turn : (s : Standing) (turn : Turn) (r : TurnReport) → length (after_turn s turn r).clients ≡ length s.clients
length-turn s turn r =
    let plans = after_plans s turn r in
    let settled = fold after_settlement plans turn.settlements in
    (lengths_fold after_taking lengths_taking (takers plans turn.taken) settled).clients
    ∙ (lengths_fold after_settlement (λ s x. lengths_after s (settlement_event x)) turn.settlements plans).clients
    ∙ length-reports (before_plans s turn).clients r.clients ∙ (lengths_before s turn).clients

record IsLast (s : Standing) (turns : List Turn) (reports : List (CodeTurnReport Global)) : Type 0 where
  place : ℕ
  begun : Standing
  turn : Turn
  report : CodeTurnReport Global
  of_turns : length turns ≡ suc place
  of_reports : length reports ≡ suc place
  earlier : Leads s (take place turns) begun
  is_turn : slice_get turns place ≡ Some turn
  is_report : slice_get reports place ≡ Some report
  right : IsTurnReport begun turn (turn_report_view report)
  clients : length begun.clients ≡ length s.clients

last : (s : Standing) (turns : List Turn) (reports : List (CodeTurnReport Global)) → 0 < length turns → AreTurnReports s turns (map turn_report_view reports) → IsLast s turns reports
last s [] reports lt all = absurd (omega (arith, lt))
last s (t ∷ turns) [] lt all = absurd all
last s (t ∷ []) (r ∷ []) lt all = record {
  place = 0;
  begun = s;
  turn = t;
  report = r;
  of_turns = refl;
  of_reports = refl;
  earlier = refl;
  is_turn = refl;
  is_report = refl;
  right = all.0;
  clients = refl;
}
last s (t ∷ []) (r ∷ q ∷ reports) lt all = absurd all.1
last s (t ∷ u ∷ turns) (r ∷ []) lt all = absurd all.1
last s (t ∷ u ∷ turns) (r ∷ q ∷ reports) lt all =
    let is = last (after_turn s t (turn_report_view r)) (u ∷ turns) (q ∷ reports) (omega arith) all.1 in
    record {
      place = suc is.place;
      begun = is.begun;
      turn = is.turn;
      report = is.report;
      of_turns = ap suc is.of_turns;
      of_reports = ap suc is.of_reports;
      earlier = (turn_report_view r, all.0, is.earlier);
      is_turn = is.is_turn;
      is_report = is.is_report;
      right = is.right;
      clients = is.clients ∙ length-turn s t (turn_report_view r);
    }

from_0 : (m n : ℕ) → m ≡ n → 0 + m ≡ n
from_0 m n same = omega (arith, same)

before : (n place : ℕ) → n ≡ suc place → place ≡ n - 1
before n place is = omega (arith, is)

-- what a report's last turn sends is what the least lists of its clients have
pub least_sent : UpdatesAreLeast
least_sent script report e all lt =
    let at = last (opening_standing script.config) script.turns report.turns.items lt all in
    let plans = before_plans at.begun at.turn in
    let places = enumerate_from 0 at.report.clients.items in
    let many : length plans.clients ≡ length script.config.clients = (lengths_before at.begun at.turn).clients ∙ at.clients ∙ length-map script.config.clients new_client in
    let at_end = before (length script.turns) at.place at.of_turns in
    let is_report : slice_get report.turns.items (length report.turns.items - 1) ≡ Some at.report =
    subst (λ n. slice_get report.turns.items n ≡ Some at.report) (before (length report.turns.items) at.place at.of_reports) at.is_report in
    let found : last_updates e script.config.clients report.turns.items ≡ flat_map (updates_at e script.config.clients) places =
    ap (λ o. option_map_or (λ (t : CodeTurnReport Global). flat_map (updates_at e script.config.clients) (enumerate_from 0 t.clients.items)) o []) is_report in
    record {
      standing = plans;
      phase = record {
        begun = at.begun;
        earlier = subst (λ n. Leads (opening_standing script.config) (take n script.turns) at.begun) at_end at.earlier;
        this = at.turn;
        is = subst (λ n. slice_get script.turns n ≡ Some at.turn) at_end at.is_turn;
        taken_in = refl;
      };
      clients = many;
      parts = map (updates_at e script.config.clients) places;
      each = all_parts script plans e 0 plans.clients at.report.clients.items (from_0 (length plans.clients) (length script.config.clients) many) at.right.clients;
      joined = found ∙ flat (updates_at e script.config.clients) places;
    }
