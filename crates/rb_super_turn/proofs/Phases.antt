-- A turn, phase by phase, gives its report.
use Rattle.std.proofs.Common.{◌≡◌, ℕ, ◌+◌, Bool, true, false, if◌then◌else◌, List, [], ◌∷◌, ◌++◌, is_some, length, map, refl, sym, ap, ◌∙◌, subst, append_assoc, append-nil, arith}
use Rattle.std.specs.List.{flat_map, fold, range_with_len}
use Rattle.std.specs.Option.{option_map, option_to_list}
use Rattle.rb_core_model.specs.Event.{Event, Window, Asked}
use Rattle.rb_core_model.specs.Standing.{Standing, goes_back, judged, standing_after}
use Rattle.rb_core_model.proofs.Lengths.{lengths_after, lengths_client, lengths_fold}
use Rattle.rb_script_types.specs.Config.{Config}
use Rattle.rb_script_types.specs.declared.script.Asked.{Asked as Question}
use Rattle.rb_script_types.specs.declared.script.HostWindow.{HostWindow as WindowOf}
use Rattle.rb_script_types.specs.declared.script.Settlement.{Settlement}
use Rattle.rb_super_turn.specs.Agenda.{Item, enter_host, ask, plan, settle, take_open, takes, observations, both_parts, empty_report, Finishes}
use Rattle.rb_super_turn.specs.Report.{RefusedEvent, ClientReport, SettlementReport, TurnReport}
use Rattle.rb_super_turn.specs.Script.{Turn}
use Rattle.rb_super_turn.specs.Turns.{after_window, window_event, after_host_window, hosts_back, after_question, refusal_at, refusals, before_events, before_plans, refusals_in, after_settlement, settlement_report, settlement_reports, after_outcome, taking, after_taking, taking_reports, takers, after_all, reports_of_all, IsTurnReport, after_turn}
use Rattle.rb_super_turn.proofs.Order.{hosts_keep, order}
use Rattle.rb_super_turn.specs.Phases.{IsReportedOf, AreReported}

module _ (start : Standing) (turn : Turn) where
  entered_all : (ws : List WindowOf) (s : Standing) (r : TurnReport) (items : List Item) → Finishes start turn s r (map enter_host ws ++ items)
      → Finishes start turn (fold after_host_window s ws) (record r { hosts_back = r.hosts_back ++ hosts_back s ws }) items
  entered_all [] s r items h = subst (λ xs. Finishes start turn s (record r { hosts_back = xs }) items) (sym (append-nil r.hosts_back)) h
  entered_all (w ∷ ws) s r items h =
      let here : List ℕ = if is_some (judged s (window_event w)) then w.host ∷ [] else [] in
      subst (λ xs. Finishes start turn (fold after_host_window (after_host_window s w) ws) (record r { hosts_back = xs }) items)
      (append_assoc r.hosts_back here (hosts_back (after_host_window s w) ws))
      (entered_all ws (after_host_window s w) (record r { hosts_back = r.hosts_back ++ here }) items h)

  asked_all : (goals : List Question) (s : Standing) (r : TurnReport) (items : List Item) → Finishes start turn s r (map ask goals ++ items) → Finishes start turn (fold after_question s goals) r items
  asked_all [] s r items h = h
  asked_all (q ∷ goals) s r items h = asked_all goals (after_question s q) r items h

  observed_all : (events : List Event) (number : ℕ) (s : Standing) (r : TurnReport) (items : List Item) → Finishes start turn s r (observations number events ++ items)
      → Finishes start turn (fold standing_after s events) (record r { refused = r.refused ++ refusals number s events }) items
  observed_all [] number s r items h = subst (λ xs. Finishes start turn s (record r { refused = xs }) items) (sym (append-nil r.refused)) h
  observed_all (event ∷ events) number s r items h =
      subst (λ xs. Finishes start turn (fold standing_after (standing_after s event) events) (record r { refused = xs }) items)
      (append_assoc r.refused (refusal_at number s event) (refusals (number + 1) (standing_after s event) events))
      (observed_all events (number + 1) (standing_after s event) (record r { refused = r.refused ++ refusal_at number s event }) items h)

  scanned_all : (paths : List ℕ) (s : Standing) (r : TurnReport) (items : List Item) → Finishes start turn s r (flat_map both_parts paths ++ items) → Finishes start turn s r items
  scanned_all [] s r items h = h
  scanned_all (p ∷ paths) s r items h = scanned_all paths s r items h

  planned_all : (reports : List ClientReport) (client : ℕ) (s t : Standing) (r : TurnReport) (items : List Item) → AreReported s t client reports
      → Finishes start turn s r (map plan (range_with_len client (length reports)) ++ items)
      → Finishes start turn t (record r { clients = r.clients ++ reports }) items
  planned_all [] client s t r items are h =
      subst (λ (p : Standing × List ClientReport). Finishes start turn p.0 (record r { clients = p.1 }) items) (λ i. (sym are i, sym (append-nil r.clients) i)) h
  planned_all (report ∷ reports) client s t r items are h =
      let is = are.1 in
      let left = map plan (range_with_len (client + 1) (length reports)) ++ items in
      subst (λ cs. Finishes start turn t (record r { clients = cs }) items) (append_assoc r.clients (report ∷ []) reports)
      (planned_all reports (client + 1) are.0 t (record r { clients = r.clients ++ report ∷ [] }) items are.2
      (subst (λ u. Finishes start turn u (record r { clients = r.clients ++ report ∷ [] }) left) (sym is.after) (h is.known report is.is_known is.right)))

  settled_all : (xs : List Settlement) (s : Standing) (r : TurnReport) (items : List Item) → Finishes start turn s r (map settle xs ++ items)
      → Finishes start turn (fold after_settlement s xs) (record r { settlements = r.settlements ++ settlement_reports s xs }) items
  settled_all [] s r items h = subst (λ ys. Finishes start turn s (record r { settlements = ys }) items) (sym (append-nil r.settlements)) h
  settled_all (x ∷ xs) s r items h =
      subst (λ ys. Finishes start turn (fold after_settlement (after_settlement s x) xs) (record r { settlements = ys }) items)
      (append_assoc r.settlements (settlement_report s x ∷ []) (settlement_reports (after_settlement s x) xs))
      (settled_all xs (after_settlement s x) (record r { settlements = r.settlements ++ settlement_report s x ∷ [] }) items h)

  taken_all : (clients : List ℕ) (s : Standing) (r : TurnReport) → Finishes start turn s r (map take_open clients)
      → Finishes start turn (fold after_taking s clients) (record r { settlements = r.settlements ++ taking_reports s clients }) []
  taken_all [] s r h = subst (λ ys. Finishes start turn s (record r { settlements = ys }) []) (sym (append-nil r.settlements)) h
  taken_all (n ∷ ns) s r h =
      let here = option_to_list (option_map (settlement_report s) (taking s n)) in
      subst (λ ys. Finishes start turn (fold after_taking (after_taking s n) ns) (record r { settlements = ys }) [])
      (append_assoc r.settlements here (taking_reports (after_taking s n) ns))
      (taken_all ns (after_taking s n) (record r { settlements = r.settlements ++ here }) h)

  -- all or none, where there are as many clients as the configuration has
  takes_all : (c : Config) (u s : Standing) (r : TurnReport) → length u.clients ≡ length c.clients → Finishes start turn s r (takes c turn)
      → Finishes start turn (fold after_taking s (takers u turn.taken)) (record r { settlements = r.settlements ++ taking_reports s (takers u turn.taken) }) []
  takes_all c u s r long h = taken_all (takers u turn.taken) s r (subst (Finishes start turn s r) (same turn.taken) h)
    where
      same : (b : Bool) → (if b then map take_open (range_with_len 0 (length c.clients)) else []) ≡ map take_open (takers u b)
      same true = ap (λ n. map take_open (range_with_len 0 n)) (sym long)
      same false = refl

-- ---- the clients, one after another

pub reported_more : (reports : List ClientReport) (first client : ℕ) (s t u : Standing) (report : ClientReport) → first + length reports ≡ client → AreReported s t first reports
    → IsReportedOf t u client report → AreReported s u first (reports ++ report ∷ [])
reported_more [] first client s t u report place so_far is =
    let here : client ≡ first = omega arith in
    (u, subst (λ (p : Standing × ℕ). IsReportedOf p.0 u p.1 report) (λ i. (so_far i, here i)) is, refl)
reported_more (r ∷ reports) first client s t u report place so_far is =
    (so_far.0, so_far.1, reported_more reports (first + 1) client so_far.0 t u report (omega arith) so_far.2 is)

-- plans leave as many clients as there were, and so do questions and events
reported_long : (reports : List ClientReport) (client : ℕ) (s t : Standing) → AreReported s t client reports → length t.clients ≡ length s.clients
reported_long [] client s t are = ap (λ (x : Standing). length x.clients) are
reported_long (report ∷ reports) client s t are =
    reported_long reports (client + 1) are.0 t are.2
    ∙ ap (λ (x : Standing). length x.clients) are.1.after
    ∙ (lengths_client s client (after_outcome report.outcome)).clients

before_long : (s : Standing) (turn : Turn) → length (before_plans s turn).clients ≡ length s.clients
before_long s turn =
    (lengths_fold standing_after lengths_after turn.events (before_events s turn)).clients
    ∙ (lengths_fold after_question (λ t q. lengths_after t (Asked q.client q.goal)) turn.goals (after_window (fold after_host_window s turn.windows) turn.window)).clients
    ∙ (lengths_after (fold after_host_window s turn.windows) (Window turn.window)).clients
    ∙ (lengths_fold after_host_window (λ t w. lengths_after t (window_event w)) turn.windows s).clients

-- ---- the whole

pub turn_reported : (c : Config) (turn : Turn) (s t u v : Standing) (back : Bool) (hosts : List ℕ) (refused : List RefusedEvent) (clients : List ClientReport) (settlements : List SettlementReport)
    → length s.clients ≡ length c.clients
    → back ≡ goes_back s.window turn.window
    → hosts ≡ hosts_back s turn.windows
    → refused ≡ refusals_in s turn
    → t ≡ before_plans s turn
    → length clients ≡ length c.clients
    → AreReported t u 0 clients
    → settlements ≡ reports_of_all turn.settlements turn.taken u
    → v ≡ after_all turn.settlements turn.taken u
    → let r : TurnReport = record { window_back = back; hosts_back = hosts; refused = refused; clients = clients; settlements = settlements }
    in IsTurnReport s turn r × (v ≡ after_turn s turn r)
turn_reported c turn s t u v back hosts refused clients settlements long_s back_is hosts_are refused_is t_is count are settlements_is v_is =
    let h = fold after_host_window s turn.windows in
    let first : TurnReport = record { window_back = goes_back h.window turn.window; hosts_back = hosts_back s turn.windows; refused = refusals_in s turn; clients = []; settlements = [] } in
    let same_back : back ≡ goes_back h.window turn.window = back_is ∙ sym (ap (λ o. goes_back o turn.window) (hosts_keep turn.windows s)) in
    let entered = entered_all s turn turn.windows s empty_report _ (order c turn s long_s) in
    let asked = asked_all s turn turn.goals (after_window h turn.window) (record first { refused = [] }) _ entered in
    let seen = observed_all s turn turn.events 0 (before_events s turn) (record first { refused = [] }) _ asked in
    let scanned = scanned_all s turn (range_with_len 0 (length c.paths)) (before_plans s turn) first _ seen in
    let last = map settle turn.settlements ++ takes c turn in
    let planned = planned_all s turn clients 0 t u first last are
    (subst (λ (p : Standing × ℕ). Finishes s turn p.0 first (map plan (range_with_len 0 p.1) ++ last)) (λ i. (sym t_is i, sym count i)) scanned) in
    let mine : TurnReport = record first { clients = clients } in
    let settled = settled_all s turn turn.settlements u mine (takes c turn) planned in
    let long : length u.clients ≡ length c.clients =
    reported_long clients 0 t u are ∙ ap (λ (x : Standing). length x.clients) t_is ∙ before_long s turn ∙ long_s in
    let whole = takes_all s turn c u (fold after_settlement u turn.settlements) (record mine { settlements = settlement_reports u turn.settlements }) long settled in
    subst (λ (p : Standing × Bool × List ℕ × List RefusedEvent × List SettlementReport).
    let r : TurnReport = record { window_back = p.1; hosts_back = p.2; refused = p.3; clients = clients; settlements = p.4 } in IsTurnReport s turn r × (p.0 ≡ after_turn s turn r))
    (λ i. (sym v_is i, sym same_back i, sym hosts_are i, sym refused_is i, sym settlements_is i)) whole
