-- The supervisor's order gives the report of a turn.
use Rattle.std.proofs.Common.{◌≡◌, ℕ, zero, suc, ◌+◌, Bool, true, false, if◌then◌else◌, List, [], ◌∷◌, ◌++◌, is_some, length, map, Some, set, refl, sym, ap, ◌∙◌, subst, arith, append_assoc, append-nil}
use Rattle.std.specs.List.{AllZip, slice_get, flat_map, fold, enumerate_from, range_with_len}
use Rattle.std.specs.Option.{option_map, option_map_or, option_to_list}
use Rattle.std.proofs.lemmas.List.{set_at, length-append}
use Rattle.std.proofs.lemmas.Option.{same_Some}
use Rattle.rb_core_model.specs.Event.{Event, Window, Asked}
use Rattle.rb_core_model.specs.Standing.{ClientState, Standing, changed, changed_at, goes_back, judged, standing_after}
use Rattle.rb_super_turn.specs.Agenda.{Item, enter_host, ask, plan, settle, take_open, takes, observations, both_parts, empty_report, Finishes, OrderGivesReport}
use Rattle.rb_super_turn.specs.Report.{ClientReport, TurnReport}
use Rattle.rb_script_types.specs.Config.{Config}
use Rattle.rb_script_types.specs.declared.script.Asked.{Asked as Question}
use Rattle.rb_script_types.specs.declared.script.HostWindow.{HostWindow as WindowOf}
use Rattle.rb_script_types.specs.declared.script.Settlement.{Settlement}
use Rattle.rb_super_turn.specs.Script.{Turn}
use Rattle.rb_super_turn.specs.Turns.{after_window, window_event, after_host_window, hosts_back, after_question, refusal_at, refusals, before_events, before_plans, refusals_in, IsClientReport, after_outcome, after_reports, after_settlement, settlement_report, settlement_reports, taking, after_taking, taking_reports, takers}
use Rattle.rb_core_model.proofs.Lengths.{lengths_after, lengths_fold}

-- ---- lists with one element more

at_end : {X : Type 0} (xs ys : List X) (y : X) (n : ℕ) → length xs ≡ n → slice_get (xs ++ y ∷ ys) n ≡ Some y
at_end [] ys y zero e = refl
at_end [] ys y (suc n) e = absurd (omega arith)
at_end (x ∷ xs) ys y zero e = absurd (omega arith)
at_end (x ∷ xs) ys y (suc n) e = at_end xs ys y n (omega arith)

zip_push : {X Y : Type 0} (R : ℕ × X → Y → Type 0) (m : ℕ) (xs : List X) (ys : List Y) (x : X) (y : Y) (n : ℕ) → m + length xs ≡ n → AllZip R (enumerate_from m xs) ys → R (n, x) y
    → AllZip R (enumerate_from m (xs ++ x ∷ [])) (ys ++ y ∷ [])
zip_push R m [] [] x y n e all one = (let same : n ≡ m = omega arith in subst (λ k. R (k, x) y) same one, tt)
zip_push R m [] (z ∷ ys) x y n e all one = absurd all
zip_push R m (w ∷ xs) [] x y n e all one = absurd all
zip_push R m (w ∷ xs) (z ∷ ys) x y n e all one = (all.0, zip_push R (m + 1) xs ys x y n (omega arith) all.1 one)

reports_push : (cs : List ClientState) (rs : List ClientReport) (c : ClientState) (r : ClientReport) → length rs ≡ length cs
    → after_reports (cs ++ c ∷ []) (rs ++ r ∷ []) ≡ after_reports cs rs ++ after_outcome r.outcome c ∷ []
reports_push [] [] c r e = refl
reports_push [] (q ∷ rs) c r e = absurd (omega arith)
reports_push (d ∷ cs) [] c r e = absurd (omega arith)
reports_push (d ∷ cs) (q ∷ rs) c r e = ap (λ xs. after_outcome q.outcome d ∷ xs) (reports_push cs rs c r (omega arith))

length-reports : (cs : List ClientState) (rs : List ClientReport) → length (after_reports cs rs) ≡ length cs
length-reports [] rs = refl
length-reports (c ∷ cs) [] = refl
length-reports (c ∷ cs) (r ∷ rs) = ap (λ n. suc n) (length-reports cs rs)

-- windows of hosts leave the common one
pub host_keeps : (s : Standing) (w : WindowOf) → (after_host_window s w).window ≡ s.window
host_keeps s w = go (is_some (judged s (window_event w)))
  where
    go : (b : Bool) → (if b then s else changed s (window_event w)).window ≡ s.window
    go true = refl
    go false = refl

pub hosts_keep : (ws : List WindowOf) (s : Standing) → (fold after_host_window s ws).window ≡ s.window
hosts_keep [] s = refl
hosts_keep (w ∷ ws) s = hosts_keep ws (after_host_window s w) ∙ host_keeps s w

module _ (start : Standing) (turn : Turn) where
  hosts_all : (ws : List WindowOf) (s : Standing) (r : TurnReport) (items : List Item)
      → Finishes start turn (fold after_host_window s ws) (record r { hosts_back = r.hosts_back ++ hosts_back s ws }) items → Finishes start turn s r (map enter_host ws ++ items)
  hosts_all [] s r items h = subst (λ xs. Finishes start turn s (record r { hosts_back = xs }) items) (append-nil r.hosts_back) h
  hosts_all (w ∷ ws) s r items h =
      let here : List ℕ = if is_some (judged s (window_event w)) then w.host ∷ [] else [] in
      hosts_all ws (after_host_window s w) (record r { hosts_back = r.hosts_back ++ here }) items
      (subst (λ xs. Finishes start turn (fold after_host_window (after_host_window s w) ws) (record r { hosts_back = xs }) items)
      (sym (append_assoc r.hosts_back here (hosts_back (after_host_window s w) ws))) h)

  -- ---- what is asked, what was seen, what is scanned, what is settled
  asks : (goals : List Question) (s : Standing) (r : TurnReport) (items : List Item) → Finishes start turn (fold after_question s goals) r items → Finishes start turn s r (map ask goals ++ items)
  asks [] s r items h = h
  asks (q ∷ goals) s r items h = asks goals (after_question s q) r items h

  seen_all : (events : List Event) (number : ℕ) (s : Standing) (r : TurnReport) (items : List Item)
      → Finishes start turn (fold standing_after s events) (record r { refused = r.refused ++ refusals number s events }) items → Finishes start turn s r (observations number events ++ items)
  seen_all [] number s r items h = subst (λ xs. Finishes start turn s (record r { refused = xs }) items) (append-nil r.refused) h
  seen_all (event ∷ events) number s r items h =
      seen_all events (number + 1) (standing_after s event) (record r { refused = r.refused ++ refusal_at number s event }) items
      (subst (λ xs. Finishes start turn (fold standing_after (standing_after s event) events) (record r { refused = xs }) items)
      (sym (append_assoc r.refused (refusal_at number s event) (refusals (number + 1) (standing_after s event) events))) h)

  scanned_all : (paths : List ℕ) (s : Standing) (r : TurnReport) (items : List Item) → Finishes start turn s r items → Finishes start turn s r (flat_map both_parts paths ++ items)
  scanned_all [] s r items h = h
  scanned_all (p ∷ paths) s r items h = scanned_all paths s r items h

  settled_all : (xs : List Settlement) (s : Standing) (r : TurnReport) (items : List Item)
      → Finishes start turn (fold after_settlement s xs) (record r { settlements = r.settlements ++ settlement_reports s xs }) items → Finishes start turn s r (map settle xs ++ items)
  settled_all [] s r items h = subst (λ ys. Finishes start turn s (record r { settlements = ys }) items) (append-nil r.settlements) h
  settled_all (x ∷ xs) s r items h =
      settled_all xs (after_settlement s x) (record r { settlements = r.settlements ++ settlement_report s x ∷ [] }) items
      (subst (λ ys. Finishes start turn (fold after_settlement (after_settlement s x) xs) (record r { settlements = ys }) items)
      (sym (append_assoc r.settlements (settlement_report s x ∷ []) (settlement_reports (after_settlement s x) xs))) h)

  taken_all : (clients : List ℕ) (s : Standing) (r : TurnReport)
      → Finishes start turn (fold after_taking s clients) (record r { settlements = r.settlements ++ taking_reports s clients }) [] → Finishes start turn s r (map take_open clients)
  taken_all [] s r h = subst (λ ys. Finishes start turn s (record r { settlements = ys }) []) (append-nil r.settlements) h
  taken_all (n ∷ ns) s r h =
      let here = option_to_list (option_map (settlement_report s) (taking s n)) in
      taken_all ns (after_taking s n) (record r { settlements = r.settlements ++ here })
      (subst (λ ys. Finishes start turn (fold after_taking (after_taking s n) ns) (record r { settlements = ys }) [])
      (sym (append_assoc r.settlements here (taking_reports (after_taking s n) ns))) h)

  -- all or none, where there are as many clients as the configuration has
  takes_all : (c : Config) (u s : Standing) (r : TurnReport) → length u.clients ≡ length c.clients
      → Finishes start turn (fold after_taking s (takers u turn.taken)) (record r { settlements = r.settlements ++ taking_reports s (takers u turn.taken) }) []
      → Finishes start turn s r (takes c turn)
  takes_all c u s r long h = subst (Finishes start turn s r) (same turn.taken) (taken_all (takers u turn.taken) s r h)
    where
      same : (b : Bool) → map take_open (takers u b) ≡ (if b then map take_open (range_with_len 0 (length c.clients)) else [])
      same true = ap (λ n. map take_open (range_with_len 0 n)) long
      same false = refl

  -- ---- the clients, one after another
  planned_all : (p : Standing) (r : TurnReport) (items : List Item)
      → ((rs : List ClientReport) → AllZip (IsClientReport p) (enumerate_from 0 p.clients) rs → Finishes start turn (record p { clients = after_reports p.clients rs }) (record r { clients = rs }) items)
      → (left past : List ClientState) (rs : List ClientReport) (n : ℕ) → length past ≡ n → p.clients ≡ past ++ left → length rs ≡ length past → AllZip (IsClientReport p) (enumerate_from 0 past) rs
      → Finishes start turn (record p { clients = after_reports past rs ++ left }) (record r { clients = rs }) (map plan (range_with_len n (length left)) ++ items)
  planned_all p r items last [] past rs n at all_of long all =
      let whole : p.clients ≡ past = all_of ∙ append-nil past in
      subst (λ cs. Finishes start turn (record p { clients = cs }) (record r { clients = rs }) items)
      (ap (λ cs. after_reports cs rs) whole ∙ sym (append-nil (after_reports past rs)))
      (last rs (subst (λ cs. AllZip (IsClientReport p) (enumerate_from 0 cs) rs) (sym whole) all))
  planned_all p r items last (c ∷ left) past rs n at all_of long all = λ k report found is.
      let long_past : length (after_reports past rs) ≡ n = length-reports past rs ∙ at in
      let here = at_end (after_reports past rs) left c n long_past in
      let same : k ≡ c = same_Some k c (sym found ∙ here) in
      let right : IsClientReport p (n, c) report = subst (λ x. IsClientReport p (n, x) report) same (record { id = is.id; window = is.window; is_window = is.is_window; outcome = is.outcome; too_big = is.too_big }) in
      let f : ClientState → ClientState = after_outcome report.outcome in
      let clients : after_reports (past ++ c ∷ []) (rs ++ report ∷ []) ++ left ≡ changed_at f (after_reports past rs ++ c ∷ left) n =
      ap (λ cs. cs ++ left) (reports_push past rs c report long)
      ∙ append_assoc (after_reports past rs) (f c ∷ []) left
      ∙ sym (set_at (after_reports past rs) c left (f c) n long_past)
      ∙ ap (λ o. option_map_or (λ x. set (after_reports past rs ++ c ∷ left) n (f x)) o (after_reports past rs ++ c ∷ left)) (sym here) in
      subst (λ cs. Finishes start turn (record p { clients = cs }) (record r { clients = rs ++ report ∷ [] }) (map plan (range_with_len (n + 1) (length left)) ++ items)) clients
      (planned_all p r items last left (past ++ c ∷ []) (rs ++ report ∷ []) (n + 1)
      (omega (arith, length-append past (c ∷ []), at))
      (all_of ∙ sym (append_assoc past (c ∷ []) left))
      (omega (arith, length-append past (c ∷ []), length-append rs (report ∷ []), long))
      (zip_push (IsClientReport p) 0 past rs c report n (omega (arith, at)) all right))

pub order : OrderGivesReport
order config turn s long =
    let h = fold after_host_window s turn.windows in
    let e = before_events s turn in
    let p = before_plans s turn in
    let entered = lengths_fold after_host_window (λ t w. lengths_after t (window_event w)) turn.windows s in
    let asked = lengths_fold after_question (λ t q. lengths_after t (Asked q.client q.goal)) turn.goals (after_window h turn.window) in
    let observed = lengths_fold standing_after lengths_after turn.events e in
    let count : length p.clients ≡ length config.clients = observed.clients ∙ asked.clients ∙ (lengths_after h (Window turn.window)).clients ∙ entered.clients ∙ long in
    let r = record empty_report { window_back = goes_back h.window turn.window; hosts_back = hosts_back s turn.windows; refused = refusals_in s turn } in
    let last : List Item = map settle turn.settlements ++ takes config turn in
    hosts_all s turn turn.windows s empty_report _
    (asks s turn turn.goals (after_window h turn.window) _ _ (seen_all s turn turn.events 0 e _ _ (scanned_all s turn (range_with_len 0 (length config.paths)) p r _
    (subst (λ n. Finishes s turn p r (map plan (range_with_len 0 n) ++ last)) count
    (planned_all s turn p r last (λ rs all.
    let u : Standing = record p { clients = after_reports p.clients rs } in
    let mine : TurnReport = record r { clients = rs } in
    let planned_count : length u.clients ≡ length config.clients = length-reports p.clients rs ∙ count in
    settled_all s turn turn.settlements u mine (takes config turn)
    (takes_all s turn config u (fold after_settlement u turn.settlements) (record mine { settlements = settlement_reports u turn.settlements }) planned_count
    (record { window = ap (λ o. goes_back o turn.window) (hosts_keep turn.windows s); hosts = refl; refused = refl; clients = all; settlements = refl }, refl))) p.clients [] [] 0 refl refl refl tt)))))
