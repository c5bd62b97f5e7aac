-- Every schedule gives the script's report.
use Rattle.std.proofs.Common.{◌≡◌, ℕ, suc, ◌+◌, ◌<◌, ◌≤◌, Bool, true, false, cond, not, List, [], ◌∷◌, ◌++◌, length, take, drop, get_or, set, Option, Some, None, is_some, refl, sym, ap, ◌∙◌, subst, inl, inr, arith, if◌then◌else◌}
use Rattle.std.specs.List.{slice_get, fold, AllByRecursion}
use Rattle.std.specs.Option.{option_map, option_map_or, option_or, option_and_then, option_to_list}
use Rattle.std.proofs.lemmas.Bool.{false≢true, eqb-true, and_parts, not-true}
use Rattle.std.proofs.lemmas.List.Elements.{recursion_from_All}
use Rattle.std.proofs.lemmas.List.Sums.{sum_by-cons}
use Rattle.std.proofs.lemmas.Option.{none-some, same_Some}
use Rattle.rb_base.specs.Window.{Span}
use Rattle.rb_scan.specs.Path.{Path}
use Rattle.rb_base.specs.declared.gate.Part.{Part}
use Rattle.rb_base.specs.declared.gate.Part.TheVariants.{Packets, Channel}
use Rattle.rb_plan_client.specs.Draft.{Draft, IsDraft}
use Rattle.rb_core_model.specs.Event.{Event, IsEvent, Window, Asked, Scanned, Planned}
use Rattle.rb_core_model.specs.Scan.{Scan}
use Rattle.rb_core_model.specs.Snapshot.{from_nothing}
use Rattle.rb_core_model.specs.Machine.{State, opening, is_scanned, job_of, client_view, refusal_of, accepted, after, state_of}
use Rattle.rb_core_model.specs.Limits.{max_events}
use Rattle.rb_script_types.specs.declared.refusal.Refusal.{Refusal}
use Rattle.rb_script_types.specs.declared.refusal.Refusal.TheVariants.{WindowBack}
use Rattle.rb_core_model.specs.Refusal.{refused_if}
use Rattle.rb_core_model.specs.Standing.{OpenBatch, ClientState, Standing, opening_standing, view_of_path, path_view, task_in, with_client, after_answer, goes_back, judged, standing_after}
use Rattle.rb_core_model.proofs.Drafted.{drafted}
use Rattle.rb_core_model.proofs.Marks.{all_at}
use Rattle.rb_core_model.proofs.Options.{none_from, some_from}
use Rattle.rb_core_model.proofs.Owed.{append_all}
use Rattle.rb_script_types.specs.declared.script.HostWindow.{HostWindow as WindowOf}
use Rattle.rb_plan_client.specs.Task.{too_big_messages}
use Rattle.rb_super_turn.specs.Agenda.{Item, enter_host, enter, ask, observe, scan, plan, settle, take_open, agenda, Finishes, OrderGivesReport}
use Rattle.rb_super_turn.specs.Report.{held, ClientReport, SettlementReport, TurnReport, Report}
use Rattle.rb_super.specs.Schedule.{Progress, World, RightDraft, Step, acts, publishes, tells, learns, scans, plans, first_world, own_scan, appended, next, same_part, if_fits, fits_scan, fits_draft, with_client_report, draft_given, scan_taken, draft_taken, plan_done, settled_as, take_done, item_done, begun, due_done, acted, step, after_steps, appends_in, FitsLog, world_after, Schedules, OwnDraftsServe}
use Rattle.rb_script_types.specs.declared.script.Asked.{Asked as Question}
use Rattle.rb_script_types.specs.declared.script.Settlement.{Settlement}
use Rattle.rb_super_turn.specs.Script.{Turn, Script, IsTurn, IsScript}
use Rattle.rb_super_turn.specs.Turns.{window_event, refused_as, outcome_of, after_outcome, settlement_event, id_of, settlement_report, after_settlement, taking, IsTurnReport, after_turn, AreTurnReports}
use Rattle.rb_super.proofs.Covering.{Covers, Nothing, Plus, more, agenda_covers, IsItem, agenda_items, Entered, entered, still_entered, first_entered}
use Rattle.rb_core_model.proofs.Accepted.{open_to, standing_of, front_of, scan_ok, now_scanned, still_scanned, draft_ok, plan_scanned, window_stays, window_entered}
use Rattle.rb_super_turn.proofs.Order.{host_keeps}
use Rattle.rb_super_turn.proofs.Reported.{changed_by, set_same, right_outcome, same_client}
use Rattle.rb_super_turn.proofs.Takings.{taker}
use Rattle.rb_super_turn.proofs.Sizes.{HasSizes, sizes_accepted, sizes_opening, seen_known, chain_known, client_known, path_known, at_place}

-- ---- turns that are over

-- the reports are those of the first turns, which lead to a standing and leave these turns
abbrev pub Led : Standing → List Turn → Report → Standing → List Turn → Type 0
Led s ts [] u left = (s ≡ u) × (ts ≡ left)
Led s [] (r ∷ rs) u left = ⊥
Led s (t ∷ ts) (r ∷ rs) u left = IsTurnReport s t r × Led (after_turn s t r) ts rs u left

led_more : (s : Standing) (ts : List Turn) (rs : Report) (u v : Standing) (t : Turn) (left : List Turn) (r : TurnReport) → Led s ts rs u (t ∷ left) → IsTurnReport u t r → v ≡ after_turn u t r → Led s ts (rs ++ r ∷ []) v left
led_more s [] [] u v t left r led is to = absurd (cc)
led_more s (x ∷ ts) [] u v t left r led is to =
    let head : x ≡ t = ap (λ (xs : List Turn). get_or xs 0 x) led.1 in
    let tail : ts ≡ left = ap (λ (xs : List Turn). drop 1 xs) led.1 in (
      subst (λ (p : Standing × Turn). IsTurnReport p.0 p.1 r) (λ i. (sym led.0 i, sym head i)) is,
      (ap (λ (p : Standing × Turn). after_turn p.0 p.1 r) (λ i. (led.0 i, head i)) ∙ sym to, tail),
    )
led_more s [] (q ∷ rs) u v t left r led is to = absurd led
led_more s (x ∷ ts) (q ∷ rs) u v t left r led is to = (led.0, led_more (after_turn s x q) ts rs u v t left r led.1 is to)

pub led_reports : (s : Standing) (ts : List Turn) (rs : Report) (u : Standing) (left : List Turn) → Led s ts rs u left → AreTurnReports s (take (length rs) ts) rs
led_reports s ts [] u left led = tt
led_reports s [] (r ∷ rs) u left led = absurd led
led_reports s (t ∷ ts) (r ∷ rs) u left led = (led.0, led_reports (after_turn s t r) ts rs u left led.1)

-- ---- findings that fit

fitting : {X : Type 0} (fits : X → Bool) (o : Option X) (x : X) → if_fits fits o ≡ Some x → (o ≡ Some x) × (fits x ≡ true)
fitting {X} fits None x e = absurd (none-some x e)
fitting {X} fits (Some y) x e = go (fits y) refl e
  where
    go : (b : Bool) → fits y ≡ b → cond b (Some y) None ≡ Some x → (Some y ≡ Some x) × (fits x ≡ true)
    go true t f = (f, ap fits (sym (same_Some y x f)) ∙ t)
    go false t f = absurd (none-some x f)

accepted_none : (s : State) (e : Event) → not (is_some (refusal_of s e)) ≡ true → refusal_of s e ≡ None
accepted_none s e t = none_from (refusal_of s e) (not-true (is_some (refusal_of s e)) t)

parts_same : (a b : Part) → same_part a b ≡ true → a ≡ b
parts_same Packets Packets e = refl
parts_same Packets Channel e = absurd (false≢true e)
parts_same Channel Packets e = absurd (false≢true e)
parts_same Channel Channel e = refl

-- ---- what holds in every world

module _ (script : Script) where
  abbrev IsScannedIn : State → ℕ → Part → Type 0
  IsScannedIn s p part = is_scanned s p part ≡ true

  record IsCore (s : State) (log : List Event) : Type 0 where
    core : s ≡ state_of script.config (from_nothing log)
    events : AllByRecursion IsEvent log
    sizes : HasSizes script.config s

  fold-push : (s : State) (xs : List Event) (e : Event) → fold after s (xs ++ e ∷ []) ≡ after (fold after s xs) e
  fold-push s [] e = refl
  fold-push s (x ∷ xs) e = fold-push (after s x) xs e

  core_more : (s : State) (log : List Event) (e : Event) → IsCore s log → IsEvent e → IsCore (after s e) (if is_some (refusal_of s e) then log else log ++ e ∷ [])
  core_more s log e is right_event = go (refusal_of s e) refl
    where
      go : (o : Option Refusal) → refusal_of s e ≡ o → IsCore (if is_some o then s else accepted s e) (if is_some o then log else log ++ e ∷ [])
      go (Some r) at = is
      go None at = record {
        core = sym (ap (λ o. if is_some o then s else accepted s e) at) ∙ ap (λ t. after t e) is.core ∙ sym (fold-push (opening script.config) log e);
        events = append_all IsEvent log (e ∷ []) is.events (right_event, tt);
        sizes = sizes_accepted script.config s e is.sizes;
      }

  record IsUnderWay (s : State) (turns : List Turn) (done : Report) (p : Progress) : Type 0 where
    start : Standing
    turn : Turn
    led : Led (opening_standing script.config) script.turns done start (turn ∷ turns)
    finishes : Finishes start turn s.standing p.report p.due
    covers : Covers (length script.config.paths) (IsScannedIn s) p.due
    items : AllByRecursion (IsItem script.config) p.due
    windowed : Entered s.standing p.due

  abbrev IsPlace : State → List Turn → Report → Option Progress → Type 0
  IsPlace s turns done None = Led (opening_standing script.config) script.turns done s.standing turns
  IsPlace s turns done (Some p) = IsUnderWay s turns done p

  abbrev due_count : Option Progress → ℕ
  due_count None = 0
  due_count (Some p) = length p.due

  record IsFine (w : World) : Type 0 where
    is_core : IsCore w.core w.log
    found : AllByRecursion IsDraft w.drafts
    left : AllByRecursion (IsTurn script.config) w.turns
    room : w.core.front + (due_count w.current + appends_in script.config w.turns) ≤ max_events
    place : IsPlace w.core w.turns w.done w.current

  -- ---- an event that is judged by how things stand

  module _ (w : World) (fine : IsFine w) (item : Item) (items : List Item) (r : TurnReport) (is_current : w.current ≡ Some (record { due = item ∷ items; report = r })) where
    under_way : IsUnderWay w.core w.turns w.done (record { due = item ∷ items; report = r })
    under_way = subst (IsPlace w.core w.turns w.done) is_current fine.place

    roomy : w.core.front + (suc (length items) + appends_in script.config w.turns) ≤ max_events
    roomy = subst (λ o. w.core.front + (due_count o + appends_in script.config w.turns) ≤ max_events) is_current fine.room

    has_room : w.core.front < max_events
    has_room = let all = roomy in omega arith

    -- one event is appended
    one_event : (e : Event) (q : TurnReport) (t : Standing) → IsEvent e → (after w.core e).standing ≡ t
        → Finishes under_way.start under_way.turn t q items → Covers (length script.config.paths) (IsScannedIn (after w.core e)) items
        → AllByRecursion (IsItem script.config) items → Entered t items → IsFine (next (appended w e) items q)
    one_event e q t is_event stands finish covers rest_items windowed = record {
      is_core = core_more w.core w.log e fine.is_core is_event;
      found = fine.found;
      left = fine.left;
      room = let all = roomy in let front = front_of w.core e in omega arith;
      place = record {
        start = under_way.start;
        turn = under_way.turn;
        led = under_way.led;
        finishes = subst (λ u. Finishes under_way.start under_way.turn u q items) (sym stands) finish;
        covers = covers;
        items = rest_items;
        windowed = subst (λ u. Entered u items) (sym stands) windowed;
      };
    }

    -- nothing is appended
    no_event : (q : TurnReport) → Finishes under_way.start under_way.turn w.core.standing q items → Covers (length script.config.paths) (IsScannedIn w.core) items
        → AllByRecursion (IsItem script.config) items → Entered w.core.standing items → IsFine (next w items q)
    no_event q finish covers rest_items windowed = record {
      is_core = fine.is_core;
      found = fine.found;
      left = fine.left;
      room = let all = roomy in omega arith;
      place = record { start = under_way.start; turn = under_way.turn; led = under_way.led; finishes = finish; covers = covers; items = rest_items; windowed = windowed };
    }

  -- ---- each item

  refused_some : (b : Bool) (q : Refusal) → is_some (refused_if b q None) ≡ b
  refused_some true q = refl
  refused_some false q = refl

  none_scanned : (s : State) (items : List Item) → Covers (length script.config.paths) Nothing items → Covers (length script.config.paths) (IsScannedIn s) items
  none_scanned s items c = more (length script.config.paths) Nothing (IsScannedIn s) (λ p part no. absurd no) items c

  Due : World → Item → List Item → TurnReport → Type 0
  Due w item items r = w.current ≡ Some (record { due = item ∷ items; report = r })

  enter_fine : (w : World) → IsFine w → (k : ℕ) (own : Option RightDraft) (r : TurnReport) (items : List Item) (window : Span) → Due w (enter window) items r → IsFine (item_done w k own items r (enter window))
  unfolding Due
  enter_fine w fine k own r items window due =
      let u = under_way w fine (enter window) items r due in
      let same : refusal_of w.core (Window window) ≡ judged w.core.standing (Window window) = open_to w.core (Window window) refl (has_room w fine (enter window) items r due) in
      let back : is_some (refusal_of w.core (Window window)) ≡ goes_back w.core.standing.window window = ap (λ o. is_some o) same ∙ refused_some (goes_back w.core.standing.window window) WindowBack in
      one_event w fine (enter window) items r due (Window window) (record r { window_back = is_some (refusal_of w.core (Window window)) }) (standing_after w.core.standing (Window window))
      u.items.0 (standing_of w.core (Window window) same)
      (subst (λ b. Finishes u.start u.turn (standing_after w.core.standing (Window window)) (record r { window_back = b }) items) (sym back) u.finishes)
      (none_scanned (after w.core (Window window)) items u.covers) u.items.1 (entered (standing_after w.core.standing (Window window)) items (window_entered w.core.standing window))

  enter_host_fine : (w : World) → IsFine w → (k : ℕ) (own : Option RightDraft) (r : TurnReport) (items : List Item) (x : WindowOf) → Due w (enter_host x) items r → IsFine (item_done w k own items r (enter_host x))
  unfolding Due
  enter_host_fine w fine k own r items x due =
      let u = under_way w fine (enter_host x) items r due in
      let e : Event = window_event x in
      let same : refusal_of w.core e ≡ judged w.core.standing e =
      open_to w.core e (chain_known script.config w.core x.host fine.is_core.sizes u.items.0.0) (has_room w fine (enter_host x) items r due) in
      one_event w fine (enter_host x) items r due e (record r { hosts_back = r.hosts_back ++ (if is_some (refusal_of w.core e) then x.host ∷ [] else []) }) (standing_after w.core.standing e)
      u.items.0.1 (standing_of w.core e same)
      (subst (λ o. Finishes u.start u.turn (standing_after w.core.standing e) (record r { hosts_back = r.hosts_back ++ (if is_some o then x.host ∷ [] else []) }) items) (sym same) u.finishes)
      (none_scanned (after w.core e) items u.covers) u.items.1 (still_entered w.core.standing (standing_after w.core.standing e) items (host_keeps w.core.standing x) u.windowed)

  ask_fine : (w : World) → IsFine w → (k : ℕ) (own : Option RightDraft) (r : TurnReport) (items : List Item) (q : Question) → Due w (ask q) items r → IsFine (item_done w k own items r (ask q))
  unfolding Due
  ask_fine w fine k own r items q due =
      let u = under_way w fine (ask q) items r due in
      let e : Event = Asked q.client q.goal in
      let same : refusal_of w.core e ≡ judged w.core.standing e =
      open_to w.core e (client_known script.config w.core q.client fine.is_core.sizes u.items.0) (has_room w fine (ask q) items r due) in
      one_event w fine (ask q) items r due e r (standing_after w.core.standing e) tt (standing_of w.core e same) u.finishes
      (none_scanned (after w.core e) items u.covers) u.items.1 (entered (standing_after w.core.standing e) items (window_stays w.core.standing e u.windowed))

  observe_fine : (w : World) → IsFine w → (k : ℕ) (own : Option RightDraft) (r : TurnReport) (items : List Item) (number : ℕ) (e : Event) → Due w (observe number e) items r
      → IsFine (item_done w k own items r (observe number e))
  unfolding Due
  observe_fine w fine k own r items number e due =
      let u = under_way w fine (observe number e) items r due in
      let known = seen_known script.config w.core e fine.is_core.sizes u.items.0.0 in
      let same : refusal_of w.core e ≡ judged w.core.standing e = open_to w.core e known.0 (has_room w fine (observe number e) items r due) ∙ known.1 in
      one_event w fine (observe number e) items r due e (record r { refused = r.refused ++ refused_as number (refusal_of w.core e) }) (standing_after w.core.standing e) u.items.0.1 (standing_of w.core e same)
      (subst (λ o. Finishes u.start u.turn (standing_after w.core.standing e) (record r { refused = r.refused ++ refused_as number o }) items) (sym same) u.finishes)
      (none_scanned (after w.core e) items u.covers) u.items.1 (entered (standing_after w.core.standing e) items (window_stays w.core.standing e u.windowed))

  settle_fine : (w : World) → IsFine w → (k : ℕ) (own : Option RightDraft) (r : TurnReport) (items : List Item) (x : Settlement) → Due w (settle x) items r → IsFine (item_done w k own items r (settle x))
  unfolding Due
  settle_fine w fine k own r items x due =
      let u = under_way w fine (settle x) items r due in
      let e : Event = settlement_event x in
      let same : refusal_of w.core e ≡ judged w.core.standing e =
      open_to w.core e (client_known script.config w.core x.client fine.is_core.sizes u.items.0) (has_room w fine (settle x) items r due) in
      let id = id_of w.core.standing x.client in
      one_event w fine (settle x) items r due e (record r { settlements = r.settlements ++ record { id = id; batch = x.batch; done = x.done; refusal = refusal_of w.core e } ∷ [] })
      (standing_after w.core.standing e) tt (standing_of w.core e same)
      (subst (λ o. Finishes u.start u.turn (standing_after w.core.standing e) (record r { settlements = r.settlements ++ record { id = id; batch = x.batch; done = x.done; refusal = o } ∷ [] }) items) (sym same) u.finishes)
      (none_scanned (after w.core e) items u.covers) u.items.1 (entered (standing_after w.core.standing e) items (window_stays w.core.standing e u.windowed))

  take_fine : (w : World) → IsFine w → (k : ℕ) (own : Option RightDraft) (r : TurnReport) (items : List Item) (client : ℕ) → Due w (take_open client) items r → IsFine (item_done w k own items r (take_open client))
  unfolding Due
  take_fine w fine k own r items client due = go (taking w.core.standing client) refl
    where
      reported : (Settlement → SettlementReport) → Option Settlement → TurnReport
      reported f o = record r { settlements = r.settlements ++ option_to_list (option_map f o) }

      go : (o : Option Settlement) → taking w.core.standing client ≡ o → IsFine (take_done w items r o)
      go None e =
          let u = under_way w fine (take_open client) items r due in
          no_event w fine (take_open client) items r due (reported (settled_as w.core) None)
          (subst (λ (o : Option Settlement). Finishes u.start u.turn (option_map_or (after_settlement w.core.standing) o w.core.standing) (reported (settlement_report w.core.standing) o) items) e u.finishes)
          (none_scanned w.core items u.covers) u.items.1 (entered w.core.standing items u.windowed)
      go (Some x) e =
          let u = under_way w fine (take_open client) items r due in
          let event : Event = settlement_event x in
          let lt : x.client < length script.config.clients = subst (λ n. n < length script.config.clients) (sym (taker w.core.standing client x e)) u.items.0 in
          let same : refusal_of w.core event ≡ judged w.core.standing event =
          open_to w.core event (client_known script.config w.core x.client fine.is_core.sizes lt) (has_room w fine (take_open client) items r due) in
          let id = id_of w.core.standing x.client in
          let finishes : Finishes u.start u.turn (standing_after w.core.standing event) (record r { settlements = r.settlements ++ settlement_report w.core.standing x ∷ [] }) items =
          subst (λ (o : Option Settlement). Finishes u.start u.turn (option_map_or (after_settlement w.core.standing) o w.core.standing) (reported (settlement_report w.core.standing) o) items) e u.finishes in
          one_event w fine (take_open client) items r due event (record r { settlements = r.settlements ++ settled_as w.core x ∷ [] })
          (standing_after w.core.standing event) tt (standing_of w.core event same)
          (subst (λ o. Finishes u.start u.turn (standing_after w.core.standing event) (record r { settlements = r.settlements ++ record { id = id; batch = x.batch; done = x.done; refusal = o } ∷ [] }) items) (sym same) finishes)
          (none_scanned (after w.core event) items u.covers) u.items.1 (entered (standing_after w.core.standing event) items (window_stays w.core.standing event u.windowed))

  -- ---- a scan

  record IsScanTaken (s : State) (path : ℕ) (part : Part) (o : Option (ℕ × Scan)) : Type 0 where
    taken : ℕ × Scan
    is : o ≡ Some taken
    is_path : taken.0 ≡ path
    is_part : taken.1.part ≡ part
    ok : refusal_of s (Scanned taken.0 taken.1) ≡ None

  a_scan : (w : World) → IsFine w → (k path : ℕ) (part : Part) → path < length script.config.paths → w.core.front < max_events → is_scanned w.core path part ≡ false
      → IsScanTaken w.core path part (scan_taken w k path part)
  a_scan w fine k path part lt room not_yet = go (if_fits (fits_scan w.core path part) (slice_get w.scans k)) refl
    where
      go : (o : Option (ℕ × Scan)) → if_fits (fits_scan w.core path part) (slice_get w.scans k) ≡ o → IsScanTaken w.core path part (option_or o (own_scan w.core path part))
      go (Some f) e =
          let fits = (fitting (fits_scan w.core path part) (slice_get w.scans k) f e).1 in
          let one = and_parts _ _ fits in
          let two = and_parts _ _ one.0 in
          record { taken = f; is = refl; is_path = eqb-true f.0 path two.0; is_part = parts_same f.1.part part two.1; ok = accepted_none w.core (Scanned f.0 f.1) one.1 }
      go None e =
          let known = path_known script.config w.core path fine.is_core.sizes lt in
          let p = at_place w.core.standing.paths path (subst (λ n. path < n) (sym fine.is_core.sizes.paths) lt) in
          let v : Path = view_of_path w.core.standing.books p.0 in
          let view : path_view w.core.standing path ≡ Some v = ap (option_map (view_of_path w.core.standing.books)) p.1 in
          record {
            taken = (path, record { view = v; part = part });
            is = ap (option_map (λ (v : Path). (path, record { view = v; part = part }))) view;
            is_path = refl;
            is_part = refl;
            ok = scan_ok w.core path part v known room view not_yet;
          }

  after_ok : (s : State) (e : Event) → refusal_of s e ≡ None → after s e ≡ accepted s e
  after_ok s e ok = ap (λ o. if is_some o then s else accepted s e) ok

  scan_fine : (w : World) → IsFine w → (k : ℕ) (own : Option RightDraft) (r : TurnReport) (items : List Item) (path : ℕ) (part : Part) → Due w (scan path part) items r → IsFine (item_done w k own items r (scan path part))
  unfolding Due
  scan_fine w fine k own r items path part due = go (is_scanned w.core path part) refl
    where
      go : (b : Bool) → is_scanned w.core path part ≡ b
          → IsFine (next (if b then w else option_map_or (λ (f : ℕ × Scan). appended w (Scanned f.0 f.1)) (scan_taken w k path part) w) items r)
      go true e =
          let u = under_way w fine (scan path part) items r due in
          no_event w fine (scan path part) items r due r u.finishes
          (more (length script.config.paths) (Plus (IsScannedIn w.core) path part) (IsScannedIn w.core)
          (λ p other. elim [ inl is ↦ is | inr at ↦ subst (λ (x : ℕ × Part). is_scanned w.core x.0 x.1 ≡ true) (λ i. (sym at.0 i, sym at.1 i)) e ]) items u.covers)
          u.items.1 (entered w.core.standing items u.windowed)
      go false e =
          let u = under_way w fine (scan path part) items r due in
          let t = a_scan w fine k path part u.items.0 (has_room w fine (scan path part) items r due) e in
          let event : Event = Scanned t.taken.0 t.taken.1 in
          let next_core : after w.core event ≡ accepted w.core event = after_ok w.core event t.ok in
          let lt : t.taken.0 < length w.core.scans = subst (λ n. n < length w.core.scans) (sym t.is_path) (subst (λ n. path < n) (sym fine.is_core.sizes.scans) u.items.0) in
          let now = now_scanned w.core t.taken.0 t.taken.1 lt t.ok in
          subst (λ o. IsFine (next (option_map_or (λ (f : ℕ × Scan). appended w (Scanned f.0 f.1)) o w) items r)) (sym t.is)
          (one_event w fine (scan path part) items r due event r w.core.standing tt (ap (λ (s : State). s.standing) next_core) u.finishes
          (more (length script.config.paths) (Plus (IsScannedIn w.core) path part) (IsScannedIn (after w.core event))
          (λ p other. elim [
            | inl is ↦ subst (λ (s : State). is_scanned s p other ≡ true) (sym next_core) (still_scanned w.core t.taken.0 t.taken.1 lt t.ok p other is)
            | inr at ↦
                subst (λ (x : State × ℕ × Part). is_scanned x.0 x.1 x.2 ≡ true)
                (λ i. (sym next_core i, (t.is_path ∙ sym at.0) i, (t.is_part ∙ sym at.1) i)) now
          ]) items u.covers)
          u.items.1 (entered w.core.standing items u.windowed))

  -- ---- a plan

  record IsDraftTaken (s : State) (client : ℕ) (d : Draft) : Type 0 where
    is_client : d.job.client ≡ client
    is_draft : IsDraft d
    ok : refusal_of s (Planned d) ≡ None

  a_draft : (w : World) → IsFine w → (k : ℕ) (own : Option RightDraft) (client : ℕ) (d : Draft) → draft_taken w k own client ≡ Some d → IsDraftTaken w.core client d
  a_draft w fine k own client d taken = go (if_fits (fits_draft w.core client) (slice_get w.drafts k)) refl taken
    where
      by_fit : IsDraft d → fits_draft w.core client d ≡ true → IsDraftTaken w.core client d
      by_fit is fits = (let one = and_parts _ _ fits in record { is_client = eqb-true d.job.client client one.0; is_draft = is; ok = accepted_none w.core (Planned d) one.1 })

      given : (o : Option RightDraft) → draft_given o ≡ Some d → IsDraft d
      given None e = absurd (none-some d e)
      given (Some x) e = subst IsDraft (same_Some x.draft d e) x.right

      go : (o : Option Draft) → if_fits (fits_draft w.core client) (slice_get w.drafts k) ≡ o → option_or o (if_fits (fits_draft w.core client) (draft_given own)) ≡ Some d → IsDraftTaken w.core client d
      go (Some x) e is =
          let fits = fitting (fits_draft w.core client) (slice_get w.drafts k) d (e ∙ is) in
          by_fit (all_at IsDraft w.drafts k d fine.found fits.0) fits.1
      go None e is =
          let fits = fitting (fits_draft w.core client) (draft_given own) d is in
          by_fit (given own fits.0) fits.1

  plan_fine : (w : World) → IsFine w → (k : ℕ) (own : Option RightDraft) (r : TurnReport) (items : List Item) (client : ℕ) → Due w (plan client) items r → IsFine (item_done w k own items r (plan client))
  unfolding Due
  plan_fine w fine k own r items client due =
      let u = under_way w fine (plan client) items r due in
      let c = at_place w.core.standing.clients client (subst (λ n. client < n) (sym fine.is_core.sizes.clients) u.items.0) in
      let window = some_from w.core.standing.window u.windowed in
      subst (λ o. IsFine (option_map_or (λ (c : ClientState). plan_done w k own items r client c c.batch) o w)) (sym c.1)
      (go c.0 c.1 window.0 window.1 c.0.batch refl)
    where
      by_draft : (c : ClientState) → slice_get w.core.standing.clients client ≡ Some c → (window : Span) → w.core.standing.window ≡ Some window → c.batch ≡ None → (o : Option Draft) → draft_taken w k own client ≡ o
          → IsFine (option_map_or (λ d. next (appended w (Planned d)) items (with_client_report r c (outcome_of c d) (too_big_messages d.job.task))) o w)
      by_draft c at window is_window e None taken = fine
      by_draft c at window is_window e (Some d) taken =
          let u = under_way w fine (plan client) items r due in
          let t = a_draft w fine k own client d taken in
          let x = drafted w.core d t.ok in
          let known : x.known ≡ c = same_Some x.known c (sym x.is_known ∙ ap (slice_get w.core.standing.clients) t.is_client ∙ at) in
          let same_window : x.window ≡ window = same_Some x.window window (sym x.is_window ∙ is_window) in
          let task : d.job.task ≡ task_in w.core.standing window client c =
          x.task ∙ ap (λ (p : Span × ℕ × ClientState). task_in w.core.standing p.0 p.1 p.2) (λ i. (same_window i, t.is_client i, known i)) in
          let next_core : after w.core (Planned d) ≡ accepted w.core (Planned d) = after_ok w.core (Planned d) t.ok in
          let stands : (after w.core (Planned d)).standing ≡ with_client w.core.standing client (after_outcome (outcome_of c d)) =
          ap (λ (s : State). s.standing) next_core
          ∙ ap (λ n. with_client w.core.standing n (after_answer d.answer)) t.is_client
          ∙ ap (λ cs. record w.core.standing { clients = cs }) (changed_by (after_answer d.answer) (after_outcome (outcome_of c d)) w.core.standing.clients client c at (sym (same_client c d))) in
          one_event w fine (plan client) items r due (Planned d) (with_client_report r c (outcome_of c d) (too_big_messages d.job.task)) (with_client w.core.standing client (after_outcome (outcome_of c d))) t.is_draft stands
          (u.finishes c (record { id = c.config.id; outcome = outcome_of c d; too_big = too_big_messages d.job.task }) at
          (record {
            id = refl;
            window = window;
            is_window = is_window;
            outcome = right_outcome (task_in w.core.standing window client c) c d e task t.is_draft;
            too_big = ap (λ u. too_big_messages u) task ∙ sym (ap (λ o. if is_some o then [] else too_big_messages (task_in w.core.standing window client c)) e);
          }))
          (more (length script.config.paths) (IsScannedIn w.core) (IsScannedIn (after w.core (Planned d)))
          (λ p part is. ap (λ (s : State). is_scanned s p part) next_core ∙ plan_scanned w.core d p part ∙ is) items u.covers.1)
          u.items.1 (entered (with_client w.core.standing client (after_outcome (outcome_of c d))) items u.windowed)

      go : (c : ClientState) → slice_get w.core.standing.clients client ≡ Some c → (window : Span) → w.core.standing.window ≡ Some window → (o : Option OpenBatch) → c.batch ≡ o
          → IsFine (plan_done w k own items r client c o)
      go c at window is_window (Some b) e =
          let u = under_way w fine (plan client) items r due in
          let report : ClientReport = record { id = c.config.id; outcome = held b.number; too_big = [] } in
          let same : with_client w.core.standing client (after_outcome (held b.number)) ≡ w.core.standing =
          ap (λ cs. record w.core.standing { clients = cs }) (ap (λ o. option_map_or (λ x. set w.core.standing.clients client x) o w.core.standing.clients) at ∙ set_same w.core.standing.clients client c at) in
          no_event w fine (plan client) items r due (with_client_report r c (held b.number) [])
          (subst (λ s. Finishes u.start u.turn s (with_client_report r c (held b.number) []) items) same
          (u.finishes c report at (record {
            id = refl;
            window = window;
            is_window = is_window;
            outcome = ap (option_map (λ (x : OpenBatch). x.number)) e;
            too_big = sym (ap (λ o. if is_some o then [] else too_big_messages (task_in w.core.standing window client c)) e);
          })))
          u.covers.1 u.items.1 (entered w.core.standing items u.windowed)
      go c at window is_window None e = by_draft c at window is_window e (draft_taken w k own client) refl

  item_fine : (w : World) → IsFine w → (k : ℕ) (own : Option RightDraft) (r : TurnReport) (items : List Item) (item : Item) → Due w item items r → IsFine (item_done w k own items r item)
  item_fine w fine k own r items (enter_host x) due = enter_host_fine w fine k own r items x due
  item_fine w fine k own r items (enter window) due = enter_fine w fine k own r items window due
  item_fine w fine k own r items (ask q) due = ask_fine w fine k own r items q due
  item_fine w fine k own r items (observe number e) due = observe_fine w fine k own r items number e due
  item_fine w fine k own r items (scan path part) due = scan_fine w fine k own r items path part due
  item_fine w fine k own r items (plan client) due = plan_fine w fine k own r items client due
  item_fine w fine k own r items (settle x) due = settle_fine w fine k own r items x due
  item_fine w fine k own r items (take_open client) due = take_fine w fine k own r items client due

  -- ---- a turn begins, and is over

  begun_fine : OrderGivesReport → (w : World) → IsFine w → w.current ≡ None → (ts : List Turn) → w.turns ≡ ts → IsFine (begun script.config w ts)
  begun_fine order w fine resting [] e = fine
  begun_fine order w fine resting (t ∷ ts) e =
      let led : Led (opening_standing script.config) script.turns w.done w.core.standing (t ∷ ts) = subst (Led (opening_standing script.config) script.turns w.done w.core.standing) e (subst (IsPlace w.core w.turns w.done) resting fine.place) in
      let left : AllByRecursion (IsTurn script.config) (t ∷ ts) = subst (AllByRecursion (IsTurn script.config)) e fine.left in
      let room : w.core.front + (0 + appends_in script.config (t ∷ ts)) ≤ max_events = subst (λ (x : Option Progress × List Turn). w.core.front + (due_count x.0 + appends_in script.config x.1) ≤ max_events) (λ i. (resting i, e i)) fine.room in
      record {
        is_core = fine.is_core;
        found = fine.found;
        left = left.1;
        room = let more_turns = sum_by-cons (λ (x : Turn). length (agenda script.config x)) t ts in omega arith;
        place = record {
          start = w.core.standing;
          turn = t;
          led = led;
          finishes = order script.config t w.core.standing fine.is_core.sizes.clients;
          covers = agenda_covers script.config t (IsScannedIn w.core);
          items = agenda_items script.config t left.0;
          windowed = first_entered w.core.standing t.windows t.window _;
        };
      }

  due_fine : (w : World) → IsFine w → (k : ℕ) (own : Option RightDraft) (r : TurnReport) (due : List Item) → w.current ≡ Some (record { due = due; report = r }) → IsFine (due_done script.config w k own r due)
  unfolding Due
  due_fine w fine k own r [] e =
      let u : IsUnderWay w.core w.turns w.done (record { due = []; report = r }) = subst (IsPlace w.core w.turns w.done) e fine.place in
      record {
        is_core = fine.is_core;
        found = fine.found;
        left = fine.left;
        room = subst (λ o. w.core.front + (due_count o + appends_in script.config w.turns) ≤ max_events) e fine.room;
        place = led_more (opening_standing script.config) script.turns w.done u.start w.core.standing u.turn w.turns r u.led u.finishes.0 u.finishes.1;
      }
  due_fine w fine k own r (item ∷ items) e = item_fine w fine k own r items item e

  acted_fine : OrderGivesReport → (w : World) → IsFine w → (k : ℕ) (own : Option RightDraft) (o : Option Progress) → w.current ≡ o → IsFine (acted script.config w k own o)
  acted_fine order w fine k own None e = begun_fine order w fine e w.turns refl
  acted_fine order w fine k own (Some p) e = due_fine w fine k own p.report p.due e

  -- ---- every step

  found_fine : (w : World) → IsFine w → (f : ℕ → ℕ) (found_scans : List (ℕ × Scan)) (ds : List Draft) → AllByRecursion IsDraft ds → IsFine (record w { known = f; scans = found_scans; drafts = ds })
  found_fine w fine f found_scans ds all = record { is_core = fine.is_core; found = all; left = fine.left; room = fine.room; place = fine.place }

  either_fine : (b : Bool) (w v : World) → IsFine w → IsFine v → IsFine (if b then w else v)
  either_fine true w v p q = p
  either_fine false w v p q = q

  step_fine : OrderGivesReport → (w : World) (x : Step) → IsFine w → IsFine (step script.config w x)
  step_fine order w (acts k own) fine = acted_fine order w fine k own w.current refl
  step_fine order w publishes fine = record { is_core = fine.is_core; found = fine.found; left = fine.left; room = fine.room; place = fine.place }
  step_fine order w (tells worker) fine = record { is_core = fine.is_core; found = fine.found; left = fine.left; room = fine.room; place = fine.place }
  step_fine order w (learns worker) fine = record { is_core = fine.is_core; found = fine.found; left = fine.left; room = fine.room; place = fine.place }
  step_fine order w (scans worker events path part) fine = either_fine _ _ w (found_fine w fine _ _ w.drafts fine.found) fine
  step_fine order w (plans worker events client own) fine = either_fine _ _ w (found_fine w fine _ w.scans (own.draft ∷ w.drafts) (own.right, fine.found)) fine

  all_fine : OrderGivesReport → (w : World) (xs : List Step) → IsFine w → IsFine (after_steps script.config w xs)
  all_fine order w [] fine = fine
  all_fine order w (x ∷ xs) fine = all_fine order (step script.config w x) xs (step_fine order w x fine)

  first_fine : IsScript script → FitsLog script → IsFine (first_world script)
  first_fine is room = record {
    is_core = record { core = refl; events = tt; sizes = sizes_opening script.config };
    found = tt;
    left = recursion_from_All (IsTurn script.config) script.turns is.turns;
    room = room_first;
    place = (refl, refl);
  }
    where
      room_first : 0 + (0 + appends_in script.config script.turns) ≤ max_events
      room_first = omega (arith, room)

  pub all_schedules : OrderGivesReport → IsScript script → FitsLog script → (xs : List Step)
      → AreTurnReports (opening_standing script.config) (take (length (world_after script xs).done) script.turns) (world_after script xs).done
  all_schedules order is room xs =
      let w = world_after script xs in
      let fine = all_fine order (first_world script) xs (first_fine is room) in
      last w.current fine.place
    where
      last : (o : Option Progress) → IsPlace (world_after script xs).core (world_after script xs).turns (world_after script xs).done o
          → AreTurnReports (opening_standing script.config) (take (length (world_after script xs).done) script.turns) (world_after script xs).done
      last None led = led_reports (opening_standing script.config) script.turns _ _ _ led
      last (Some p) u = led_reports (opening_standing script.config) script.turns _ u.start _ u.led

  pub own_serves : OrderGivesReport → IsScript script → FitsLog script → (xs : List Step) (client : ℕ) (items : List Item) (r : TurnReport)
      → (world_after script xs).current ≡ Some (record { due = plan client ∷ items; report = r }) → (c : ClientState) → slice_get (world_after script xs).core.standing.clients client ≡ Some c
      → c.batch ≡ None → (d : Draft) → client_view (world_after script xs).core client ≡ Some d.job → refusal_of (world_after script xs).core (Planned d) ≡ None
  own_serves order is room xs client items r due c at not_held d view =
      let w = world_after script xs in
      let fine = all_fine order (first_world script) xs (first_fine is room) in
      let u = under_way w fine (plan client) items r due in
      let window = some_from w.core.standing.window u.windowed in
      let job : d.job ≡ job_of w.core client window.0 c =
      same_Some d.job (job_of w.core client window.0 c)
      (sym view ∙ ap (option_and_then (λ x. option_map (job_of w.core client x) (slice_get w.core.standing.clients client))) window.1 ∙ ap (option_map (job_of w.core client window.0)) at) in
      (draft_ok w.core client window.0 c d (client_known script.config w.core client fine.is_core.sizes u.items.0) (has_room w fine (plan client) items r due) window.1 at not_held
      (λ p part lt. u.covers.0 p part (subst (λ n. p < n) fine.is_core.sizes.paths lt)) job).1

pub schedules : OrderGivesReport → Schedules
schedules order script steps is room = all_schedules script order is room steps

pub own_drafts_serve : OrderGivesReport → OwnDraftsServe
own_drafts_serve order script steps is room = own_serves script order is room steps
