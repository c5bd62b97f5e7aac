-- A turn's report is the same over what is left.
use Rattle.std.proofs.Common.{◌≡◌, ℕ, ◌+◌, ◌<◌, ◌≤◌, ◌⊎◌, Bool, true, false, cond, List, [], ◌∷◌, ◌++◌, length, map, suc, Option, Some, None, is_some, inl, inr, refl, sym, ap, ◌∙◌, subst, arith, if◌then◌else◌}
use Rattle.std.specs.List.{All, AllByRecursion, AllZip, enumerate_from, fold, list_any, range_with_len, slice_get}
use Rattle.std.specs.Option.{IfSome, option_map, option_map_or, option_and_then, option_to_list}
use Rattle.std.proofs.lemmas.List.Elements.{All-from_recursion, All-weaker, recursion_from_All}
use Rattle.std.proofs.lemmas.Option.{none-some, same_Some}
use Rattle.rb_base.specs.Window.{Span}
use Rattle.rb_book.specs.Laws.{StaysABook}
use Rattle.rb_script_types.specs.Config.{Config}
use Rattle.rb_script_types.specs.declared.config.PathConfig.{PathConfig}
use Rattle.rb_script_types.specs.declared.refusal.Refusal.{Refusal}
use Rattle.rb_script_types.specs.declared.refusal.Refusal.TheVariants.{UnknownSet, WrongVerdictCount, BadVote, Conflict, TimeOrder, Full, HashClash, UnknownObject, Stale, Busy, Repeat, OutOfOrder, WindowBack, NotOwed, LogFull}
use Rattle.rb_script_types.specs.declared.script.Asked.{Asked as Question}
use Rattle.rb_script_types.specs.declared.script.HostWindow.{HostWindow as WindowOf}
use Rattle.rb_script_types.specs.declared.script.Settlement.{Settlement}
use Rattle.rb_step.specs.LightClient.{Update}
use Rattle.rb_core_model.specs.Event.{Event, IsEvent, Window, Asked}
use Rattle.rb_base.specs.declared.gate.Part.TheVariants.{Packets, Channel}
use Rattle.rb_step.specs.View.{IsView}
use Rattle.rb_plan_client.specs.Task.{view_of}
use Rattle.rb_core_model.specs.Config.{part_for}
use Rattle.rb_core_model.specs.Refusal.{refused_if}
use Rattle.rb_core_model.specs.Standing.{OpenBatch, ClientState, PathState, Standing, book_at, goes_back, goes_back_on, with_batch, task_in, judged, changed, standing_after, batch_open}
use Rattle.rb_core_model.specs.Steps.{IsFromOutside}
use Rattle.rb_super_turn.specs.Report.{PricedUpdate, SendingReport, nothing, too_big, batched, PlanReport, PlannedReport, Outcome, held, idle, planned, ClientReport, TurnReport}
use Rattle.rb_super_turn.specs.Script.{Turn, IsSeen, IsTurn}
use Rattle.rb_super_turn.specs.Turns.{after_window, window_event, after_host_window, hosts_back, after_question, refused_as, refusals, before_events, before_plans, IsClientReport, update_of, batch_sent, opened, after_outcome, after_reports, after_plans, settlement_event, after_settlement, id_of, settlement_report, settlement_reports, taking, after_taking, taking_reports, takers, after_all, reports_of_all, IsTurnReport, after_turn}
use Rattle.rb_super.specs.Remains.{IsClientLeft, IsPathLeft, IsLeftOf, AreRouted}
use Rattle.rb_super.specs.Spoken.{IsSpared}
use Rattle.rb_super.specs.Free.{if_not_full, freely, after_freely, refusals_freely, plans_freely, sent_freely, IsFreeReport, turn_freely}
use Rattle.rb_super.specs.Forgetting.{AreSpared}
use Rattle.rb_super.proofs.Changed.{changed_left, settled_left}
use Rattle.rb_super.proofs.Fit.{seen_outside}
use Rattle.rb_super.proofs.Plannable.{IsPlannable}
use Rattle.rb_super.proofs.Judged.{hosts_same, judged_same, settled_same}
use Rattle.rb_super.proofs.Reports.{report_left, updates_high}
use Rattle.rb_super.proofs.Zips.{IsPair, pair_at}

-- ---- a list of clients

abbrev Places : List ClientState → ℕ → List ClientState → Type 0
Places all n cs = (k : ℕ) (c : ClientState) → slice_get cs k ≡ Some c → slice_get all (n + k) ≡ Some c

next_places : (all : List ClientState) (n : ℕ) (c : ClientState) (cs : List ClientState) → Places all n (c ∷ cs) → Places all (n + 1) cs
next_places all n c cs at k x e = (let same : n + suc k ≡ n + 1 + k = omega arith in subst (λ j. slice_get all j ≡ Some x) same (at (suc k) x e))

first_place : (all : List ClientState) (n : ℕ) (c : ClientState) (cs : List ClientState) → Places all n (c ∷ cs) → slice_get all n ≡ Some c
first_place all n c cs at = (let same : n + 0 ≡ n = omega arith in subst (λ j. slice_get all j ≡ Some c) same (at 0 c refl))

all_places : (all : List ClientState) → Places all 0 all
all_places all k c e = (let same : k ≡ 0 + k = omega arith in subst (λ j. slice_get all j ≡ Some c) same e)

module _ (m : ℕ → ℕ) (s t : Standing) (left : IsLeftOf m s t) (can : IsPlannable t) where
  routed : AreRouted s
  routed client path c p at_c at_p = go (pair_at (IsClientLeft m left.window s.books) s.clients t.clients client left.clients)
    where
      -- what is left of the path is configured as it is
      there : (d : ClientState) → slice_get t.clients client ≡ Some d
          → (part_for p.config client ≡ Some Packets → d.config.tracks ≡ p.config.source) × (part_for p.config client ≡ Some Channel → d.config.tracks ≡ p.config.destination)
      there d at_d = by (pair_at IsPathLeft s.paths t.paths path left.paths)
        where
          by : ((slice_get s.paths path ≡ None) × (slice_get t.paths path ≡ None)) ⊎ IsPair IsPathLeft s.paths t.paths path
              → (part_for p.config client ≡ Some Packets → d.config.tracks ≡ p.config.source) × (part_for p.config client ≡ Some Channel → d.config.tracks ≡ p.config.destination)
          by (inl none) = absurd (none-some p (sym none.0 ∙ at_p))
          by (inr x) =
              let same : x.second.config ≡ p.config = ap (λ (y : PathState). y.config) x.related.is ∙ ap (λ (y : PathState). y.config) (same_Some x.first p (sym x.in_first ∙ at_p)) in
              subst (λ (config : PathConfig). (part_for config client ≡ Some Packets → d.config.tracks ≡ config.source) × (part_for config client ≡ Some Channel → d.config.tracks ≡ config.destination)) same
              (can.routed client path d x.second at_d x.in_second)

      go : ((slice_get s.clients client ≡ None) × (slice_get t.clients client ≡ None)) ⊎ IsPair (IsClientLeft m left.window s.books) s.clients t.clients client
          → (part_for p.config client ≡ Some Packets → c.config.tracks ≡ p.config.source) × (part_for p.config client ≡ Some Channel → c.config.tracks ≡ p.config.destination)
      go (inl none) = absurd (none-some c (sym none.0 ∙ at_c))
      go (inr pair) =
          let same : c ≡ pair.first = same_Some c pair.first (sym at_c ∙ pair.in_first) in
          let tracks : c.config.tracks ≡ pair.second.config.tracks = ap (λ (x : ClientState). x.config.tracks) same ∙ sym (ap (λ (x : ClientState). x.config.tracks) pair.related.is) in
          let routes = there pair.second pair.in_second in
          (λ e. tracks ∙ routes.0 e, λ e. tracks ∙ routes.1 e)

  view_of_rest : (n : ℕ) (c d : ClientState) → IsClientLeft m left.window s.books c d → slice_get t.clients n ≡ Some d
      → IsView (view_of (record (task_in s left.window n c) { stored = d.stored; book = book_at t.books c.config.tracks }))
  view_of_rest n c d is at_d = subst (λ (x : ClientState). IsView (view_of (task_in t left.window n x))) is.is (can.views n d left.window at_d left.still)

  clients_reported : (n : ℕ) (cs ds : List ClientState) (rs : List ClientReport) → Places s.clients n cs → Places t.clients n ds → AllZip (IsClientLeft m left.window s.books) cs ds
      → AllZip (IsClientReport s) (enumerate_from n cs) rs → AllZip (IsClientReport t) (enumerate_from n ds) rs
  clients_reported n [] [] rs at there zip right = right
  clients_reported n [] (d ∷ ds) rs at there zip right = absurd zip
  clients_reported n (c ∷ cs) [] rs at there zip right = absurd zip
  clients_reported n (c ∷ cs) (d ∷ ds) [] at there zip right = right
  clients_reported n (c ∷ cs) (d ∷ ds) (r ∷ rs) at there zip right =
      let here = first_place s.clients n c cs at in
      let at_d = first_place t.clients n d ds there in (
        report_left m s t left n c d here zip.0 routed (view_of_rest n c d zip.0 at_d) r right.0,
        clients_reported (n + 1) cs ds rs (next_places s.clients n c cs at) (next_places t.clients n d ds there) zip.1 right.1,
      )

  -- ---- what plans leave of clients

  opened_high : (k : ℕ) (p : PlannedReport) → ((plan : PlanReport) → p.plan ≡ Some plan → All (λ (u : PricedUpdate). k ≤ u.update.height) plan.updates)
      → IfSome (opened p) (λ (b : OpenBatch). All (λ (u : Update). k ≤ u.height) b.updates)
  opened_high k p high = go p.plan refl
    where
      updates : (us : List PricedUpdate) → AllByRecursion (λ (u : PricedUpdate). k ≤ u.update.height) us → AllByRecursion (λ (u : Update). k ≤ u.height) (map update_of us)
      updates [] all = tt
      updates (u ∷ us) all = (all.0, updates us all.1)

      sent : (plan : PlanReport) (sending : SendingReport) → All (λ (u : PricedUpdate). k ≤ u.update.height) plan.updates → IfSome (batch_sent plan sending) (λ (b : OpenBatch). All (λ (u : Update). k ≤ u.height) b.updates)
      sent plan nothing all = tt
      sent plan (too_big index) all = tt
      sent plan (batched b) all =
          All-from_recursion (λ (u : Update). k ≤ u.height) (map update_of plan.updates) (updates plan.updates (recursion_from_All (λ (u : PricedUpdate). k ≤ u.update.height) plan.updates all))

      go : (o : Option PlanReport) → p.plan ≡ o → IfSome (option_and_then (λ (x : PlanReport). batch_sent x x.sending) o) (λ (b : OpenBatch). All (λ (u : Update). k ≤ u.height) b.updates)
      go None e = tt
      go (Some plan) e = sent plan plan.sending (high plan e)

  with_batch_left : (c d : ClientState) → IsClientLeft m left.window s.books c d → (o : Option OpenBatch) → IfSome o (λ (b : OpenBatch). All (λ (u : Update). m c.config.tracks ≤ u.height) b.updates)
      → IsClientLeft m left.window s.books (with_batch c o) (with_batch d o)
  with_batch_left c d is None high = record { is = ap (λ (k : ClientState). with_batch k None) is.is; stored = is.stored; batch = tt }
  with_batch_left c d is (Some b) high = record { is = ap (λ (k : ClientState). with_batch k (Some b)) is.is; stored = is.stored; batch = high }

  outcome_leaves : (client : ℕ) (c d : ClientState) → slice_get s.clients client ≡ Some c → slice_get t.clients client ≡ Some d → IsClientLeft m left.window s.books c d → (r : ClientReport) → IsClientReport s (client, c) r
      → (o : Outcome) → r.outcome ≡ o → IsClientLeft m left.window s.books (after_outcome o c) (after_outcome o d)
  outcome_leaves client c d at at_d is r right (held number) e = is
  outcome_leaves client c d at at_d is r right (idle next) e = with_batch_left c d is None tt
  outcome_leaves client c d at at_d is r right (planned p) e =
      with_batch_left c d is (opened p) (opened_high (m c.config.tracks) p (updates_high m s t left client c d at is routed (view_of_rest client c d is at_d) r right p e))

  clients_after : (n : ℕ) (cs ds : List ClientState) (rs : List ClientReport) → Places s.clients n cs → Places t.clients n ds → AllZip (IsClientLeft m left.window s.books) cs ds
      → AllZip (IsClientReport s) (enumerate_from n cs) rs → AllZip (IsClientLeft m left.window s.books) (after_reports cs rs) (after_reports ds rs)
  clients_after n [] [] rs at there zip right = zip
  clients_after n [] (d ∷ ds) rs at there zip right = absurd zip
  clients_after n (c ∷ cs) [] rs at there zip right = absurd zip
  clients_after n (c ∷ cs) (d ∷ ds) [] at there zip right = absurd right
  clients_after n (c ∷ cs) (d ∷ ds) (r ∷ rs) at there zip right =
      let here = first_place s.clients n c cs at in
      let at_d = first_place t.clients n d ds there in (
        outcome_leaves n c d here at_d zip.0 r right.0 r.outcome refl,
        clients_after (n + 1) cs ds rs (next_places s.clients n c cs at) (next_places t.clients n d ds there) zip.1 right.1,
      )

  pub plans_left : (rs : List ClientReport) → AllZip (IsClientReport s) (enumerate_from 0 s.clients) rs
      → IsLeftOf m (record s { clients = after_reports s.clients rs }) (record t { clients = after_reports t.clients rs })
  plans_left rs right = record {
    window = left.window;
    in_force = left.in_force;
    still = left.still;
    paths = left.paths;
    chains = left.chains;
    books = left.books;
    rises = left.rises;
    rest = left.rest;
    clients = clients_after 0 s.clients t.clients rs (all_places s.clients) (all_places t.clients) left.clients right;
    fit = left.fit;
  }

  pub plans_reported : (rs : List ClientReport) → AllZip (IsClientReport s) (enumerate_from 0 s.clients) rs → AllZip (IsClientReport t) (enumerate_from 0 t.clients) rs
  plans_reported rs right = clients_reported 0 s.clients t.clients rs (all_places s.clients) (all_places t.clients) left.clients right

-- ---- settlements

module _ (m : ℕ → ℕ) where
  settled_judged : (s t : Standing) → IsLeftOf m s t → (x : Settlement) → judged t (settlement_event x) ≡ judged s (settlement_event x)
  settled_judged s t left x = settled_same m s t left x.client x.batch x.done

  settlement_left : (s t : Standing) → IsLeftOf m s t → (x : Settlement) → IsLeftOf m (after_settlement s x) (after_settlement t x)
  settlement_left s t left x = go (is_some (judged s (settlement_event x))) refl
    where
      go : (b : Bool) → is_some (judged s (settlement_event x)) ≡ b → IsLeftOf m (after_settlement s x) (after_settlement t x)
      go b e =
          subst (λ u. IsLeftOf m (cond u s (changed s (settlement_event x))) (after_settlement t x)) (sym e)
          (subst (λ u. IsLeftOf m (cond b s (changed s (settlement_event x))) (cond u t (changed t (settlement_event x)))) (sym (ap (λ o. is_some o) (settled_judged s t left x) ∙ e)) (by b))
        where
          by : (b : Bool) → IsLeftOf m (cond b s (changed s (settlement_event x))) (cond b t (changed t (settlement_event x)))
          by true = left
          by false = settled_left m s t left x.client x.batch x.done

  by_client : {X : Type 0} (f : ClientState → X) → ((c : ClientState) (hs : List ℕ) → f (record c { stored = hs }) ≡ f c) → (s t : Standing) → IsLeftOf m s t → (client : ℕ)
      → option_map f (slice_get t.clients client) ≡ option_map f (slice_get s.clients client)
  by_client f same s t left client = go (pair_at (IsClientLeft m left.window s.books) s.clients t.clients client left.clients)
    where
      go : ((slice_get s.clients client ≡ None) × (slice_get t.clients client ≡ None)) ⊎ IsPair (IsClientLeft m left.window s.books) s.clients t.clients client
          → option_map f (slice_get t.clients client) ≡ option_map f (slice_get s.clients client)
      go (inl none) = ap (option_map f) (none.1 ∙ sym none.0)
      go (inr p) =
          ap (option_map f) p.in_second
          ∙ ap Some (ap f p.related.is ∙ same p.first p.second.stored)
          ∙ sym (ap (option_map f) p.in_first)

  map_or : {X Y : Type 0} (f : X → Y) (o : Option X) (y : Y) → option_map_or f o y ≡ option_map_or (λ (z : Y). z) (option_map f o) y
  map_or f None y = refl
  map_or f (Some x) y = refl

  and_then : {X Y : Type 0} (f : X → Option Y) (o : Option X) → option_and_then f o ≡ option_and_then (λ (z : Option Y). z) (option_map f o)
  and_then f None = refl
  and_then f (Some x) = refl

  id_same : (s t : Standing) → IsLeftOf m s t → (client : ℕ) → id_of t client ≡ id_of s client
  id_same s t left client =
      map_or (λ (c : ClientState). c.config.id) (slice_get t.clients client) []
      ∙ ap (λ o. option_map_or (λ (z : List ℕ). z) o []) (by_client (λ (c : ClientState). c.config.id) (λ c hs. refl) s t left client)
      ∙ sym (map_or (λ (c : ClientState). c.config.id) (slice_get s.clients client) [])

  open_same : (s t : Standing) → IsLeftOf m s t → (client : ℕ) → batch_open t client ≡ batch_open s client
  open_same s t left client =
      and_then (λ (c : ClientState). c.batch) (slice_get t.clients client)
      ∙ ap (option_and_then (λ (z : Option OpenBatch). z)) (by_client (λ (c : ClientState). c.batch) (λ c hs. refl) s t left client)
      ∙ sym (and_then (λ (c : ClientState). c.batch) (slice_get s.clients client))

  settlement_same : (s t : Standing) → IsLeftOf m s t → (x : Settlement) → settlement_report t x ≡ settlement_report s x
  settlement_same s t left x = λ i. record { id = id_same s t left x.client i; batch = x.batch; done = x.done; refusal = settled_judged s t left x i }

  settlements_same : (s t : Standing) → IsLeftOf m s t → (xs : List Settlement) → settlement_reports t xs ≡ settlement_reports s xs
  settlements_same s t left [] = refl
  settlements_same s t left (x ∷ xs) = λ i. settlement_same s t left x i ∷ settlements_same (after_settlement s x) (after_settlement t x) (settlement_left s t left x) xs i

  settlements_left : (s t : Standing) → IsLeftOf m s t → (xs : List Settlement) → IsLeftOf m (fold after_settlement s xs) (fold after_settlement t xs)
  settlements_left s t left [] = left
  settlements_left s t left (x ∷ xs) = settlements_left (after_settlement s x) (after_settlement t x) (settlement_left s t left x) xs

  taking_same : (s t : Standing) → IsLeftOf m s t → (client : ℕ) → taking t client ≡ taking s client
  taking_same s t left client = ap (option_map (λ (b : OpenBatch). record { client = client; batch = b.number; done = length b.transactions })) (open_same s t left client)

  taken_left : (s t : Standing) → IsLeftOf m s t → (client : ℕ) → IsLeftOf m (after_taking s client) (after_taking t client)
  taken_left s t left client = subst (λ o. IsLeftOf m (after_taking s client) (option_map_or (after_settlement t) o t)) (sym (taking_same s t left client)) (go (taking s client))
    where
      go : (o : Option Settlement) → IsLeftOf m (option_map_or (after_settlement s) o s) (option_map_or (after_settlement t) o t)
      go None = left
      go (Some x) = settlement_left s t left x

  takings_same : (s t : Standing) → IsLeftOf m s t → (clients : List ℕ) → taking_reports t clients ≡ taking_reports s clients
  takings_same s t left [] = refl
  takings_same s t left (client ∷ clients) =
      (λ i. option_to_list (one i) ++ takings_same (after_taking s client) (after_taking t client) (taken_left s t left client) clients i)
    where
      each : (o : Option Settlement) → option_map (settlement_report t) o ≡ option_map (settlement_report s) o
      each None = refl
      each (Some x) = ap Some (settlement_same s t left x)

      one : option_map (settlement_report t) (taking t client) ≡ option_map (settlement_report s) (taking s client)
      one = ap (option_map (settlement_report t)) (taking_same s t left client) ∙ each (taking s client)

  takings_left : (s t : Standing) → IsLeftOf m s t → (clients : List ℕ) → IsLeftOf m (fold after_taking s clients) (fold after_taking t clients)
  takings_left s t left [] = left
  takings_left s t left (client ∷ clients) = takings_left (after_taking s client) (after_taking t client) (taken_left s t left client) clients

  takers_same : (s t : Standing) → IsLeftOf m s t → (taken : Bool) → takers t taken ≡ takers s taken
  takers_same s t left taken =
      ap (λ n. if taken then range_with_len 0 n else []) (sym (length_zip (IsClientLeft m left.window s.books) s.clients t.clients left.clients))
    where
      length_zip : (R : ClientState → ClientState → Type 0) (cs ds : List ClientState) → AllZip R cs ds → length cs ≡ length ds
      length_zip R [] [] zip = refl
      length_zip R [] (d ∷ ds) zip = absurd zip
      length_zip R (c ∷ cs) [] zip = absurd zip
      length_zip R (c ∷ cs) (d ∷ ds) zip = ap suc (length_zip R cs ds zip.1)

  pub all_same : (s t : Standing) → IsLeftOf m s t → (xs : List Settlement) (taken : Bool) → reports_of_all xs taken t ≡ reports_of_all xs taken s
  all_same s t left xs taken =
      let settled = settlements_left s t left xs in
      (λ i. settlement_reports t xs ++ taking_reports (fold after_settlement t xs) (takers_same s t left taken i))
      ∙ (λ i. settlements_same s t left xs i ++ takings_same (fold after_settlement s xs) (fold after_settlement t xs) settled (takers s taken) i)

  pub all_left : (s t : Standing) → IsLeftOf m s t → (xs : List Settlement) (taken : Bool) → IsLeftOf m (after_all xs taken s) (after_all xs taken t)
  all_left s t left xs taken =
      let settled = settlements_left s t left xs in
      subst (λ ns. IsLeftOf m (after_all xs taken s) (fold after_taking (fold after_settlement t xs) ns)) (sym (takers_same s t left taken))
      (takings_left (fold after_settlement s xs) (fold after_settlement t xs) settled (takers s taken))

-- ---- events

-- a refusal that isn't for want of room is what it is
pub not_full : (o : Option Refusal) → (o ≡ Some Full → ⊥) → if_not_full o ≡ o
not_full None room = refl
not_full (Some UnknownSet) room = refl
not_full (Some WrongVerdictCount) room = refl
not_full (Some (BadVote index)) room = refl
not_full (Some (Conflict height)) room = refl
not_full (Some (TimeOrder height)) room = refl
not_full (Some Full) room = absurd (room refl)
not_full (Some HashClash) room = refl
not_full (Some UnknownObject) room = refl
not_full (Some (Stale front)) room = refl
not_full (Some Busy) room = refl
not_full (Some Repeat) room = refl
not_full (Some OutOfOrder) room = refl
not_full (Some WindowBack) room = refl
not_full (Some NotOwed) room = refl
not_full (Some LogFull) room = refl

module _ (stays : StaysABook) (m : ℕ → ℕ) where
  judged_freely : (s t : Standing) → IsLeftOf m s t → (e : Event) → IsSpared m s t e → (judged t e ≡ Some Full → ⊥) → judged t e ≡ freely s e
  judged_freely s t left e spared room = sym (not_full (judged t e) room) ∙ judged_same m s t left e spared

  event_left : (s t : Standing) → IsLeftOf m s t → (e : Event) → IsFromOutside e → IsEvent e → IsSpared m s t e → judged t e ≡ freely s e → IsLeftOf m (after_freely s e) (standing_after t e)
  event_left s t left e from right spared same = go (freely s e) refl
    where
      go : (o : Option Refusal) → freely s e ≡ o → IsLeftOf m (after_freely s e) (standing_after t e)
      go o is =
          subst (λ x. IsLeftOf m (if is_some x then s else changed s e) (standing_after t e)) (sym is)
          (subst (λ y. IsLeftOf m (if is_some o then s else changed s e) (if is_some y then t else changed t e)) (sym (same ∙ is)) (by o is))
        where
          by : (x : Option Refusal) → freely s e ≡ x → IsLeftOf m (if is_some x then s else changed s e) (if is_some x then t else changed t e)
          by None is = changed_left m s t left stays e from right spared is (same ∙ is)
          by (Some r) is = left

  -- an event that is judged the same leaves what is left
  told_left : (s t : Standing) → IsLeftOf m s t → (e : Event) → IsFromOutside e → IsEvent e → IsSpared m s t e → judged t e ≡ judged s e → IsLeftOf m (standing_after s e) (standing_after t e)
  told_left s t left e from right spared same = go (judged s e) refl
    where
      go : (o : Option Refusal) → judged s e ≡ o → IsLeftOf m (standing_after s e) (standing_after t e)
      go o is =
          subst (λ x. IsLeftOf m (if is_some x then s else changed s e) (standing_after t e)) (sym is)
          (subst (λ y. IsLeftOf m (if is_some o then s else changed s e) (if is_some y then t else changed t e)) (sym (same ∙ is)) (by o is))
        where
          by : (x : Option Refusal) → judged s e ≡ x → IsLeftOf m (if is_some x then s else changed s e) (if is_some x then t else changed t e)
          by None is = changed_left m s t left stays e from right spared (ap if_not_full is) (same ∙ is)
          by (Some r) is = left

  window_left : (s t : Standing) → IsLeftOf m s t → (window : Span) → window.from ≤ window.until → IsLeftOf m (after_window s window) (after_window t window)
  window_left s t left window right =
      told_left s t left (Window window) tt right tt (ap (λ (o : Option Span). refused_if (goes_back o window) WindowBack None) (left.still ∙ sym left.in_force))

  -- ---- windows of hosts

  host_judged : (s t : Standing) → IsLeftOf m s t → (w : WindowOf) → judged t (window_event w) ≡ judged s (window_event w)
  host_judged s t left w =
      ap (λ (o : Option Span). refused_if (list_any (goes_back_on o w.host w.window) t.clients) WindowBack None) (left.still ∙ sym left.in_force)
      ∙ ap (λ b. refused_if b WindowBack None) (hosts_same m s t left s.window w.host w.window s.clients t.clients left.clients)

  host_left : (s t : Standing) → IsLeftOf m s t → (w : WindowOf) → w.window.from ≤ w.window.until → IsLeftOf m (after_host_window s w) (after_host_window t w)
  host_left s t left w right = told_left s t left (window_event w) tt right tt (host_judged s t left w)

  hosts_left : (s t : Standing) → IsLeftOf m s t → (ws : List WindowOf) → AllByRecursion (λ (w : WindowOf). w.window.from ≤ w.window.until) ws → IsLeftOf m (fold after_host_window s ws) (fold after_host_window t ws)
  hosts_left s t left [] all = left
  hosts_left s t left (w ∷ ws) all = hosts_left (after_host_window s w) (after_host_window t w) (host_left s t left w all.0) ws all.1

  hosts_back_same : (s t : Standing) → IsLeftOf m s t → (ws : List WindowOf) → AllByRecursion (λ (w : WindowOf). w.window.from ≤ w.window.until) ws → hosts_back t ws ≡ hosts_back s ws
  hosts_back_same s t left [] all = refl
  hosts_back_same s t left (w ∷ ws) all =
      λ i. (if is_some (host_judged s t left w i) then w.host ∷ [] else []) ++ hosts_back_same (after_host_window s w) (after_host_window t w) (host_left s t left w all.0) ws all.1 i

  goals_left : (s t : Standing) → IsLeftOf m s t → (goals : List Question) → IsLeftOf m (fold after_question s goals) (fold after_question t goals)
  goals_left s t left [] = left
  goals_left s t left (g ∷ goals) = goals_left (after_question s g) (after_question t g) (changed_left m s t left stays (Asked g.client g.goal) tt tt tt refl refl) goals

  refusals_same : (number : ℕ) (s t : Standing) → IsLeftOf m s t → (es : List Event) → AllByRecursion IsFromOutside es → AllByRecursion IsEvent es → AreSpared m s t es → refusals number t es ≡ refusals_freely number s es
  refusals_same number s t left [] from right spared = refl
  refusals_same number s t left (e ∷ es) from right (spared, room, more) =
      let same = judged_freely s t left e spared room in
      let next = event_left s t left e from.0 right.0 spared same in
      λ i. refused_as number (same i) ++ refusals_same (number + 1) (after_freely s e) (standing_after t e) next es from.1 right.1 more i

  events_left : (s t : Standing) → IsLeftOf m s t → (es : List Event) → AllByRecursion IsFromOutside es → AllByRecursion IsEvent es → AreSpared m s t es → IsLeftOf m (fold after_freely s es) (fold standing_after t es)
  events_left s t left [] from right spared = left
  events_left s t left (e ∷ es) from right (spared, room, more) =
      events_left (after_freely s e) (standing_after t e) (event_left s t left e from.0 right.0 spared (judged_freely s t left e spared room)) es from.1 right.1 more

  -- ---- a turn

  all_outside : (config : Config) (es : List Event) → AllByRecursion (IsSeen config) es → AllByRecursion IsFromOutside es
  all_outside config [] all = tt
  all_outside config (e ∷ es) all = (seen_outside config e all.0, all_outside config es all.1)

  module _ (config : Config) (s t : Standing) (left : IsLeftOf m s t) (turn : Turn) (is : IsTurn config turn) (spared : AreSpared m (before_events s turn) (before_events t turn) turn.events) (can : IsPlannable (before_plans t turn)) where
    ends : AllByRecursion (λ (w : WindowOf). w.window.from ≤ w.window.until) turn.windows
    ends =
        recursion_from_All (λ (w : WindowOf). w.window.from ≤ w.window.until) turn.windows
        (All-weaker (λ (w : WindowOf). (w.host < length config.chains) × (w.window.from ≤ w.window.until)) (λ (w : WindowOf). w.window.from ≤ w.window.until) (λ w both. both.1) turn.windows is.windows)

    entered : IsLeftOf m (fold after_host_window s turn.windows) (fold after_host_window t turn.windows)
    entered = hosts_left s t left turn.windows ends

    begun : IsLeftOf m (before_events s turn) (before_events t turn)
    begun =
        goals_left (after_window (fold after_host_window s turn.windows) turn.window) (after_window (fold after_host_window t turn.windows) turn.window)
        (window_left (fold after_host_window s turn.windows) (fold after_host_window t turn.windows) entered turn.window is.window) turn.goals

    outside : AllByRecursion IsFromOutside turn.events
    outside = all_outside config turn.events (recursion_from_All (IsSeen config) turn.events is.events)

    seen : IsLeftOf m (plans_freely s turn) (before_plans t turn)
    seen = events_left (before_events s turn) (before_events t turn) begun turn.events outside (recursion_from_All IsEvent turn.events is.right) spared

    planned_for : (r : TurnReport) → IsFreeReport s turn r → IsLeftOf m (sent_freely s turn r) (after_plans t turn r)
    planned_for r right = plans_left m (plans_freely s turn) (before_plans t turn) seen can r.clients right.clients

    pub turn_reported : (r : TurnReport) → IsFreeReport s turn r → IsTurnReport t turn r
    turn_reported r right = record {
      window = right.window ∙ ap (λ (o : Option Span). goes_back o turn.window) (left.in_force ∙ sym left.still);
      hosts = right.hosts ∙ sym (hosts_back_same s t left turn.windows ends);
      refused = right.refused ∙ sym (refusals_same 0 (before_events s turn) (before_events t turn) begun turn.events outside (recursion_from_All IsEvent turn.events is.right) spared);
      clients = plans_reported m (plans_freely s turn) (before_plans t turn) seen can r.clients right.clients;
      settlements = right.settlements ∙ sym (all_same m (sent_freely s turn r) (after_plans t turn r) (planned_for r right) turn.settlements turn.taken);
    }

    pub turn_left : (r : TurnReport) → IsFreeReport s turn r → IsLeftOf m (turn_freely s turn r) (after_turn t turn r)
    turn_left r right = all_left m (sent_freely s turn r) (after_plans t turn r) (planned_for r right) turn.settlements turn.taken
