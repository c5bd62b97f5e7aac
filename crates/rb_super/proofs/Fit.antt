-- From turn to turn how things stand is sound, and clients and paths are configured as they were.
use Rattle.std.proofs.Common.{◌≡◌, ℕ, suc, ◌+◌, ◌<◌, ◌≤◌, Bool, true, false, List, [], ◌∷◌, Option, Some, None, is_some, length, refl, sym, ap, ◌∙◌, subst, arith, if◌then◌else◌}
use Rattle.std.specs.List.{AllByRecursion, AllZip, enumerate_from, fold, range_with_len}
use Rattle.std.specs.Option.{option_map_or}
use Rattle.std.proofs.lemmas.List.{length-replicate}
use Rattle.std.proofs.lemmas.List.Elements.{recursion_from_All}
use Rattle.rb_book.specs.Laws.{FindsWhatWasAdded, StaysABook}
use Rattle.rb_script_types.specs.Config.{Config}
use Rattle.rb_script_types.specs.declared.refusal.Refusal.{Refusal}
use Rattle.rb_script_types.specs.declared.script.Asked.{Asked as Question}
use Rattle.rb_script_types.specs.declared.script.HostWindow.{HostWindow as WindowOf}
use Rattle.rb_script_types.specs.declared.script.Settlement.{Settlement}
use Rattle.rb_step.specs.Laws.{ViewsAreOrderly}
use Rattle.rb_core_model.specs.Config.{IsSetUp}
use Rattle.rb_core_model.specs.Event.{Event, IsEvent, Window, HostWindow, Asked, SetSeen, HeaderSeen, StoredSeen, Sent, Received, AckWritten, Cleared, Closed, Scanned, Planned, Settled}
use Rattle.rb_core_model.specs.Machine.{State, no_scans, opening, is_known, refusal_of}
use Rattle.rb_core_model.specs.Standing.{ClientState, Standing, opening_standing, task_in, with_batch, judged, changed, standing_after}
use Rattle.rb_core_model.specs.Steps.{IsFromOutside, JudgedByStanding}
use Rattle.rb_core_model.proofs.Lengths.{lengths_changed}
use Rattle.rb_core_model.proofs.Sound.{IsSoundClient, IsSound, answer_sound, step_sound}
use Rattle.rb_super_turn.specs.Report.{Outcome, held, idle, planned, ClientReport, TurnReport}
use Rattle.rb_super_turn.specs.Script.{Turn, IsSeen, IsTurn}
use Rattle.rb_super_turn.specs.Turns.{after_window, window_event, after_host_window, after_question, opened, IsOutcome, after_outcome, IsClientReport, before_events, before_plans, after_reports, after_plans, settlement_event, after_settlement, taking, after_taking, takers, IsTurnReport, after_turn}
use Rattle.rb_super_turn.proofs.Reported.{opened_back}
use Rattle.rb_super_turn.proofs.Takings.{taker, row_below}
use Rattle.rb_super_turn.proofs.Sizes.{HasSizes, sizes_opening, seen_known, chain_known, client_known}

-- ---- what is kept

-- how things stand is sound, with as many chains, clients and paths as are configured
pub record IsFit (config : Config) (s : Standing) : Type 0 where
  pub sound : IsSound s
  pub books : length s.books ≡ length config.chains
  pub clients : length s.clients ≡ length config.clients
  pub paths : length s.paths ≡ length config.paths

-- a relayer in which things stand so, before its first event
abbrev at_rest : Config → Standing → State
at_rest config s = record (opening config) { standing = s }

sizes : (config : Config) (s : Standing) → IsFit config s → HasSizes config (at_rest config s)
sizes config s fit = record { books = fit.books; clients = fit.clients; paths = fit.paths; scans = length-replicate (length config.paths) no_scans }

pub opening_fit : (config : Config) → IsSetUp config → ((config : Config) → IsSetUp config → IsSound (opening config).standing) → IsFit config (opening_standing config)
opening_fit config is sound =
    let s = sizes_opening config in
    record { sound = sound config is; books = s.books; clients = s.clients; paths = s.paths }

pub seen_outside : (config : Config) (e : Event) → IsSeen config e → IsFromOutside e
seen_outside config (Window window) is = absurd is
seen_outside config (HostWindow host window) is = absurd is
seen_outside config (Asked client goal) is = absurd is
seen_outside config (SetSeen chain x) is = tt
seen_outside config (HeaderSeen chain header) is = tt
seen_outside config (StoredSeen client height r) is = tt
seen_outside config (Sent path sequence block timeout_height timeout_time) is = tt
seen_outside config (Received path sequence block) is = tt
seen_outside config (AckWritten path sequence block) is = tt
seen_outside config (Cleared path sequence) is = tt
seen_outside config (Closed path) is = tt
seen_outside config (Scanned path scan) is = absurd is
seen_outside config (Planned d) is = absurd is
seen_outside config (Settled client number done) is = absurd is

length-reports : (cs : List ClientState) (rs : List ClientReport) → length (after_reports cs rs) ≡ length cs
length-reports [] rs = refl
length-reports (c ∷ cs) [] = refl
length-reports (c ∷ cs) (r ∷ rs) = ap suc (length-reports cs rs)

-- ---- a turn

module _ (finds : FindsWhatWasAdded) (stays : StaysABook) (orderly : ViewsAreOrderly) (by_standing : JudgedByStanding) where
  event_fit : (config : Config) (s : Standing) (e : Event) → IsEvent e → IsFromOutside e → is_known (at_rest config s) e ≡ true → IsFit config s → IsFit config (standing_after s e)
  event_fit config s e is outside known fit = go (judged s e) refl
    where
      go : (o : Option Refusal) → judged s e ≡ o → IsFit config (if is_some o then s else changed s e)
      go (Some r) refused = fit
      go None ok =
          let same = lengths_changed s e in
          let accepted : refusal_of (at_rest config s) e ≡ None = (by_standing (at_rest config s) e outside known (omega arith)).0 ∙ ok in
          record {
            sound = step_sound finds stays orderly (at_rest config s) e fit.sound is accepted;
            books = same.books ∙ fit.books;
            clients = same.clients ∙ fit.clients;
            paths = same.paths ∙ fit.paths;
          }

  hosts_fit : (config : Config) (ws : List WindowOf) → AllByRecursion (λ (w : WindowOf). (w.host < length config.chains) × (w.window.from ≤ w.window.until)) ws → (s : Standing) → IsFit config s
      → IsFit config (fold after_host_window s ws)
  hosts_fit config [] all s fit = fit
  hosts_fit config (w ∷ ws) all s fit =
      hosts_fit config ws all.1 (after_host_window s w)
      (event_fit config s (window_event w) all.0.1 tt (chain_known config (at_rest config s) w.host (sizes config s fit) all.0.0) fit)

  goals_fit : (config : Config) (qs : List Question) → AllByRecursion (λ (q : Question). q.client < length config.clients) qs → (s : Standing) → IsFit config s → IsFit config (fold after_question s qs)
  goals_fit config [] all s fit = fit
  goals_fit config (q ∷ qs) all s fit =
      goals_fit config qs all.1 (after_question s q)
      (event_fit config s (Asked q.client q.goal) tt tt (client_known config (at_rest config s) q.client (sizes config s fit) all.0) fit)

  events_fit : (config : Config) (es : List Event) → AllByRecursion (IsSeen config) es → AllByRecursion IsEvent es → (s : Standing) → IsFit config s → IsFit config (fold standing_after s es)
  events_fit config [] seen are s fit = fit
  events_fit config (e ∷ es) seen are s fit =
      events_fit config es seen.1 are.1 (standing_after s e)
      (event_fit config s e are.0 (seen_outside config e seen.0) (seen_known config (at_rest config s) e (sizes config s fit) seen.0).0 fit)

  pub before_fit : (config : Config) (s : Standing) (t : Turn) → IsTurn config t → IsFit config s → IsFit config (before_plans s t)
  before_fit config s t is fit =
      let hosts = fold after_host_window s t.windows in
      let there = hosts_fit config t.windows (recursion_from_All (λ (w : WindowOf). (w.host < length config.chains) × (w.window.from ≤ w.window.until)) t.windows is.windows) s fit in
      let entered = event_fit config hosts (Window t.window) is.window tt refl there in
      let asked = goals_fit config t.goals (recursion_from_All (λ (q : Question). q.client < length config.clients) t.goals is.goals) (after_window hosts t.window) entered in
      events_fit config t.events (recursion_from_All (IsSeen config) t.events is.events) (recursion_from_All IsEvent t.events is.right) (before_events s t) asked

  row_sound : (s : Standing) (place : ℕ) (c : ClientState) (r : ClientReport) → IsSound s → IsSoundClient s.books c → IsClientReport s (place, c) r → IsSoundClient s.books (after_outcome r.outcome c)
  row_sound s place c r sound sound_c is = go r.outcome is.outcome
    where
      go : (o : Outcome) → IsOutcome (task_in s is.window place c) c o → IsSoundClient s.books (after_outcome o c)
      go (held number) right = sound_c
      go (idle next) right = answer_sound finds stays orderly s is.window place c None sound is.is_window sound_c right.1
      go (planned p) right =
          subst (λ o. IsSoundClient s.books (with_batch c o))
          (sym (ap opened right.1.is ∙ opened_back (task_in s is.window place c) (c.batches + 1) p.next right.1.answer))
          (answer_sound finds stays orderly s is.window place c (Some right.1.answer) sound is.is_window sound_c right.1.right)

  rows_sound : (s : Standing) → IsSound s → (place : ℕ) (cs : List ClientState) (rs : List ClientReport) → AllByRecursion (IsSoundClient s.books) cs → AllZip (IsClientReport s) (enumerate_from place cs) rs
      → AllByRecursion (IsSoundClient s.books) (after_reports cs rs)
  rows_sound s sound place [] rs all are = tt
  rows_sound s sound place (c ∷ cs) [] all are = absurd are
  rows_sound s sound place (c ∷ cs) (r ∷ rs) all are = (row_sound s place c r sound all.0 are.0, rows_sound s sound (place + 1) cs rs all.1 are.1)

  settled_fit : (config : Config) (xs : List Settlement) → AllByRecursion (λ (x : Settlement). x.client < length config.clients) xs → (s : Standing) → IsFit config s → IsFit config (fold after_settlement s xs)
  settled_fit config [] all s fit = fit
  settled_fit config (x ∷ xs) all s fit =
      settled_fit config xs all.1 (after_settlement s x)
      (event_fit config s (settlement_event x) tt tt (client_known config (at_rest config s) x.client (sizes config s fit) all.0) fit)

  one_taken : (config : Config) (client : ℕ) → client < length config.clients → (s : Standing) → IsFit config s → IsFit config (after_taking s client)
  one_taken config client lt s fit = go (taking s client) refl
    where
      go : (o : Option Settlement) → taking s client ≡ o → IsFit config (option_map_or (after_settlement s) o s)
      go None e = fit
      go (Some x) e =
          event_fit config s (settlement_event x) tt tt
          (client_known config (at_rest config s) x.client (sizes config s fit) (subst (λ n. n < length config.clients) (sym (taker s client x e)) lt)) fit

  taken_fit : (config : Config) (clients : List ℕ) → AllByRecursion (λ n. n < length config.clients) clients → (s : Standing) → IsFit config s → IsFit config (fold after_taking s clients)
  taken_fit config [] all s fit = fit
  taken_fit config (n ∷ ns) all s fit = taken_fit config ns all.1 (after_taking s n) (one_taken config n all.0 s fit)

  takers_fit : (config : Config) (taken : Bool) (before s : Standing) → IsFit config before → IsFit config s → IsFit config (fold after_taking s (takers before taken))
  takers_fit config true before s ready fit =
      let clients = ready.clients in
      taken_fit config (range_with_len 0 (length before.clients)) (row_below (length before.clients) 0 (length config.clients) (omega arith)) s fit
  takers_fit config false before s ready fit = fit

  pub turn_fit : (config : Config) (s : Standing) (t : Turn) (r : TurnReport) → IsTurn config t → IsTurnReport s t r → IsFit config s → IsFit config (after_turn s t r)
  turn_fit config s t r is report fit =
      let ready = before_fit config s t is fit in
      let there = before_plans s t in
      let sent : IsFit config (after_plans s t r) = record {
        sound = record {
          window = ready.sound.window;
          books = ready.sound.books;
          clients = rows_sound there ready.sound 0 there.clients r.clients ready.sound.clients report.clients;
          paths = ready.sound.paths;
        };
        books = ready.books;
        clients = length-reports there.clients r.clients ∙ ready.clients;
        paths = ready.paths;
      } in
      takers_fit config t.taken (after_plans s t r) (fold after_settlement (after_plans s t r) t.settlements) sent
      (settled_fit config t.settlements (recursion_from_All (λ (x : Settlement). x.client < length config.clients) t.settlements is.settlements) (after_plans s t r) sent)
