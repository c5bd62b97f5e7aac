-- Whatever happens, a client keeps its configuration, and the heights that it has stored, and its window never ends earlier.
use Rattle.std.proofs.Common.{◌≡◌, ℕ, zero, suc, ◌≤◌, Bool, true, false, cond, eqb, ltb, ◌&&◌, ◌||◌, List, [], ◌∷◌, map, Option, Some, None, IfSome, IsSomeAnd, is_some, refl, sym, ap, ◌∙◌, subst, inl, inr, arith, if◌then◌else◌}
use Rattle.std.specs.List.{count_by, fold, insert, list_any, slice_get}
use Rattle.std.specs.Option.{option_map_or, option_and_then, option_or}
use Rattle.std.proofs.lemmas.Bool.{cases_eq, true≢false, ltb-false}
use Rattle.std.proofs.lemmas.Option.{none-some, same_Some}
use Rattle.rb_base.specs.Window.{Span}
use Rattle.rb_step.specs.LightClient.{Update}
use Rattle.rb_script_types.specs.declared.refusal.Refusal.{Refusal}
use Rattle.rb_script_types.specs.declared.refusal.Refusal.TheVariants.{WindowBack}
use Rattle.rb_script_types.specs.declared.script.Settlement.{Settlement}
use Rattle.rb_core_model.specs.Event.{Event, Window, HostWindow, Asked, SetSeen, HeaderSeen, StoredSeen, Sent, Received, AckWritten, Cleared, Closed, Scanned, Planned, Settled}
use Rattle.rb_core_model.specs.Standing.{OpenBatch, ClientState, Standing, goes_back, goes_back_on, in_host_window, with_height, with_batch, batch_opened, after_answer, open_batch, settled_updates, after_batch, after_settled, changed_at, judged, changed, standing_after}
use Rattle.rb_core_model.proofs.Options.{passes, get_changed_same, get_changed_other}
use Rattle.rb_super_turn.specs.Report.{Outcome, held, idle, planned, ClientReport, TurnReport}
use Rattle.rb_super_turn.specs.Script.{Turn}
use Rattle.rb_super_turn.specs.Turns.{after_window, window_event, after_host_window, after_question, before_events, before_plans, opened, after_outcome, after_reports, after_plans, settlement_event, after_settlement, taking, after_taking, takers, after_turn}
use Rattle.rb_super.proofs.Members.{In, from_get, test_from}

-- ---- one client, where no window comes

record SameClient (c d : ClientState) : Type 0 where
  config : d.config ≡ c.config
  stored : (h : ℕ) → In c.stored h → In d.stored h
  window : d.window ≡ c.window

client_self : (c : ClientState) → SameClient c c
client_self c = record { config = refl; stored = λ h there. there; window = refl }

in_insert : (xs : List ℕ) (n x y : ℕ) → In xs y → In (insert xs n x) y
in_insert [] n x y h = absurd h
in_insert (z ∷ xs) zero x y h = inr h
in_insert (z ∷ xs) (suc n) x y (inl e) = inl e
in_insert (z ∷ xs) (suc n) x y (inr h) = inr (in_insert xs n x y h)

in_with_height : (height : ℕ) (heights : List ℕ) (h : ℕ) → In heights h → In (with_height height heights) h
in_with_height height heights h there = go (list_any (λ g. eqb g height) heights)
  where
    go : (b : Bool) → In (cond b heights (insert heights (count_by (λ g. ltb g height) heights) height)) h
    go true = there
    go false = in_insert heights (count_by (λ g. ltb g height) heights) height h there

in_settled : (us : List Update) (heights : List ℕ) (h : ℕ) → In heights h → In (fold (λ heights (u : Update). with_height u.height heights) heights us) h
in_settled [] heights h there = there
in_settled (u ∷ us) heights h there = in_settled us (with_height u.height heights) h (in_with_height u.height heights h there)

by_batch : (c : ClientState) (o : Option OpenBatch) → SameClient c (with_batch c o)
by_batch c None = record { config = refl; stored = λ h there. there; window = refl }
by_batch c (Some b) = record { config = refl; stored = λ h there. there; window = refl }

by_settled : (b : OpenBatch) (done : ℕ) (c : ClientState) → SameClient c (after_batch b done c)
by_settled b done c = record { config = refl; stored = in_settled (settled_updates b done) c.stored; window = refl }

by_outcome : (o : Outcome) (c : ClientState) → SameClient c (after_outcome o c)
by_outcome (held number) c = client_self c
by_outcome (idle next) c = by_batch c None
by_outcome (planned a) c = by_batch c (opened a)

-- ---- windows

-- a window that ends no earlier
abbrev pub EndsLater : Option Span → Option Span → Type 0
EndsLater a b = IfSome a (λ (w : Span). IsSomeAnd b (λ (v : Span). w.until ≤ v.until))

ends_self : (a : Option Span) → EndsLater a a
ends_self None = tt
ends_self (Some w) = omega arith

ends_trans : (a b c : Option Span) → EndsLater a b → EndsLater b c → EndsLater a c
ends_trans None b c one two = tt
ends_trans (Some w) None c one two = absurd one
ends_trans (Some w) (Some v) None one two = absurd two
ends_trans (Some w) (Some v) (Some u) one two = omega (arith, one, two)

-- the window of a client: that of its host, or else the common one
abbrev pub window_in : Standing → ClientState → Option Span
window_in s c = option_or c.window s.window

neither : (a b : Bool) → (a || b) ≡ false → b ≡ false
neither true b e = absurd (true≢false e)
neither false b e = e

ends_at : (o : Option Span) (w : Span) → goes_back o w ≡ false → EndsLater o (Some w)
ends_at None w e = tt
ends_at (Some v) w e = ltb-false w.until v.until (neither (ltb w.from v.from) (ltb w.until v.until) e)

-- ---- all clients

pub record KeptClient (s t : Standing) (c d : ClientState) : Type 0 where
  pub config : d.config ≡ c.config
  pub stored : (h : ℕ) → In c.stored h → In d.stored h
  pub window : EndsLater (window_in s c) (window_in t d)

abbrev pub Kept : Standing → Standing → Type 0
Kept s t = (n : ℕ) (c : ClientState) → slice_get s.clients n ≡ Some c → (d : ClientState) × (slice_get t.clients n ≡ Some d) × KeptClient s t c d

kept_self : (s : Standing) → Kept s s
kept_self s n c e = (c, e, record { config = refl; stored = λ h there. there; window = ends_self (window_in s c) })

pub kept_trans : (s t u : Standing) → Kept s t → Kept t u → Kept s u
kept_trans s t u one two n c e =
    let d = one n c e in
    let x = two n d.0 d.1 in (
      x.0,
      x.1,
      record {
        config = x.2.config ∙ d.2.config;
        stored = λ h there. x.2.stored h (d.2.stored h there);
        window = ends_trans (window_in s c) (window_in t d.0) (window_in u x.0) d.2.window x.2.window;
      },
    )

-- where no window comes
abbrev SameClients : List ClientState → List ClientState → Type 0
SameClients cs ds = (n : ℕ) (c : ClientState) → slice_get cs n ≡ Some c → (d : ClientState) × (slice_get ds n ≡ Some d) × SameClient c d

same_kept : (s t : Standing) → SameClients s.clients t.clients → s.window ≡ t.window → Kept s t
same_kept s t same window n c e =
    let d = same n c e in (
      d.0,
      d.1,
      record {
        config = d.2.config;
        stored = d.2.stored;
        window = subst (EndsLater (window_in s c)) (λ i. option_or (sym d.2.window i) (window i)) (ends_self (window_in s c));
      },
    )

clients_self : (cs : List ClientState) → SameClients cs cs
clients_self cs n c e = (c, e, client_self c)

clients_changed : (f : ClientState → ClientState) → ((c : ClientState) → SameClient c (f c)) → (cs : List ClientState) (place : ℕ) → SameClients cs (changed_at f cs place)
clients_changed f one cs place n c e = elim (cases_eq n place) [
  | inl here ↦
      let there : slice_get cs place ≡ Some c = ap (slice_get cs) (sym here) ∙ e in
      (f c, ap (slice_get (changed_at f cs place)) here ∙ get_changed_same f cs place c there, one c)
  | inr other ↦ (c, get_changed_other f cs place n other ∙ e, client_self c)
]

reports_same : (cs : List ClientState) (rs : List ClientReport) → SameClients cs (after_reports cs rs)
reports_same [] rs n c e = absurd (none-some c e)
reports_same (x ∷ cs) [] n c e = (c, e, client_self c)
reports_same (x ∷ cs) (r ∷ rs) zero c e = (after_outcome r.outcome c, ap (λ y. Some (after_outcome r.outcome y)) (same_Some x c e), by_outcome r.outcome c)
reports_same (x ∷ cs) (r ∷ rs) (suc n) c e = reports_same cs rs n c e

-- ---- windows of hosts

at_mapped : (f : ClientState → ClientState) (cs : List ClientState) (n : ℕ) (c : ClientState) → slice_get cs n ≡ Some c → slice_get (map f cs) n ≡ Some (f c)
at_mapped f [] n c e = absurd (none-some c e)
at_mapped f (x ∷ cs) zero c e = ap (λ y. Some (f y)) (same_Some x c e)
at_mapped f (x ∷ cs) (suc n) c e = at_mapped f cs n c e

host_kept : (s : Standing) (host : ℕ) (w : Span) → judged s (HostWindow host w) ≡ None → Kept s (changed s (HostWindow host w))
host_kept s host w ok n c e = (in_host_window host w c, at_mapped (in_host_window host w) s.clients n c e, go (eqb c.config.host host) refl)
  where
    none_back : list_any (goes_back_on s.window host w) s.clients ≡ false
    none_back = (passes (list_any (goes_back_on s.window host w) s.clients) WindowBack None ok).0

    stays : goes_back_on s.window host w c ≡ false
    stays = not_one (goes_back_on s.window host w c) refl
      where
        not_one : (b : Bool) → goes_back_on s.window host w c ≡ b → b ≡ false
        not_one true f = absurd (true≢false (sym (test_from (goes_back_on s.window host w) s.clients c (from_get s.clients n c e) f) ∙ none_back))
        not_one false f = refl

    go : (b : Bool) → eqb c.config.host host ≡ b → KeptClient s (changed s (HostWindow host w)) c (cond b (record c { window = Some w }) c)
    go true f = record { config = refl; stored = λ h there. there; window = ends_at (window_in s c) w (ap (λ b. b && goes_back (window_in s c) w) (sym f) ∙ stays) }
    go false f = record { config = refl; stored = λ h there. there; window = ends_self (window_in s c) }

window_kept : (s : Standing) (w : Span) → judged s (Window w) ≡ None → Kept s (changed s (Window w))
window_kept s w ok n c e = (c, e, record { config = refl; stored = λ h there. there; window = go c.window })
  where
    go : (o : Option Span) → EndsLater (option_or o s.window) (option_or o (Some w))
    go None = ends_at s.window w (passes (goes_back s.window w) WindowBack None ok).0
    go (Some v) = omega arith

-- ---- events

settled_same : (s : Standing) (place done : ℕ) (o : Option OpenBatch) → Kept s (after_settled s place done o)
settled_same s place done None = kept_self s
settled_same s place done (Some b) = same_kept s (after_settled s place done (Some b)) (clients_changed (after_batch b done) (by_settled b done) s.clients place) refl

changed_kept : (s : Standing) (e : Event) → judged s e ≡ None → Kept s (changed s e)
changed_kept s (Window window) ok = window_kept s window ok
changed_kept s (HostWindow host window) ok = host_kept s host window ok
changed_kept s (Asked client goal) ok =
    same_kept s (changed s (Asked client goal)) (clients_changed (λ c. record c { asked = Some goal }) (λ c. record { config = refl; stored = λ h there. there; window = refl }) s.clients client) refl
changed_kept s (SetSeen chain x) ok = same_kept s (changed s (SetSeen chain x)) (clients_self s.clients) refl
changed_kept s (HeaderSeen chain header) ok = same_kept s (changed s (HeaderSeen chain header)) (clients_self s.clients) refl
changed_kept s (StoredSeen client height r) ok =
    same_kept s (changed s (StoredSeen client height r))
    (clients_changed (λ c. record c { stored = with_height height c.stored }) (λ c. record { config = refl; stored = in_with_height height c.stored; window = refl }) s.clients client) refl
changed_kept s (Sent path sequence block timeout_height timeout_time) ok = same_kept s (changed s (Sent path sequence block timeout_height timeout_time)) (clients_self s.clients) refl
changed_kept s (Received path sequence block) ok = same_kept s (changed s (Received path sequence block)) (clients_self s.clients) refl
changed_kept s (AckWritten path sequence block) ok = same_kept s (changed s (AckWritten path sequence block)) (clients_self s.clients) refl
changed_kept s (Cleared path sequence) ok = same_kept s (changed s (Cleared path sequence)) (clients_self s.clients) refl
changed_kept s (Closed path) ok = same_kept s (changed s (Closed path)) (clients_self s.clients) refl
changed_kept s (Scanned path scan) ok = kept_self s
changed_kept s (Planned d) ok =
    same_kept s (changed s (Planned d)) (clients_changed (after_answer d.answer) (λ c. by_batch c (batch_opened c d.answer)) s.clients d.job.client) refl
changed_kept s (Settled client number done) ok = settled_same s client done (option_and_then (λ (c : ClientState). open_batch c number) (slice_get s.clients client))

event_kept : (s : Standing) (e : Event) → Kept s (standing_after s e)
event_kept s e = go (judged s e) refl
  where
    go : (o : Option Refusal) → judged s e ≡ o → Kept s (if is_some o then s else changed s e)
    go None ok = changed_kept s e ok
    go (Some r) refused = kept_self s

all_kept : {X : Type 0} (step : Standing → X → Standing) → ((s : Standing) (x : X) → Kept s (step s x)) → (xs : List X) (s : Standing) → Kept s (fold step s xs)
all_kept step one [] s = kept_self s
all_kept step one (x ∷ xs) s = kept_trans s (step s x) (fold step (step s x) xs) (one s x) (all_kept step one xs (step s x))

-- ---- turns

pub before_kept : (s : Standing) (turn : Turn) → Kept s (before_plans s turn)
before_kept s turn =
    let hosts = fold after_host_window s turn.windows in
    let window = after_window hosts turn.window in
    kept_trans s hosts (before_plans s turn) (all_kept after_host_window (λ s w. event_kept s (window_event w)) turn.windows s)
    (kept_trans hosts window (before_plans s turn) (event_kept hosts (Window turn.window))
    (kept_trans window (before_events s turn) (before_plans s turn) (all_kept after_question (λ s q. event_kept s (Asked q.client q.goal)) turn.goals window)
    (all_kept standing_after event_kept turn.events (before_events s turn))))

taking_kept : (s : Standing) (place : ℕ) → Kept s (after_taking s place)
taking_kept s place = go (taking s place)
  where
    go : (o : Option Settlement) → Kept s (option_map_or (after_settlement s) o s)
    go None = kept_self s
    go (Some x) = event_kept s (settlement_event x)

pub rest_kept : (s : Standing) (turn : Turn) (r : TurnReport) → Kept (before_plans s turn) (after_turn s turn r)
rest_kept s turn r =
    let sent = after_plans s turn r in
    let settled = fold after_settlement sent turn.settlements in
    kept_trans (before_plans s turn) sent (after_turn s turn r) (same_kept (before_plans s turn) sent (reports_same (before_plans s turn).clients r.clients) refl)
    (kept_trans sent settled (after_turn s turn r) (all_kept after_settlement (λ s x. event_kept s (settlement_event x)) turn.settlements sent)
    (all_kept after_taking taking_kept (takers sent turn.taken) settled))
