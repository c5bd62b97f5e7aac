-- The events come back from what a log keeps of them.
use Rattle.std.proofs.Common.{◌≡◌, ℕ, ◌<◌, Bool, true, false, cond, not, leb, ltb, List, [], ◌∷◌, ◌++◌, Option, Some, None, is_some, refl, sym, ap, ◌∙◌, subst}
use Rattle.std.specs.List.{fold}
use Rattle.std.specs.Option.{option_map, option_map_or}
use Rattle.std.proofs.lemmas.Bool.{leb-false, not-false}
use Rattle.std.proofs.lemmas.List.Elements.{All-append, All-cons, All-nil}
use Rattle.std.proofs.lemmas.List.Sums.{fold-append}
use Rattle.rb_script_types.specs.Config.{Config}
use Rattle.rb_script_types.specs.declared.refusal.Refusal.{Refusal}
use Rattle.rb_script_types.specs.declared.refusal.Refusal.TheVariants.{UnknownObject, Stale, Busy, Repeat, OutOfOrder, NotOwed, LogFull}
use Rattle.rb_scan.specs.Same.{same_path, same_path-Decides}
use Rattle.rb_core.specs.Core.{IsFold}
use Rattle.rb_plan_client.specs.Draft.{Draft}
use Rattle.rb_core_model.specs.Entry.{Logged, logged_of, event_of, events_of, log_from}
use Rattle.rb_core_model.specs.Event.{Event, IsEvent, Window, HostWindow, Asked, SetSeen, HeaderSeen, StoredSeen, Sent, Received, AckWritten, Cleared, Closed, Scanned, Planned, Settled}
use Rattle.rb_core_model.specs.Log.{accepted_from}
use Rattle.rb_core_model.specs.Machine.{State, begun, plan_number, is_held, all_scanned, is_view, is_job, client_view, is_known, refusal_beside, refusal_of, accepted, after, state_of}
use Rattle.rb_core_model.specs.Limits.{max_events}
use Rattle.rb_plan_client.specs.Same.{same_job, same_job-Decides}
use Rattle.rb_core_model.specs.Scan.{Scan}
use Rattle.rb_core_model.specs.Snapshot.{Snapshot, Log, followed_by}
use Rattle.rb_core_model.specs.Standing.{path_view}
use Rattle.rb_core_model.proofs.Options.{passes, tested}

-- ---- events that aren't refused

-- such an event is of a known object, the log has room for it, and nothing else speaks against it
pub record IsFree (s : State) (e : Event) : Type 0 where
  pub state : is_known s e ≡ true
  pub few : s.front < max_events
  pub beside : refusal_beside s e ≡ None

pub free : (s : State) (e : Event) → refusal_of s e ≡ None → IsFree s e
free s e none =
    let first = passes (not (is_known s e)) UnknownObject _ none in
    let second = passes (leb max_events s.front) LogFull _ first.1 in
    record { state = not-false (is_known s e) first.0; few = leb-false max_events s.front second.0; beside = second.1 }

-- ---- what a log keeps of them

scan_seen : (s : State) (path : ℕ) (scan : Scan) → refusal_beside s (Scanned path scan) ≡ None → path_view s.standing path ≡ Some scan.view
scan_seen s path scan none =
    let is : is_view s path scan.view ≡ true = not-false (is_view s path scan.view) (passes (not (is_view s path scan.view)) (Stale s.front) _ none).0 in
    let found = tested (same_path scan.view) (path_view s.standing path) is in
    found.1 ∙ ap (λ v. Some v) (sym ((same_path-Decides scan.view found.0).0 found.2))

pub draft_seen : (s : State) (d : Draft) → refusal_beside s (Planned d) ≡ None → client_view s d.job.client ≡ Some d.job
draft_seen s d none =
    let first = passes (ltb d.job.plan (plan_number s d.job.client)) Repeat _ none in
    let second = passes (ltb (plan_number s d.job.client) d.job.plan) OutOfOrder _ first.1 in
    let third = passes (is_held s d.job.client) Busy _ second.1 in
    let fourth = passes (not (all_scanned s d.job.client)) NotOwed _ third.1 in
    let fifth = passes (not (is_job s d.job)) (Stale s.front) None fourth.1 in
    let found = tested (same_job d.job) (client_view s d.job.client) (not-false (is_job s d.job) fifth.0) in
    found.1 ∙ ap (λ j. Some j) (sym ((same_job-Decides d.job found.0).0 found.2))

-- an accepted event comes back
pub event_back : (s : State) (e : Event) → refusal_beside s e ≡ None → event_of s (logged_of e) ≡ Some e
event_back s (Window window) e = refl
event_back s (HostWindow host window) e = refl
event_back s (Asked client goal) e = refl
event_back s (SetSeen chain set) e = refl
event_back s (HeaderSeen chain header) e = refl
event_back s (StoredSeen client height r) e = refl
event_back s (Sent path sequence block timeout_height timeout_time) e = refl
event_back s (Received path sequence block) e = refl
event_back s (AckWritten path sequence block) e = refl
event_back s (Cleared path sequence) e = refl
event_back s (Closed path) e = refl
event_back s (Scanned path scan) e = ap (option_map (λ v. Scanned path (record { view = v; part = scan.part }))) (scan_seen s path scan e)
event_back s (Planned d) e = ap (option_map (λ job. Planned (record { job = job; answer = d.answer; next = d.next }))) (draft_seen s d e)
event_back s (Settled client number done) e = refl

abbrev pub next : State → List Logged → Option Event → List Event
next s xs o = option_map_or (λ event. event ∷ events_of (after s event) xs) o (events_of s xs)

-- the events of some entries, and of others after them
pub events-append : (s : State) (xs ys : List Logged) → events_of s (xs ++ ys) ≡ events_of s xs ++ events_of (fold after s (events_of s xs)) ys
events-append s [] ys = refl
events-append s (x ∷ xs) ys = go (event_of s x) (events-append s xs ys) (λ t. events-append t xs ys)
  where
    go : (o : Option Event) → events_of s (xs ++ ys) ≡ events_of s xs ++ events_of (fold after s (events_of s xs)) ys
        → ((t : State) → events_of t (xs ++ ys) ≡ events_of t xs ++ events_of (fold after t (events_of t xs)) ys)
        → next s (xs ++ ys) o ≡ next s xs o ++ events_of (fold after s (next s xs o)) ys
    go None here there = here
    go (Some e) here there = ap (λ es. e ∷ es) (there (after s e))

-- ---- logs

-- a log with one more accepted event is one
accepted-snoc : (s : State) (es : List Event) (e : Event) → refusal_of (fold after s es) e ≡ None → accepted_from s (es ++ e ∷ []) ≡ accepted_from s es ++ e ∷ []
accepted-snoc s [] e none = ap (λ (o : Option Refusal). cond {A = List Event} (is_some o) [] (e ∷ [])) none
accepted-snoc s (x ∷ es) e none = go (is_some (refusal_of s x)) (accepted-snoc (after s x) es e none)
  where
    go : (b : Bool) → accepted_from (after s x) (es ++ e ∷ []) ≡ accepted_from (after s x) es ++ e ∷ []
        → cond b (accepted_from (after s x) (es ++ e ∷ [])) (x ∷ accepted_from (after s x) (es ++ e ∷ []))
        ≡ cond b (accepted_from (after s x) es) (x ∷ accepted_from (after s x) es) ++ e ∷ []
    go true rest = rest
    go false rest = ap (λ ys. x ∷ ys) rest

pub after_free : (s : State) (e : Event) → refusal_of s e ≡ None → after s e ≡ accepted s e
after_free s e none = ap (λ (o : Option Refusal). cond (is_some o) s (accepted s e)) none

-- what entries stand for, with that of one more event that isn't refused
pub events_grow : (config : Config) (start : Snapshot) (xs : List Logged) (e : Event) → refusal_of (state_of config (log_from config start xs)) e ≡ None
    → log_from config start (xs ++ logged_of e ∷ []) ≡ followed_by (log_from config start xs) (e ∷ [])
events_grow config start xs e none =
    let s = begun config start in
    let t = state_of config (log_from config start xs) in
    ap (λ es. record { start = start; events = es })
    (events-append s xs (logged_of e ∷ []) ∙ ap (λ o. events_of s xs ++ next t [] o) (event_back t e (free t e none).beside))

-- what the entries of a log stand for, with one more accepted event
pub settled : (config : Config) (start : Snapshot) (old now : State) (xs ys : List Logged) (e : Event) → IsFold config (log_from config start xs) old
    → refusal_of old e ≡ None → IsEvent e → now ≡ accepted old e → ys ≡ xs ++ logged_of e ∷ []
    → (log_from config start ys ≡ followed_by (log_from config start xs) (e ∷ [])) × IsFold config (log_from config start ys) now
settled config start old now xs ys e is none rule now_is ys_is =
    let s = begun config start in
    let log = log_from config start xs in
    let free_there : refusal_of (state_of config log) e ≡ None = subst (λ (t : State). refusal_of t e ≡ None) is.state none in
    let more : log_from config start ys ≡ followed_by log (e ∷ []) = ap (log_from config start) ys_is ∙ events_grow config start xs e free_there in
    let grown : IsFold config (followed_by log (e ∷ [])) now = record {
      state = now_is ∙ sym (after_free old e none) ∙ ap (λ (t : State). after t e) is.state ∙ sym (fold-append after s log.events (e ∷ []));
      set_up = is.set_up;
      begun = is.begun;
      events = All-append IsEvent log.events (e ∷ []) is.events (All-cons IsEvent e [] rule (All-nil IsEvent));
      accepted = ap (λ es. record log { events = es }) (accepted-snoc s log.events e free_there ∙ ap (λ es. es ++ e ∷ []) (ap (λ (x : Log). x.events) is.accepted));
    } in
    (more, subst (λ (l : Log). IsFold config l now) (sym more) grown)
