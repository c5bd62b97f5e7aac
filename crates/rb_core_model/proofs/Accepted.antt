-- Which events a relayer accepts, and what they leave, where its log has room.
use Rattle.std.proofs.Common.{◌≡◌, ◌⊎◌, ℕ, suc, ◌+◌, ◌<◌, ◌≤◌, Bool, true, false, cond, not, ◌&&◌, ◌||◌, leb, ltb, List, [], ◌∷◌, length, get_or, Option, Some, None, is_some, refl, sym, ap, ◌∙◌, subst, inl, inr, arith, if◌then◌else◌, add-zero}
use Rattle.std.specs.List.{slice_get, list_any, enumerate_from}
use Rattle.std.specs.Option.{option_map, option_map_or, option_and_then}
use Rattle.std.proofs.lemmas.Bool.{lt-leb, le-ltb, cases_eq, and_from, not_from_true}
use Rattle.std.proofs.lemmas.List.{get_or-set_same, get_or-set_other}
use Rattle.std.proofs.lemmas.Option.{none-some}
use Rattle.rb_base.specs.Window.{Span}
use Rattle.rb_scan.specs.Path.{Path}
use Rattle.rb_scan.specs.Same.{same_path, same_path-Decides}
use Rattle.rb_base.specs.declared.gate.Part.{Part}
use Rattle.rb_base.specs.declared.gate.Part.TheVariants.{Packets, Channel}
use Rattle.rb_core_model.specs.Config.{part_for}
use Rattle.rb_plan_client.specs.Draft.{Job, Draft}
use Rattle.rb_core_model.specs.Event.{Event, Window, HostWindow, Asked, SetSeen, HeaderSeen, StoredSeen, Sent, Received, AckWritten, Cleared, Closed, Scanned, Planned, Settled}
use Rattle.rb_core_model.specs.Scan.{Scan}
use Rattle.rb_core_model.specs.Machine.{Scans, State, no_scans, scan_of, with_scan, is_view, is_scanned, is_missed, all_scanned, plan_number, job_of, client_view, is_known, is_held, is_job, refusal_beside, refusal_of, accepted, after}
use Rattle.rb_core_model.specs.Limits.{max_events}
use Rattle.rb_script_types.specs.declared.refusal.Refusal.{Refusal}
use Rattle.rb_script_types.specs.declared.refusal.Refusal.TheVariants.{UnknownObject, Stale, Busy, Repeat, OutOfOrder, WindowBack, NotOwed, LogFull}
use Rattle.rb_core_model.specs.Refusal.{refused_if}
use Rattle.rb_plan_client.specs.Same.{same_job, same_job-Decides}
use Rattle.rb_core_model.specs.Standing.{OpenBatch, ClientState, PathState, Standing, open_batch, after_settled, goes_back, path_view, judged, changed, standing_after}

-- ---- refusals that don't apply

pub skip : (b : Bool) (r : Refusal) (next : Option Refusal) → b ≡ false → refused_if b r next ≡ next
skip b r next e = ap (λ t. refused_if t r next) e

-- a known object, and room in the log
pub open_to : (s : State) (e : Event) → is_known s e ≡ true → s.front < max_events → refusal_of s e ≡ refusal_beside s e
open_to s e known room =
    skip (not (is_known s e)) UnknownObject (refused_if (leb max_events s.front) LogFull (refusal_beside s e)) (not_from_true (is_known s e) known)
    ∙ skip (leb max_events s.front) LogFull (refusal_beside s e) (lt-leb max_events s.front room)

pub standing_of : (s : State) (e : Event) → refusal_of s e ≡ judged s.standing e → (after s e).standing ≡ standing_after s.standing e
standing_of s e same = go (is_some (refusal_of s e)) ∙ ap (λ o. if is_some o then s.standing else changed s.standing e) same
  where
    go : (b : Bool) → (cond b s (accepted s e)).standing ≡ cond b s.standing (changed s.standing e)
    go true = refl
    go false = refl

pub front_of : (s : State) (e : Event) → (after s e).front ≤ suc s.front
front_of s e = go (is_some (refusal_of s e))
  where
    go : (b : Bool) → (cond b s (accepted s e)).front ≤ suc s.front
    go true = omega arith
    go false = omega arith

-- ---- scans

same_view : (v : Path) → same_path v v ≡ true
same_view v = (same_path-Decides v v).1 refl

-- a scan of the path as it is, of a part that has no valid scan
pub scan_ok : (s : State) (path : ℕ) (part : Part) (v : Path) → ltb path (length s.standing.paths) ≡ true → s.front < max_events → path_view s.standing path ≡ Some v → is_scanned s path part ≡ false
    → refusal_of s (Scanned path (record { view = v; part = part })) ≡ None
scan_ok s path part v known room is not_yet =
    open_to s (Scanned path (record { view = v; part = part })) known room
    ∙ skip (not (is_view s path v)) (Stale s.front) (refused_if (is_scanned s path part) Repeat None)
    (not_from_true (is_view s path v) (ap (λ o. option_map_or (same_path v) o false) is ∙ same_view v))
    ∙ skip (is_scanned s path part) Repeat None not_yet

refused_view : (s : State) (path : ℕ) (scan : Scan) → refusal_of s (Scanned path scan) ≡ None → is_view s path scan.view ≡ true
refused_view s path scan e = seen_true (is_view s path scan.view) (first (leb max_events s.front) LogFull _ (first (not (is_known s (Scanned path scan))) UnknownObject _ e))
  where
    first : (b : Bool) (r : Refusal) (next : Option Refusal) → refused_if b r next ≡ None → next ≡ None
    first true r next h = absurd (none-some r (sym h))
    first false r next h = h

    seen_true : (b : Bool) → refused_if (not b) (Stale s.front) (refused_if (is_scanned s path scan.part) Repeat None) ≡ None → b ≡ true
    seen_true true h = refl
    seen_true false h = absurd (none-some _ (sym h))

scan_same : (v : Path) (part : Part) (x : Scans) → scan_of (with_scan v part x) part ≡ Some v
scan_same v Packets x = refl
scan_same v Channel x = refl

-- the other part stays, and this one is as good as it was
scan_other : (v : Path) (part other : Part) (x : Scans) → (scan_of (with_scan v part x) other ≡ Some v) ⊎ (scan_of (with_scan v part x) other ≡ scan_of x other)
scan_other v Packets Packets x = inl refl
scan_other v Packets Channel x = inr refl
scan_other v Channel Packets x = inr refl
scan_other v Channel Channel x = inl refl

module _ (s : State) (path : ℕ) (scan : Scan) (lt : path < length s.scans) (ok : refusal_of s (Scanned path scan) ≡ None) where
  at_scan : get_or (accepted s (Scanned path scan)).scans path no_scans ≡ with_scan scan.view scan.part (get_or s.scans path no_scans)
  at_scan = get_or-set_same s.scans path _ no_scans lt

  pub now_scanned : is_scanned (accepted s (Scanned path scan)) path scan.part ≡ true
  now_scanned =
      ap (λ x. option_map_or (is_view s path) (scan_of x scan.part) false) at_scan
      ∙ ap (λ o. option_map_or (is_view s path) o false) (scan_same scan.view scan.part (get_or s.scans path no_scans))
      ∙ refused_view s path scan ok

  pub still_scanned : (p : ℕ) (part : Part) → is_scanned s p part ≡ true → is_scanned (accepted s (Scanned path scan)) p part ≡ true
  still_scanned p part is = elim (cases_eq p path) [
    | inl here ↦
        let moved : is_scanned (accepted s (Scanned path scan)) path part ≡ option_map_or (is_view s path) (scan_of (with_scan scan.view scan.part (get_or s.scans path no_scans)) part) false =
        ap (λ x. option_map_or (is_view s path) (scan_of x part) false) at_scan in
        ap (λ n. is_scanned (accepted s (Scanned path scan)) n part) here ∙ moved
        ∙ elim (scan_other scan.view scan.part part (get_or s.scans path no_scans)) [
          | inl new ↦ ap (λ o. option_map_or (is_view s path) o false) new ∙ refused_view s path scan ok
          | inr old ↦ ap (λ o. option_map_or (is_view s path) o false) old ∙ ap (λ n. is_scanned s n part) (sym here) ∙ is
        ]
    | inr elsewhere ↦ ap (λ x. option_map_or (is_view s p) (scan_of x part) false) (get_or-set_other s.scans path p _ no_scans elsewhere) ∙ is
  ]

-- ---- drafts

none_missed : (s : State) (client : ℕ) (paths : List PathState) (n : ℕ) → ((k : ℕ) (part : Part) → k < length paths → is_scanned s (n + k) part ≡ true) → list_any (is_missed s client) (enumerate_from n paths) ≡ false
none_missed s client [] n all = refl
none_missed s client (p ∷ paths) n all =
    let zero_at : n + 0 ≡ n = add-zero n in
    let both = and_from (is_scanned s n Packets) (is_scanned s n Channel) (subst (λ k. is_scanned s k Packets ≡ true) zero_at (all 0 Packets (omega arith))) (subst (λ k. is_scanned s k Channel ≡ true) zero_at (all 0 Channel (omega arith))) in
    ap (λ b. (is_some (part_for p.config client) && not b) || list_any (is_missed s client) (enumerate_from (n + 1) paths)) both
    ∙ here (is_some (part_for p.config client)) _
    ∙ none_missed s client paths (n + 1) (λ k part lt. let same : n + suc k ≡ (n + 1) + k = omega arith in subst (λ m. is_scanned s m part ≡ true) same (all (suc k) part (omega arith)))
  where
    here : (b c : Bool) → ((b && false) || c) ≡ c
    here true c = refl
    here false c = refl

-- the client's own draft, made as things stand, is accepted
pub draft_ok : (s : State) (client : ℕ) (window : Span) (c : ClientState) (d : Draft) → ltb client (length s.standing.clients) ≡ true → s.front < max_events
    → s.standing.window ≡ Some window → slice_get s.standing.clients client ≡ Some c → c.batch ≡ None → ((p : ℕ) (part : Part) → p < length s.standing.paths → is_scanned s p part ≡ true)
    → d.job ≡ job_of s client window c → (client_view s client ≡ Some d.job) × (refusal_of s (Planned d) ≡ None)
draft_ok s client window c d known room is_window is_client not_held all is =
    let at : d.job.client ≡ client = ap (λ (j : Job). j.client) is in
    let number : d.job.plan ≡ plan_number s client = ap (λ (j : Job). j.plan) is in
    let same_number : d.job.plan ≡ plan_number s d.job.client = number ∙ ap (plan_number s) (sym at) in
    let view : client_view s client ≡ Some d.job =
    ap (option_and_then (λ w. option_map (job_of s client w) (slice_get s.standing.clients client))) is_window ∙ ap (option_map (job_of s client window)) is_client ∙ ap (λ j. Some j) (sym is) in
    let held : is_held s d.job.client ≡ false =
    ap (is_held s) at ∙ ap (λ o. option_map_or (λ (x : ClientState). is_some x.batch) o false) is_client ∙ ap (λ o. is_some o) not_held in
    let scanned : not (all_scanned s d.job.client) ≡ false =
    ap (λ b. not (not b)) (none_missed s d.job.client s.standing.paths 0 (λ k part lt. let same : k ≡ 0 + k = omega arith in subst (λ m. is_scanned s m part ≡ true) same (all k part lt))) in
    let job : is_job s d.job ≡ true = ap (λ n. option_map_or (same_job d.job) (client_view s n) false) at ∙ ap (λ o. option_map_or (same_job d.job) o false) view ∙ (same_job-Decides d.job d.job).1 refl in (
      view,
      open_to s (Planned d) (ap (λ n. ltb n (length s.standing.clients)) at ∙ known) room
          ∙ skip _ Repeat _ (le-ltb d.job.plan (plan_number s d.job.client) (omega (arith, same_number)))
          ∙ skip _ OutOfOrder _ (le-ltb (plan_number s d.job.client) d.job.plan (omega (arith, same_number)))
          ∙ skip _ Busy _ held ∙ skip _ NotOwed _ scanned ∙ skip _ (Stale s.front) None (not_from_true (is_job s d.job) job),
    )

-- a plan leaves the scans as they are
pub plan_scanned : (s : State) (d : Draft) (p : ℕ) (part : Part) → is_scanned (accepted s (Planned d)) p part ≡ is_scanned s p part
plan_scanned s d p part = refl

-- ---- windows

window_changed : (s : Standing) (e : Event) → is_some s.window ≡ true → is_some (changed s e).window ≡ true
window_changed s (Window window) is = refl
window_changed s (HostWindow host window) is = is
window_changed s (Asked client goal) is = is
window_changed s (SetSeen chain x) is = is
window_changed s (HeaderSeen chain header) is = is
window_changed s (StoredSeen client height r) is = is
window_changed s (Sent path sequence block timeout_height timeout_time) is = is
window_changed s (Received path sequence block) is = is
window_changed s (AckWritten path sequence block) is = is
window_changed s (Cleared path sequence) is = is
window_changed s (Closed path) is = is
window_changed s (Scanned path scan) is = is
window_changed s (Planned d) is = is
window_changed s (Settled client number done) is = go (option_and_then (λ c. open_batch c number) (slice_get s.clients client))
  where
    go : (o : Option OpenBatch) → is_some (after_settled s client done o).window ≡ true
    go None = is
    go (Some b) = is

pub window_stays : (s : Standing) (e : Event) → is_some s.window ≡ true → is_some (standing_after s e).window ≡ true
window_stays s e is = go (is_some (judged s e))
  where
    go : (b : Bool) → is_some (cond b s (changed s e)).window ≡ true
    go true = is
    go false = window_changed s e is

pub window_entered : (s : Standing) (window : Span) → is_some (standing_after s (Window window)).window ≡ true
window_entered s window = go s.window refl
  where
    go : (o : Option Span) → s.window ≡ o → is_some (standing_after s (Window window)).window ≡ true
    go None e = ap (λ o. is_some (if is_some (refused_if (goes_back o window) WindowBack None) then s else changed s (Window window)).window) e
    go (Some present) e = window_stays s (Window window) (ap (λ o. is_some o) e)
