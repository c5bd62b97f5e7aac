-- What an event makes of a relayer.
use Rattle.std.proofs.Common.{◌≡◌, ℕ, ◌+◌, ◌<◌, Bool, true, false, cond, not, ltb, List, [], ◌∷◌, Option, Some, None, IfSome, is_some, is_none, length, refl, sym, ap, ◌∙◌, subst, arith}
use Rattle.std.specs.Prelude.{Result, Ok, Err}
use Rattle.std.specs.List.{fold}
use Rattle.std.proofs.lemmas.Bool.{lt-ltb, not_from_true}
use Rattle.std.proofs.lemmas.List.Sums.{fold-append}
use Rattle.std.proofs.lemmas.Option.{none-some}
use Rattle.rb_base.specs.Window.{Span}
use Rattle.rb_core.specs.Core.{Core, state_in, refusal_in}
use Rattle.rb_core_model.specs.Event.{Event, Window, Scanned}
use Rattle.rb_core_model.specs.Machine.{State, refusal_of, accepted, after, begun, state_of, is_known, is_scanned, knows_client, knows_path, client_view_refusal, path_view_refusal}
use Rattle.rb_core_model.specs.Refusal.{refused_if}
use Rattle.rb_core_model.specs.Seen.{observed}
use Rattle.rb_core_model.specs.Snapshot.{Log, followed_by}
use Rattle.rb_core_model.specs.Standing.{Standing, path_view, goes_back, judged, standing_after}
use Rattle.rb_core_model.specs.Scan.{Scan}
use Rattle.rb_core_model.specs.Steps.{IsFromOutside, IsAfterScan}
use Rattle.rb_scan.specs.Path.{Path}
use Rattle.rb_base.specs.declared.gate.Part.{Part}
use Rattle.rb_base.specs.declared.gate.Part.TheVariants.{Packets, Channel}
use Rattle.rb_core_model.proofs.Accepted.{skip, front_of}
use Rattle.rb_core_model.proofs.Options.{some_from}
use Rattle.rb_core_model.proofs.Steps.{judged_by_standing, present_scans, scans_last}
use Rattle.rb_script_types.specs.Config.{Config}
use Rattle.rb_script_types.specs.Script.{IsReadObservation}
use Rattle.rb_script_types.specs.declared.observation.Observation.{Observation}
use Rattle.rb_script_types.specs.declared.observation.Observation.TheVariants as seen
use Rattle.rb_script_types.specs.declared.refusal.Refusal.TheVariants.{UnknownObject, OutOfOrder, WindowBack}
use Rattle.rb_super_turn.proofs.Sizes.{HasSizes, sizes_accepted, sizes_begun}
use Rattle.rb_super_turn.specs.Phases.{standing_in, HasLogRoom, IsLater}

-- ---- how much there is of everything

sizes_after : (config : Config) (s : State) (e : Event) → HasSizes config s → HasSizes config (after s e)
sizes_after config s e sizes = go (is_some (refusal_of s e))
  where
    go : (b : Bool) → HasSizes config (cond b s (accepted s e))
    go true = sizes
    go false = sizes_accepted config s e sizes

sizes_fold : (config : Config) (events : List Event) (s : State) → HasSizes config s → HasSizes config (fold after s events)
sizes_fold config [] s sizes = sizes
sizes_fold config (e ∷ events) s sizes = sizes_fold config events (after s e) (sizes_after config s e sizes)

pub sizes_in : (core : Core) → HasSizes core.config (state_in core)
sizes_in core = sizes_fold core.config core.log.events (begun core.config core.log.start) (sizes_begun core.config core.log.start)

-- a core is its configuration and its log
same_log : (old new : Core) → new.config ≡ old.config → (log : Log) → new.log ≡ log → state_in new ≡ state_of old.config log
same_log old new config log is = λ i. state_of (config i) (is i)

-- the core whose log has one more
pub one_more : (old new : Core) (e : Event) → new.config ≡ old.config → new.log ≡ followed_by old.log (e ∷ []) → state_in new ≡ after (state_in old) e
one_more old new e config log =
    same_log old new config (followed_by old.log (e ∷ [])) log ∙ fold-append after (begun old.config old.log.start) old.log.events (e ∷ [])

pub same_state : (old new : Core) → new.config ≡ old.config → new.log ≡ old.log → state_in new ≡ state_in old
same_state old new config log = same_log old new config old.log log

-- what is known of a core that has the configuration and the log of another, which is seen as a third
pub state_seen : (k seen value : Core) → k.config ≡ seen.config → k.log ≡ seen.log → seen ≡ value → state_in k ≡ state_in value
state_seen k seen value config log is = same_state seen k config log ∙ ap (λ (x : Core). state_in x) is

pub later : (old new : Core) (e : Event) → new.config ≡ old.config → state_in new ≡ after (state_in old) e → IsLater 1 old new
later old new e config state = record { config = config; front = let most = front_of (state_in old) e in let same = ap (λ (s : State). s.front) state in omega arith }

pub later_none : (core : Core) → IsLater 0 core core
later_none core = record { config = refl; front = omega arith }

pub later_trans : (m n : ℕ) (a b c : Core) → IsLater m a b → IsLater n b c → IsLater (m + n) a c
later_trans m n a b c p q = record { config = q.config ∙ p.config; front = let one = p.front in let two = q.front in omega arith }

-- where nothing was taken in first
pub later_from : (n : ℕ) (old mid new : Core) → mid.config ≡ old.config → state_in mid ≡ state_in old → IsLater n mid new → IsLater n old new
later_from n old mid new config state p = record { config = p.config ∙ config; front = let most = p.front in let same = ap (λ (s : State). s.front) state in omega arith }

-- an event from outside is judged by how things stand
pub by_standing : (old new : Core) (e : Event) → IsFromOutside e → is_known (state_in old) e ≡ true → HasLogRoom old 1 → state_in new ≡ after (state_in old) e
    → (refusal_in old e ≡ judged (standing_in old) e) × (standing_in new ≡ standing_after (standing_in old) e)
by_standing old new e outside known room state =
    let law = judged_by_standing (state_in old) e outside known (omega arith) in
    (law.0, ap (λ (s : State). s.standing) state ∙ law.1)

-- ---- what is there

below : (n m k : ℕ) → n < m → k ≡ m → ltb n k ≡ true
below n m k lt e = lt-ltb n k (subst (λ x. n < x) (sym e) lt)

pub heard : {A : Type 0} (core : Core) (o : Observation A) → IsReadObservation (length core.config.chains) (length core.config.clients) (length core.config.paths) o
    → IsFromOutside (observed o) × (is_known (state_in core) (observed o) ≡ true)
heard core (seen.SetSeen chain x) is = (tt, below chain _ _ is (sizes_in core).books)
heard core (seen.HeaderSeen chain header) is = (tt, below chain _ _ is (sizes_in core).books)
heard core (seen.StoredSeen client height stored) is = (tt, below client _ _ is (sizes_in core).clients)
heard core (seen.Sent path sequence block timeout_height timeout_time) is = (tt, below path _ _ is (sizes_in core).paths)
heard core (seen.Received path sequence block) is = (tt, below path _ _ is (sizes_in core).paths)
heard core (seen.AckWritten path sequence block) is = (tt, below path _ _ is (sizes_in core).paths)
heard core (seen.Cleared path sequence) is = (tt, below path _ _ is (sizes_in core).paths)
heard core (seen.Closed path) is = (tt, below path _ _ is (sizes_in core).paths)

pub chain_there : (core : Core) (chain : ℕ) → chain < length core.config.chains → ltb chain (length (standing_in core).books) ≡ true
chain_there core chain lt = below chain _ _ lt (sizes_in core).books

pub client_there : (core : Core) (client : ℕ) → client < length core.config.clients → ltb client (length (standing_in core).clients) ≡ true
client_there core client lt = below client _ _ lt (sizes_in core).clients

pub path_there : (core : Core) (path : ℕ) → path < length core.config.paths → ltb path (length (standing_in core).paths) ≡ true
path_there core path lt = below path _ _ lt (sizes_in core).paths

-- views that are given

pub path_is_shown : (core : Core) (path : ℕ) → path < length core.config.paths → path_view_refusal (state_in core) path ≡ None
path_is_shown core path lt = skip (not (knows_path (state_in core) path)) UnknownObject None (not_from_true (knows_path (state_in core) path) (path_there core path lt))

pub client_is_shown : (core : Core) (client : ℕ) → client < length core.config.clients → is_some (standing_in core).window ≡ true → client_view_refusal (state_in core) client ≡ None
client_is_shown core client lt entered =
    let w = some_from (standing_in core).window entered in
    skip (not (knows_client (state_in core) client)) UnknownObject (refused_if (is_none (standing_in core).window) OutOfOrder None)
    (not_from_true (knows_client (state_in core) client) (client_there core client lt))
    ∙ ap (λ o. refused_if (is_none o) OutOfOrder None) w.1

-- ---- a scan

pub scan_fits : (core : Core) (path : ℕ) (part : Part) (v : Path) → path < length core.config.paths → HasLogRoom core 1 → path_view (standing_in core) path ≡ Some v → is_scanned (state_in core) path part ≡ false
    → (scan : Scan) → scan ≡ record { view = v; part = part } → refusal_in core (Scanned path scan) ≡ None
scan_fits core path part v lt room view not_yet scan is =
    ap (λ x. refusal_in core (Scanned path x)) is ∙ present_scans (state_in core) path part v (path_there core path lt) (omega arith) view not_yet

pub after_scan : (old new : Core) (path : ℕ) (scan : Scan) → path < length old.config.paths → refusal_in old (Scanned path scan) ≡ None → state_in new ≡ after (state_in old) (Scanned path scan)
    → IsAfterScan (state_in old) (state_in new) path scan
after_scan old new path scan lt ok state =
    subst (λ t. IsAfterScan (state_in old) t path scan) (sym state)
    (scans_last (state_in old) path scan (subst (λ n. path < n) (sym (sizes_in old).scans) lt) ok)

ok_or : {X E : Type 0} → X → Result X E → X
ok_or d (Ok x) = x
ok_or d (Err e) = d

pub from_ok : {X E : Type 0} (x y : X) → ◌≡◌ {A = Result X E} (Ok x) (Ok y) → x ≡ y
unfolding ok_or
from_ok x y e = ap (ok_or x) e

-- a scan that was offered: taken in or refused
pub keeps_offered : {X : Type 0} (o : Option X) (old new : Core) (path : ℕ) (scan : Scan) → path < length old.config.paths → IfSome o (λ _. refusal_in old (Scanned path scan) ≡ None)
    → (o ≡ None → state_in new ≡ state_in old) → state_in new ≡ after (state_in old) (Scanned path scan)
    → (p : ℕ) (part : Part) → is_scanned (state_in old) p part ≡ true → is_scanned (state_in new) p part ≡ true
keeps_offered (Some x) old new path scan lt ok same state = (after_scan old new path scan lt ok state).others
keeps_offered None old new path scan lt ok same state = λ p part is. ap (λ (s : State). is_scanned s p part) (same refl) ∙ is

pub scanned_offered : {X : Type 0} (o : Option X) (old new : Core) (path : ℕ) (scan : Scan) → path < length old.config.paths → IfSome o (λ _. refusal_in old (Scanned path scan) ≡ None)
    → state_in new ≡ after (state_in old) (Scanned path scan) → is_some o ≡ true → is_scanned (state_in new) path scan.part ≡ true
scanned_offered (Some x) old new path scan lt ok state taken = (after_scan old new path scan lt ok state).scanned
scanned_offered {X} None old new path scan lt ok state taken = let some = some_from {A = X} None taken in absurd (none-some {A = X} some.0 some.1)

pub for_both : (P : Part → Type 0) → P Packets → P Channel → (part : Part) → P part
for_both P one two Packets = one
for_both P one two Channel = two

-- ---- a window

pub goes_back_told : (s : Standing) (window : Span) → is_some (judged s (Window window)) ≡ goes_back s.window window
goes_back_told s window = go (goes_back s.window window)
  where
    go : (b : Bool) → is_some (refused_if b WindowBack None) ≡ b
    go true = refl
    go false = refl
