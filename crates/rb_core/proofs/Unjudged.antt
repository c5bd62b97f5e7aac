-- What is followed is what the core takes in.
use Rattle.std.proofs.Common.{◌≡◌, Bool, not, leb, Option, Some, None, is_none, Result, IfErr, length, refl, ap, ◌∙◌, subst}
use Rattle.std.specs.Option.{option_map_or}
use Rattle.std.proofs.lemmas.Option.{none-some}
use Rattle.std.proofs.lemmas.Result.{IfErr-weaker}
use Rattle.rb_base.specs.Window.{Span}
use Rattle.rb_script_types.specs.declared.refusal.Refusal.{Refusal}
use Rattle.rb_script_types.specs.declared.refusal.Refusal.TheVariants.{UnknownObject, LogFull, OutOfOrder}
use Rattle.rb_core.specs.Follower.{Follower, IsOfLog, Told, after_entry, entry_refusal, log_in, followed, followed_as, judged_again, refused_first, state_after, told_of}
use Rattle.rb_core_model.specs.Entry as entries
use Rattle.rb_core_model.specs.Entry.{Logged, event_of, logged_of}
use Rattle.rb_core_model.specs.Scan.{Scan}
use Rattle.rb_core_model.specs.Event.{Event, Window, HostWindow, Asked, SetSeen, HeaderSeen, StoredSeen, Sent, Received, AckWritten, Cleared, Closed, Scanned, Planned, Settled}
use Rattle.rb_core_model.specs.Invariant.{HasInvariant}
use Rattle.rb_core_model.specs.Machine.{State, is_known, knows_client, knows_path, refusal_of, refusal_beside, accepted}
use Rattle.rb_core_model.specs.Limits.{max_events}
use Rattle.rb_core_model.specs.Refusal.{refused_if}
use Rattle.rb_core_model.specs.Refused.{IsRefusal}
use Rattle.rb_core_model.specs.declared.error.CoreError.{CoreError}
use Rattle.rb_core_model.specs.declared.error.CoreError.TheVariants.{Refused, NoMemory}
use Rattle.rb_core_model.proofs.Options.{passes, chained}
use Rattle.rb_core_model.proofs.Keeping.{accepted_kept}
use Rattle.rb_core.proofs.Entries.{draft_seen, event_back, free}
use Rattle.rb_core.proofs.Rooms.{long}

-- ---- whatever is followed

entry_kept : (s : State) (x : Logged) → HasInvariant s → HasInvariant (after_entry s x)
entry_kept s x is = go (event_of s x)
  where
    go : (o : Option Event) → HasInvariant (option_map_or (accepted s) o s)
    go None = is
    go (Some e) = accepted_kept s e is

pub followed_kept : (s : State) (x : Told) → HasInvariant s → HasInvariant (followed s x)
followed_kept s x is = go x.entry x.scan
  where
    go : (entry : Logged) (o : Option Scan) → HasInvariant (followed_as s entry o)
    go (entries.whole event) o = entry_kept s (entries.whole event) is
    go (entries.scan path part) None = entry_kept s (entries.scan path part) is
    go (entries.scan path part) (Some scan) = accepted_kept s (Scanned path scan) is
    go (entries.plan client answer next) o = entry_kept s (entries.plan client answer next) is

-- ---- a follower of a log

-- it knows what is known after the log
pub known_after : (f seen : Follower) → f ≡ seen → IsOfLog seen → f.state ≡ state_after seen.past
known_after f seen same is = ap (λ (x : Follower). x.state) same ∙ is.state

-- there are as many events as were taken in
pub as_many : (f seen : Follower) → f ≡ seen → IsOfLog seen → f.state.front ≡ length (log_in seen.past).events
as_many f seen same is =
    long seen.past.config (log_in seen.past) f.state (record { state = known_after f seen same is; set_up = is.set_up; begun = is.begun; events = is.events; accepted = is.accepted })

-- ---- what is told

-- a log's entry of an event that isn't refused leaves what the event leaves
entry_back : (s : State) (e : Event) → refusal_of s e ≡ None → after_entry s (logged_of e) ≡ accepted s e
entry_back s e none = ap (λ (o : Option Event). option_map_or (accepted s) o s) (event_back s e (free s e none).beside)

-- so does what is told of it
pub told_back : (s : State) (e : Event) → refusal_of s e ≡ None → followed s (told_of e) ≡ accepted s e
told_back s (Scanned path scan) none = refl
told_back s (Window window) none = entry_back s (Window window) none
told_back s (HostWindow host window) none = entry_back s (HostWindow host window) none
told_back s (Asked client goal) none = entry_back s (Asked client goal) none
told_back s (SetSeen chain x) none = entry_back s (SetSeen chain x) none
told_back s (HeaderSeen chain header) none = entry_back s (HeaderSeen chain header) none
told_back s (StoredSeen client height r) none = entry_back s (StoredSeen client height r) none
told_back s (Sent path sequence block timeout_height timeout_time) none = entry_back s (Sent path sequence block timeout_height timeout_time) none
told_back s (Received path sequence block) none = entry_back s (Received path sequence block) none
told_back s (AckWritten path sequence block) none = entry_back s (AckWritten path sequence block) none
told_back s (Cleared path sequence) none = entry_back s (Cleared path sequence) none
told_back s (Closed path) none = entry_back s (Closed path) none
told_back s (Planned d) none = entry_back s (Planned d) none
told_back s (Settled client number done) none = entry_back s (Settled client number done) none

-- ---- what is taken in

-- where nothing is refused first, what comes next decides
next_decides : (s : State) (state : Bool) (a b : Option Refusal) → refused_first s state a ≡ None → b ≡ None → refused_first s state b ≡ None
next_decides s state a b none next =
    let first = passes (not state) UnknownObject _ none in
    let second = passes (leb max_events s.front) LogFull a first.1 in
    (λ i. refused_if (first.0 i) UnknownObject (refused_if (second.0 i) LogFull (next i)))

-- a window was entered where a client is shown
entered : (o : Option Span) → (w : Span) → o ≡ Some w → refused_if (is_none o) OutOfOrder None ≡ None
entered o w e = ap (λ (x : Option Span). refused_if (is_none x) OutOfOrder None) e

-- what the core accepts is taken in
again_free : (s : State) (e : Event) → judged_again s.standing e ≡ None → refusal_of s e ≡ None → refused_first s (is_known s e) (judged_again s.standing e) ≡ None
again_free s e again none = next_decides s (is_known s e) (refusal_beside s e) (judged_again s.standing e) none again

beside_free : (s : State) (e : Event) → refusal_of s e ≡ None → refusal_beside s e ≡ None
beside_free s e none = (free s e none).beside

pub told_free : (s : State) (e : Event) → refusal_of s e ≡ None → entry_refusal s (logged_of e) ≡ None
told_free s (Window window) none = again_free s (Window window) (beside_free s (Window window) none) none
told_free s (HostWindow host window) none = again_free s (HostWindow host window) (beside_free s (HostWindow host window) none) none
told_free s (Asked client goal) none = again_free s (Asked client goal) refl none
told_free s (SetSeen chain x) none = again_free s (SetSeen chain x) (beside_free s (SetSeen chain x) none) none
told_free s (HeaderSeen chain header) none = again_free s (HeaderSeen chain header) (beside_free s (HeaderSeen chain header) none) none
told_free s (StoredSeen client height r) none = again_free s (StoredSeen client height r) (beside_free s (StoredSeen client height r) none) none
told_free s (Sent path sequence block timeout_height timeout_time) none =
    let e = Sent path sequence block timeout_height timeout_time in again_free s e (beside_free s e none) none
told_free s (Received path sequence block) none = again_free s (Received path sequence block) refl none
told_free s (AckWritten path sequence block) none = again_free s (AckWritten path sequence block) refl none
told_free s (Cleared path sequence) none = again_free s (Cleared path sequence) refl none
told_free s (Closed path) none = again_free s (Closed path) (beside_free s (Closed path) none) none
told_free s (Scanned path scan) none = next_decides s (knows_path s path) (refusal_beside s (Scanned path scan)) None none refl
told_free s (Planned d) none =
    let shown = chained _ s.standing.window d.job (draft_seen s d (beside_free s (Planned d) none)) in
    next_decides s (knows_client s d.job.client) (refusal_beside s (Planned d)) _ none (entered s.standing.window shown.0 shown.1)
told_free s (Settled client number done) none = again_free s (Settled client number done) (beside_free s (Settled client number done) none) none

-- an error of what isn't refused
no_memory : (e : CoreError) → IsRefusal e None → e ≡ NoMemory
no_memory NoMemory is = refl
no_memory (Refused refusal) is = absurd (none-some refusal is)

pub only_memory : {T : Type 0} (r : Result T CoreError) (s : State) (x : Told) (e : Event) → IfErr r (λ error. IsRefusal error (entry_refusal s x.entry)) → refusal_of s e ≡ None → x ≡ told_of e
    → IfErr r (λ error. error ≡ NoMemory)
only_memory r s x e refused none is =
    let due : entry_refusal s x.entry ≡ None = ap (λ (y : Told). entry_refusal s y.entry) is ∙ told_free s e none in
    IfErr-weaker r (λ error. IsRefusal error (entry_refusal s x.entry)) (λ error. error ≡ NoMemory)
    (λ error here. no_memory error (subst (IsRefusal error) due here)) refused
