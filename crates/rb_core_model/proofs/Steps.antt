-- Laws of single events.
use Rattle.std.proofs.Common.{◌≡◌, length, None, is_some, refl, sym, ap, ◌∙◌, subst, if◌then◌else◌}
use Rattle.std.specs.List.{slice_get}
use Rattle.std.specs.Option.{option_map}
use Rattle.std.proofs.lemmas.Bool.{lt-ltb}
use Rattle.std.proofs.lemmas.Option.{same_Some, slice_get_within}
use Rattle.rb_script_types.specs.Config.{Config}
use Rattle.rb_core_model.specs.Event.{Event, Window, HostWindow, Asked, SetSeen, HeaderSeen, StoredSeen, Sent, Received, AckWritten, Cleared, Closed, Scanned, Planned, Settled}
use Rattle.rb_core_model.specs.Machine.{State, Reply, is_scanned, job_of, refusal_beside, refusal_of, reply_of, accepted, after, state_of}
use Rattle.rb_core_model.specs.Snapshot.{Log}
use Rattle.rb_core_model.specs.Standing.{judged}
use Rattle.rb_core_model.specs.Steps.{IsFromOutside, JudgedByStanding, PresentScansAreAccepted, IsAfterScan, ScansLast, PresentDraftsAreAccepted, AcceptedDraftsAreOfTheMoment}
use Rattle.rb_core_model.proofs.Accepted.{open_to, standing_of, scan_ok, now_scanned, still_scanned, draft_ok}
use Rattle.rb_core_model.proofs.Drafted.{drafted}
use Rattle.rb_core_model.proofs.Options.{mapped, chained}

beside : (s : State) (e : Event) → IsFromOutside e → refusal_beside s e ≡ judged s.standing e
beside s (Window window) is = refl
beside s (HostWindow host window) is = refl
beside s (Asked client goal) is = refl
beside s (SetSeen chain x) is = refl
beside s (HeaderSeen chain header) is = refl
beside s (StoredSeen client height r) is = refl
beside s (Sent path sequence block timeout_height timeout_time) is = refl
beside s (Received path sequence block) is = refl
beside s (AckWritten path sequence block) is = refl
beside s (Cleared path sequence) is = refl
beside s (Closed path) is = refl
beside s (Scanned path scan) is = absurd is
beside s (Planned d) is = absurd is
beside s (Settled client number done) is = refl

pub judged_by_standing : JudgedByStanding
judged_by_standing s e outside known room =
    let same = open_to s e known room ∙ beside s e outside in
    (same, standing_of s e same)

pub present_scans : PresentScansAreAccepted
present_scans s path part v known room is not_yet = scan_ok s path part v known room is not_yet

next_of : (s : State) (e : Event) → refusal_of s e ≡ None → after s e ≡ accepted s e
next_of s e ok = ap (λ o. if is_some o then s else accepted s e) ok

pub scans_last : ScansLast
scans_last s path scan lt ok =
    let next = next_of s (Scanned path scan) ok in
    subst (λ t. IsAfterScan s t path scan) (sym next) (record { standing = refl; scanned = now_scanned s path scan lt ok; others = still_scanned s path scan lt ok })

pub present_drafts : PresentDraftsAreAccepted
present_drafts s client c d room view at not_held all =
    let w = chained (λ window. option_map (job_of s client window) (slice_get s.standing.clients client)) s.standing.window d.job view in
    let k = mapped (job_of s client w.0) (slice_get s.standing.clients client) d.job w.2 in
    let same : k.0 ≡ c = same_Some k.0 c (sym k.1 ∙ at) in
    (draft_ok s client w.0 c d (lt-ltb client (length s.standing.clients) (slice_get_within s.standing.clients client c at)) room w.1 at not_held all
    (sym k.2 ∙ ap (job_of s client w.0) same)).1

pub of_the_moment : AcceptedDraftsAreOfTheMoment
of_the_moment s d ok =
    let x = drafted s d ok in
    let next = next_of s (Planned d) ok in
    record {
      window = x.window;
      known = x.known;
      is_window = x.is_window;
      is_known = x.is_known;
      none_open = x.none_open;
      task = x.task;
      standing = ap (λ (t : State). t.standing) next;
      scans = λ p part. ap (λ (t : State). is_scanned t p part) next;
    }

-- a reply to an event, where all that it speaks of is known by other names
pub replies : (reply : Reply) (old_config config : Config) (old_log log : Log) (old_event event : Event)
    → reply ≡ reply_of (state_of old_config old_log) old_event → old_config ≡ config → old_log ≡ log → old_event ≡ event → reply ≡ reply_of (state_of config log) event
replies reply old_config config old_log log old_event event is to_config to_log to_event =
    is ∙ (λ i. reply_of (state_of (to_config i) (to_log i)) (to_event i))
