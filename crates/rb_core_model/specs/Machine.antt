-- The relayer as a machine over events: which it refuses, what it replies, and its state.
use Rattle.std.specs.Prelude.{ℕ, suc, Bool, true, false, not, ◌&&◌, nat_lt, nat_le, List, [], length, replicate, fold, Option, Some, None, is_some, is_none, slice_get, slice_index_or, slice_set, if◌then◌else◌}
use Rattle.std.specs.List.{list_any, enumerate_from}
use Rattle.std.specs.Option.{option_map, option_map_or, option_and_then}
use Rattle.rb_base.specs.Window.{Span}
use Rattle.rb_scan.specs.Path.{Path}
use Rattle.rb_scan.specs.Same.{same_path}
use Rattle.rb_scan.specs.declared.message.PacketMsg.{PacketMsg}
use Rattle.rb_base.specs.declared.gate.Part.{Part}
use Rattle.rb_base.specs.declared.gate.Part.TheVariants.{Packets, Channel}
use Rattle.rb_script_types.specs.Config.{Config}
use Rattle.rb_core_model.specs.Config.{part_for}
use Rattle.rb_plan_client.specs.Draft.{Job, Draft}
use Rattle.rb_core_model.specs.Event.{Event, Window, HostWindow, Asked, SetSeen, HeaderSeen, StoredSeen, Sent, Received, AckWritten, Cleared, Closed, Scanned, Planned, Settled}
use Rattle.rb_core_model.specs.Scan.{Scan}
use Rattle.rb_script_types.specs.declared.refusal.Refusal.{Refusal}
use Rattle.rb_script_types.specs.declared.refusal.Refusal.TheVariants.{UnknownObject, Stale, Busy, Repeat, OutOfOrder, NotOwed, LogFull}
use Rattle.rb_core_model.specs.Limits.{max_events}
use Rattle.rb_core_model.specs.Refusal.{refused_if}
use Rattle.rb_plan_client.specs.Same.{same_job}
use Rattle.rb_core_model.specs.Snapshot.{Snapshot, Log, nothing, standing_from}
use Rattle.rb_core_model.specs.Standing.{OpenBatch, ClientState, PathState, Standing, path_view, owed_at, path_tasks, task_of, judged, changed, batch_opened}

-- each part of a path as it was last scanned
pub record Scans : Type 0 where
  pub packets : Option Path
  pub channel : Option Path

-- how things stand, the number of each client's next plan, each path's scans, and how many events were taken in
pub record State : Type 0 where
  pub standing : Standing
  pub plans : List ℕ
  pub scans : List Scans
  pub front : ℕ

abbrev pub no_scans : Scans
no_scans = record { packets = None; channel = None }

-- the state of a relayer that begins with what was known before: no plan was made, nothing was scanned, and no event was taken in
abbrev pub begun : Config → Snapshot → State
begun c start = record {
  standing = standing_from c start;
  plans = replicate (length c.clients) 0;
  scans = replicate (length c.paths) no_scans;
  front = 0;
}

abbrev pub opening : Config → State
opening c = begun c nothing

-- ---- scans

abbrev pub scan_of : Scans → Part → Option Path
scan_of s Packets = s.packets
scan_of s Channel = s.channel

abbrev pub with_scan : Path → Part → Scans → Scans
with_scan v Packets s = record s { packets = Some v }
with_scan v Channel s = record s { channel = Some v }

-- whether a path is still as it was seen
abbrev pub is_view : State → ℕ → Path → Bool
is_view s path v = option_map_or (same_path v) (path_view s.standing path) false

-- a part of a path has a valid scan: it was scanned as the path is still
abbrev pub is_scanned : State → ℕ → Part → Bool
is_scanned s path part = option_map_or (is_view s path) (scan_of (slice_index_or s.scans path no_scans) part) false

-- both parts of each path of a client have one
abbrev pub is_missed : State → ℕ → ℕ × PathState → Bool
is_missed s client (place, p) = is_some (part_for p.config client) && not (is_scanned s place Packets && is_scanned s place Channel)

abbrev pub all_scanned : State → ℕ → Bool
all_scanned s client = not (list_any (is_missed s client) (enumerate_from 0 s.standing.paths))

-- ---- a client as a worker sees it

-- what a part of a path is seen to owe: nothing where it has no valid scan
abbrev pub seen_owed : State → ℕ → Part → List PacketMsg
seen_owed s path part = if is_scanned s path part then owed_at s.standing path part else []

abbrev pub plan_number : State → ℕ → ℕ
plan_number s client = slice_index_or s.plans client 0

abbrev pub job_of : State → ℕ → Span → ClientState → Job
job_of s client window c = record {
  client = client;
  task = task_of window s.standing.books (path_tasks (seen_owed s) s.standing.paths client) c;
  plan = plan_number s client;
  held = is_some c.batch;
}

-- none before the first common window
abbrev pub client_view : State → ℕ → Option Job
client_view s client =
    option_and_then (λ window. option_map (job_of s client window) (slice_get s.standing.clients client)) s.standing.window

-- ---- why an event is refused

abbrev pub knows_chain : State → ℕ → Bool
knows_chain s chain = nat_lt chain (length s.standing.books)

abbrev pub knows_client : State → ℕ → Bool
knows_client s client = nat_lt client (length s.standing.clients)

abbrev pub knows_path : State → ℕ → Bool
knows_path s path = nat_lt path (length s.standing.paths)

-- why a client isn't shown: there is none at this place, or no window was entered yet
abbrev pub client_view_refusal : State → ℕ → Option Refusal
client_view_refusal s client =
    refused_if (not (knows_client s client)) UnknownObject (
    refused_if (is_none s.standing.window) OutOfOrder None)

-- why a path isn't shown
abbrev pub path_view_refusal : State → ℕ → Option Refusal
path_view_refusal s path = refused_if (not (knows_path s path)) UnknownObject None

-- the chain, client or path of an event is there
abbrev pub is_known : State → Event → Bool
is_known s (Window window) = true
is_known s (HostWindow host window) = knows_chain s host
is_known s (Asked client goal) = knows_client s client
is_known s (SetSeen chain set) = knows_chain s chain
is_known s (HeaderSeen chain header) = knows_chain s chain
is_known s (StoredSeen client height r) = knows_client s client
is_known s (Sent path sequence block timeout_height timeout_time) = knows_path s path
is_known s (Received path sequence block) = knows_path s path
is_known s (AckWritten path sequence block) = knows_path s path
is_known s (Cleared path sequence) = knows_path s path
is_known s (Closed path) = knows_path s path
is_known s (Scanned path scan) = knows_path s path
is_known s (Planned d) = knows_client s d.job.client
is_known s (Settled client number done) = knows_client s client

-- a scan is of the path as it is, and is taken once
abbrev pub scan_refusal : State → ℕ → Scan → Option Refusal
scan_refusal s path scan =
    refused_if (not (is_view s path scan.view)) (Stale s.front) (
    refused_if (is_scanned s path scan.part) Repeat None)

abbrev pub is_held : State → ℕ → Bool
is_held s client = option_map_or (λ (c : ClientState). is_some c.batch) (slice_get s.standing.clients client) false

abbrev pub is_job : State → Job → Bool
is_job s job = option_map_or (same_job job) (client_view s job.client) false

-- a draft is the client's next plan, no batch of its is open, all that it is owed is known, and its job is as it was
abbrev pub draft_refusal : State → Draft → Option Refusal
draft_refusal s d =
    refused_if (nat_lt d.job.plan (plan_number s d.job.client)) Repeat (
    refused_if (nat_lt (plan_number s d.job.client) d.job.plan) OutOfOrder (
    refused_if (is_held s d.job.client) Busy (
    refused_if (not (all_scanned s d.job.client)) NotOwed (
    refused_if (not (is_job s d.job)) (Stale s.front) None))))

abbrev pub refusal_beside : State → Event → Option Refusal
refusal_beside s (Scanned path scan) = scan_refusal s path scan
refusal_beside s (Planned d) = draft_refusal s d
refusal_beside s event = judged s.standing event

-- the first reason that applies
abbrev pub refusal_of : State → Event → Option Refusal
refusal_of s event =
    refused_if (not (is_known s event)) UnknownObject (
    refused_if (nat_le max_events s.front) LogFull (refusal_beside s event))

-- ---- what an event leaves, and the reply

abbrev pub plans_after : State → Event → List ℕ
plans_after s (Planned d) = slice_set s.plans d.job.client (suc (plan_number s d.job.client))
plans_after s event = s.plans

abbrev pub scans_after : State → Event → List Scans
scans_after s (Scanned path scan) = slice_set s.scans path (with_scan scan.view scan.part (slice_index_or s.scans path no_scans))
scans_after s event = s.scans

-- the state after an event that is not refused
abbrev pub accepted : State → Event → State
accepted s event = record {
  standing = changed s.standing event;
  plans = plans_after s event;
  scans = scans_after s event;
  front = suc s.front;
}

-- one that is refused changes nothing
abbrev pub after : State → Event → State
after s event = if is_some (refusal_of s event) then s else accepted s event

pub data Reply : Type 0 where
  Noted : Reply
  Opened : ℕ → Reply

abbrev pub reply_for : Option OpenBatch → Reply
reply_for None = Noted
reply_for (Some b) = Opened b.number

-- the batch that a draft opens
abbrev pub batch_for : State → Draft → Option OpenBatch
batch_for s d = option_and_then (λ c. batch_opened c d.answer) (slice_get s.standing.clients d.job.client)

-- the reply to an event that is not refused
abbrev pub reply_of : State → Event → Reply
reply_of s (Planned d) = reply_for (batch_for s d)
reply_of s event = Noted

-- the state that a log leads to
abbrev pub state_of : Config → Log → State
state_of c log = fold after (begun c log.start) log.events
