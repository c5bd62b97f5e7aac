-- In how few turns packets make a client update (own choice, over what a script's turns report).
use Rattle.std.specs.Prelude.{◌≡◌, ℕ, ◌==◌, ◌<◌, ◌≤◌, nat_le, Bool, true, false, not, IsTrue, ◌&&◌, List, [], ◌∷◌, length, map, filter, Option, Some, is_some, slice_get}
use Rattle.std.specs.List.{flat_map, list_any, range_with_len}
use Rattle.std.specs.Option.{option_map_or, option_and_then}
use Rattle.rb_scan.specs.Owed.{ready_beyond, same_kind}
use Rattle.rb_scan.specs.declared.message.Kind.{Kind}
use Rattle.rb_scan.specs.declared.message.PacketMsg.{PacketMsg}
use Rattle.rb_script_types.specs.declared.script.Settlement.{Settlement}
use Rattle.rb_super.specs.Seen.{Seen, message_of}
use Rattle.rb_super.specs.Waiting.{IsPunctual}
use Rattle.rb_plan_client.specs.Task.{PathTask, Task, Message, ready_messages, near_reach, press_moment, presses, going_on}
use Rattle.rb_core_model.specs.Standing.{OpenBatch, ClientState, Standing, opening_standing, open_batch}
use Rattle.rb_super_turn.specs.Report.{SendingReport, nothing, too_big, batched, PlanReport, Outcome, held, idle, planned, ClientReport, Report}
use Rattle.rb_super_turn.specs.Script.{Turn, Script, IsScript}
use Rattle.rb_super_turn.specs.Turns.{after_plans, after_settlement, after_turn, IsReportOf}
use Rattle.rb_super.specs.InTime.{IsPlannedIn}

-- ---- one client, turn by turn

-- a client as a turn plans for it, what the turn reports of it, its task, and the greatest height that it can be brought to
pub record ClientTurn : Type 0 where
  pub client : ClientState
  pub report : ClientReport
  pub task : Task
  pub reach : Option ℕ

-- the client at a place in each of the turns, where the turns before it leave this standing
abbrev pub AreTurnsOf : ℕ → Standing → List Turn → Report → List ClientTurn → Type 0
AreTurnsOf place s [] rs [] = Unit {0}
AreTurnsOf place s [] rs (k ∷ ks) = ⊥
AreTurnsOf place s (turn ∷ turns) [] ks = ⊥
AreTurnsOf place s (turn ∷ turns) (r ∷ rs) [] = ⊥
AreTurnsOf place s (turn ∷ turns) (r ∷ rs) (k ∷ ks) =
    IsPlannedIn s turn r place k.client k.report k.task k.reach × AreTurnsOf place (after_turn s turn r) turns rs ks

-- the client at a place in each turn of a script
pub record IsRun (script : Script) (report : Report) (place : ℕ) (ks : List ClientTurn) : Type 0 where
  pub is_script : IsScript script
  pub is_report : IsReportOf script report
  pub turns : AreTurnsOf place (opening_standing script.config) script.turns report ks

-- whether the turn with a number passes a test
abbrev pub in_turn : List ClientTurn → (ClientTurn → Bool) → ℕ → Bool
in_turn ks test turn = option_map_or test (slice_get ks turn) false

-- ---- messages

-- a message by its path's place, its kind and its packet's sequence
pub record MessageId : Type 0 where
  pub path : ℕ
  pub kind : Kind
  pub sequence : ℕ

abbrev pub id_on : PathTask → PacketMsg → MessageId
id_on p m = record { path = p.path; kind = m.kind; sequence = m.sequence }

-- whether a message of the path at a place is that message
abbrev pub has_id : MessageId → ℕ → PacketMsg → Bool
has_id i path m = (path == i.path) && same_kind m.kind i.kind && (m.sequence == i.sequence)

-- the messages of a path that only an update brings across
abbrev pub far_on : ClientTurn → PathTask → List PacketMsg
far_on k p = ready_beyond (going_on k.task p) p.order (near_reach k.task) k.reach

-- the message is one of them
abbrev pub is_far : MessageId → ClientTurn → Bool
is_far i k = list_any (λ (p : PathTask). list_any (has_id i p.path) (far_on k p)) k.task.paths

-- the client's open batch has the message
abbrev pub is_in_batch : MessageId → ClientTurn → Bool
is_in_batch i k = option_map_or (λ (b : OpenBatch). list_any (λ (m : Message). has_id i m.path m.packet) b.messages) k.client.batch false

-- the message is ready: only an update brings it across, and no open batch has it
abbrev pub is_ready : MessageId → ClientTurn → Bool
is_ready i k = is_far i k && not (is_in_batch i k)

-- a message of a path presses by the end of the window
abbrev pub presses_on : ClientTurn → PathTask → PacketMsg → Bool
presses_on k p m = option_map_or (λ moment. nat_le moment k.task.window.until) (press_moment k.task p.waits m) false

abbrev pub is_pressing : MessageId → ClientTurn → Bool
is_pressing i k = list_any (λ (p : PathTask). list_any (λ (m : PacketMsg). has_id i p.path m && presses_on k p m) (far_on k p)) k.task.paths

-- in which turns the message is ready, and in which it presses
abbrev pub seen_of : List ClientTurn → MessageId → Seen
seen_of ks i = record { ready = in_turn ks (is_ready i); pressing = in_turn ks (is_pressing i) }

-- the same of each message that only an update brings across in some turn
abbrev pub far_ids : ClientTurn → List MessageId
far_ids k = flat_map (λ (p : PathTask). map (id_on p) (far_on k p)) k.task.paths

abbrev pub all_seen : List ClientTurn → List Seen
all_seen ks = map (seen_of ks) (flat_map far_ids ks)

-- a choice of turns keeps every deadline: for each message that presses in some turn while it is ready, the choice has a turn from the
-- first in which the message is ready to the first in which it presses
abbrev pub KeepsDeadlines : List ClientTurn → List ℕ → Type 0
KeepsDeadlines ks choice = IsPunctual (length ks) (map (message_of (length ks)) (all_seen ks)) choice

-- ---- updates

-- a batch is opened
abbrev pub is_batched : SendingReport → Bool
is_batched nothing = false
is_batched (too_big index) = false
is_batched (batched b) = true

abbrev pub opens_batch : Outcome → Bool
opens_batch (held number) = false
opens_batch (idle next) = false
opens_batch (planned a) = option_map_or (λ (p : PlanReport). is_batched p.sending) a.plan false

-- packets make the client update: it was asked for no goal, a message presses that only an update brings across, and a batch is opened,
-- which has updates then (`Updates`)
abbrev pub is_update : ClientTurn → Bool
is_update k = not (is_some k.client.asked) && (presses k.task k.reach && opens_batch k.report.outcome)

-- the turns in which they do
abbrev pub update_turns : List ClientTurn → List ℕ
update_turns ks = filter (in_turn ks is_update) (range_with_len 0 (length ks))

-- ---- what the law asks for

-- a settlement of the client's open batch takes all its transactions
abbrev pub IsWholeFor : ℕ → Standing → Settlement → Type 0
IsWholeFor client s x =
    x.client ≡ client → (b : OpenBatch) → option_and_then (λ (c : ClientState). open_batch c x.batch) (slice_get s.clients client) ≡ Some b → length b.transactions ≤ x.done

abbrev pub AreWholeFor : ℕ → Standing → List Settlement → Type 0
AreWholeFor client s [] = Unit {0}
AreWholeFor client s (x ∷ xs) = IsWholeFor client s x × AreWholeFor client (after_settlement s x) xs

-- so it is in each of the turns: no batch of the client is settled in part (what a turn takes it takes whole)
abbrev pub SettlesWhole : ℕ → Standing → List Turn → Report → Type 0
SettlesWhole client s [] rs = Unit {0}
SettlesWhole client s (turn ∷ turns) [] = Unit {0}
SettlesWhole client s (turn ∷ turns) (r ∷ rs) =
    AreWholeFor client (after_plans s turn r) turn.settlements × SettlesWhole client (after_turn s turn r) turns rs

-- the message can be brought across, with an update or with none
abbrev pub is_within_reach : MessageId → ClientTurn → Bool
is_within_reach i k = list_any (λ (m : Message). has_id i m.path m.packet) (ready_messages k.task k.reach)

-- a message that is ready in a turn before an update and in one after it can be brought across at that update: it is owed there too, and
-- within reach
abbrev pub StaysReady : List ClientTurn → Type 0
StaysReady ks =
    (i : MessageId) (before update after : ℕ) → before < update → update < after
    → IsTrue (in_turn ks (is_ready i) before) → IsTrue (in_turn ks is_update update) → IsTrue (in_turn ks (is_ready i) after)
    → IsTrue (in_turn ks (is_within_reach i) update)

-- ---- the law

-- of a client whose batches are settled whole, and whose messages stay ready: no choice that keeps every deadline has fewer turns than
-- those in which packets make the client update
abbrev pub UpdatesAreFewest : Type 0
UpdatesAreFewest =
    (script : Script) (report : Report) (place : ℕ) (ks : List ClientTurn) (choice : List ℕ) → IsRun script report place ks
    → SettlesWhole place (opening_standing script.config) script.turns report → StaysReady ks
    → KeepsDeadlines ks choice → length (update_turns ks) ≤ length choice
