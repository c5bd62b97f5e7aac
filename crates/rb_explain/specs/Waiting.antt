-- The packet messages that are owed to a client and not sent (ICS 4; when they go: own choice).
use Rattle.std.specs.Prelude.{◌≡◌, ℕ, Bool, false, ◌&&◌, is_none, List, [], ◌∷◌, map, Option, Some, None, ◌⊎◌, if◌then◌else◌}
use Rattle.std.specs.List.{enumerate_from, flat_map}
use Rattle.std.specs.Option.{option_map_or}
use Rattle.rb_plan_client.specs.Task.{Message, PathTask, Task, bars_of, press_moment}
use Rattle.rb_scan.specs.Going.{can_go, is_barred, is_going, is_late}
use Rattle.rb_scan.specs.Owed.{is_ready}
use Rattle.rb_script_types.specs.declared.config.RefreshTo.{RefreshTo}
use Rattle.rb_script_types.specs.declared.config.RefreshTo.TheVariants.{Lowest, Highest, Newer}
use Rattle.rb_scan.specs.declared.message.PacketMsg.{PacketMsg}
use Rattle.rb_super_turn.specs.Report.{Outcome, PlanReport, held, idle, planned}
use Rattle.rb_explain.specs.declared.stays.Stay.{Stay}
use Rattle.rb_explain.specs.declared.stays.Stay.TheVariants.{TooBig, Late, Behind}
use Rattle.rb_explain.specs.declared.waiting.WaitingMessage.{WaitingMessage}

-- why the message at a place of what a path owes can't go, by how the client is refreshed: by gain it is over the gas limit alone, or else a
-- receive whose timeout time comes by the end of the window (ICS 4, recvPacket), or else behind one of its kind on an ORDERED path that can't go
abbrev pub stay_by : Task → PathTask → ℕ → PacketMsg → RefreshTo → Option Stay
stay_by t p place m Lowest = None
stay_by t p place m Highest = None
stay_by t p place m Newer =
    if is_barred (bars_of t p) m.kind then Some TooBig
    else if is_late t.window.until m then Some Late
    else if is_going p.order (can_go (bars_of t p)) p.owed place m then None
    else Some Behind

abbrev pub stay_at : Task → PathTask → ℕ → PacketMsg → Option Stay
stay_at t p place m = stay_by t p place m t.config.refresh_to

-- that message is proved, and all that goes before it, where this is the greatest height that the client can be brought to
abbrev pub is_proved_at : PathTask → Option ℕ → ℕ → PacketMsg → Bool
is_proved_at p None place m = false
is_proved_at p (Some reach) place m = is_ready p.order reach p.owed place m

-- it is ready where it can go, too
abbrev pub is_ready_at : Task → PathTask → Option ℕ → ℕ → PacketMsg → Bool
is_ready_at t p reach place m = is_none (stay_at t p place m) && is_proved_at p reach place m

-- that message as it is told: with the moment from which on it presses, where it is ready, and with what keeps it, where it can't go
abbrev pub owed_message : Task → Option ℕ → PathTask → ℕ → PacketMsg → WaitingMessage
owed_message t reach p place m = record {
  path = p.path;
  packet = m;
  presses = if is_ready_at t p reach place m then press_moment t p.waits m else None;
  stays = stay_at t p place m;
}

-- all that a path owes, in its order
abbrev pub owed_on : Task → Option ℕ → PathTask → List WaitingMessage
owed_on t reach p = map (λ (k : ℕ × PacketMsg). owed_message t reach p k.0 k.1) (enumerate_from 0 p.owed)

-- all that is owed to the client, path after path
abbrev pub owed_messages : Task → Option ℕ → List WaitingMessage
owed_messages t reach = flat_map (owed_on t reach) t.paths

-- what an outcome sends
abbrev pub sent_in : Outcome → List Message
sent_in (held number) = []
sent_in (idle next) = []
sent_in (planned p) = option_map_or (λ (q : PlanReport). q.messages) p.plan []

-- a message is the one that is sent
pub record IsSent (w : WaitingMessage) (x : Message) : Type 0 where
  pub path : w.path ≡ x.path
  pub packet : w.packet ≡ x.packet

-- of owed messages these are sent, and those are left, all in their order
pub data IsLeft : List WaitingMessage → List Message → List WaitingMessage → Type 0 where
  none : IsLeft [] [] []
  sent : {w : WaitingMessage} {x : Message} {owed left : List WaitingMessage} {xs : List Message} → IsSent w x → IsLeft owed xs left → IsLeft (w ∷ owed) (x ∷ xs) left
  left : {w : WaitingMessage} {owed left : List WaitingMessage} {xs : List Message} → IsLeft owed xs left → IsLeft (w ∷ owed) xs (w ∷ left)

-- what waits beside an outcome: all that is owed and not sent, but nothing while a batch is open
abbrev pub IsWaiting : Task → Outcome → Option ℕ → List WaitingMessage → Type 0
IsWaiting t (held number) reach waiting = waiting ≡ []
IsWaiting t (idle next) reach waiting = IsLeft (owed_messages t reach) [] waiting
IsWaiting t (planned p) reach waiting = IsLeft (owed_messages t reach) (sent_in (planned p)) waiting

-- ---- (internal) what is sent stands among what is owed, in its order

abbrev pub AreAmong : List Message → List WaitingMessage → Type 0
AreAmong xs [] = xs ≡ []
AreAmong [] (w ∷ owed) = Unit {0}
AreAmong (x ∷ xs) (w ∷ owed) = (IsSent w x × AreAmong xs owed) ⊎ AreAmong (x ∷ xs) owed

-- a message is the first one that is sent, and these are behind it; or it isn't
abbrev pub IsSentFirst : WaitingMessage → List Message → Option (List Message) → Type 0
IsSentFirst w [] rest = rest ≡ None
IsSentFirst w (x ∷ xs) None = IsSent w x → ⊥
IsSentFirst w (x ∷ xs) (Some rest) = (rest ≡ xs) × IsSent w x
