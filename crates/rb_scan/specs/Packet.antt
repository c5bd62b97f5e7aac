-- what is known of a packet (ICS 4)
use Rattle.std.specs.Prelude.{ℕ, Bool, Option, is_some, not, ◌||◌}

-- the block that sent it and its time where it is told, the height and time of the destination at which it expires, the blocks where it was
-- seen received and its acknowledgement seen written, the latter with its time where it is told, and three marks: seen cleared, receive settled,
-- acknowledgement or timeout settled
pub record Packet : Type 0 where
  pub sequence : ℕ
  pub sent : ℕ
  pub sent_time : Option ℕ
  pub timeout_height : Option ℕ
  pub timeout_time : Option ℕ
  pub received : Option ℕ
  pub written : Option ℕ
  pub written_time : Option ℕ
  pub cleared : Bool
  pub receive_settled : Bool
  pub outcome_settled : Bool

-- the receive is finished: seen received, seen cleared, or settled
abbrev pub is_finished : Packet → Bool
is_finished p = is_some p.received || p.cleared || p.receive_settled

-- seen cleared, or its acknowledgement or timeout settled
abbrev pub is_cleared : Packet → Bool
is_cleared p = p.cleared || p.outcome_settled

-- sent, its receive not finished, and not cleared
abbrev pub is_in_flight : Packet → Bool
is_in_flight p = not (is_finished p || is_cleared p)
