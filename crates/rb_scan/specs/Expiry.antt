-- when a packet has expired, and from which height on that can be proved (ICS 4, timeouts: equality expires; own choice: the lesser height, and that a packet with no timeout, which ICS 4 refuses to send, is accepted and never expires)
use Rattle.std.specs.Prelude.{ℕ, ◌-◌, Bool, false, ◌||◌, nat_le, List, length, find, Option, Some, None, is_some, min, slice_get, if◌then◌else◌}
use Rattle.std.specs.Option.{option_map}
use Rattle.rb_scan.specs.Packet.{Packet}

-- the top of a chain: the greatest of its known records, which are heights and times that rise, so the last of them
abbrev pub top : List (ℕ × ℕ) → Option (ℕ × ℕ)
top records = slice_get records (length records - 1)

-- a limit has come where it is given and the present is at it or past it
abbrev pub has_come : Option ℕ → Option ℕ → Bool
has_come None now = false
has_come (Some limit) None = false
has_come (Some limit) (Some now) = nat_le limit now

-- the packet has expired by its timeout height, by its timeout time, by either, at the destination's top
abbrev pub is_height_expired : List (ℕ × ℕ) → Packet → Bool
is_height_expired records p = has_come p.timeout_height (option_map (λ (r : ℕ × ℕ). r.0) (top records))

abbrev pub is_time_expired : List (ℕ × ℕ) → Packet → Bool
is_time_expired records p = has_come p.timeout_time (option_map (λ (r : ℕ × ℕ). r.1) (top records))

abbrev pub is_expired : List (ℕ × ℕ) → Packet → Bool
is_expired records p = is_height_expired records p || is_time_expired records p

-- the timeout height, if it is what expired
abbrev pub height_floor : List (ℕ × ℕ) → Packet → Option ℕ
height_floor records p = if is_height_expired records p then p.timeout_height else None

-- the least known height whose time is at least the timeout time, if that expired
abbrev pub time_floor : List (ℕ × ℕ) → Packet → Option ℕ
time_floor records p =
    if is_time_expired records p
    then option_map (λ (r : ℕ × ℕ). r.0) (find (λ (r : ℕ × ℕ). has_come p.timeout_time (Some r.1)) records)
    else None

-- the lesser of two numbers, or the only one
abbrev pub lesser : Option ℕ → Option ℕ → Option ℕ
lesser None b = b
lesser (Some a) None = Some a
lesser (Some a) (Some b) = Some (min a b)

abbrev pub timeout_floor : List (ℕ × ℕ) → Packet → Option ℕ
timeout_floor records p = lesser (height_floor records p) (time_floor records p)

-- the moment from which on the packet may have expired by what is told when it is sent: its timeout time; from the first moment on where it
-- has a timeout height, since the times of blocks to come are not told
abbrev pub expires_from : Packet → Option ℕ
expires_from p = if is_some p.timeout_height then Some 0 else p.timeout_time
