-- What a client is to be brought to, and what is sent with the updates (own choice).
use Rattle.std.specs.Prelude.{ℕ, ◌+◌, ◌-◌, ◌==◌, ◌^◌, Bool, false, not, ◌&&◌, nat_lt, nat_le, max, List, [], ◌++◌, length, map, filter, fold, find, slice_get, Option, Some, None, is_some, if◌then◌else◌}
use Rattle.std.specs.List.{flat_map, reduce}
use Rattle.std.specs.Option.{option_map, option_map_or, option_or, option_and_then}
use Rattle.rb_base.specs.Window.{Span}
use Rattle.rb_book.specs.Book.{Book, RecordAt, record_at, height_of, time_of}
use Rattle.rb_book.specs.Header.{Record}
use Rattle.rb_scan.specs.Expiry.{lesser}
use Rattle.rb_script_types.specs.declared.config.ClientConfig.{ClientConfig}
use Rattle.rb_script_types.specs.declared.config.RefreshTo.{RefreshTo}
use Rattle.rb_script_types.specs.declared.config.RefreshTo.TheVariants.{Lowest, Highest, Newer}
use Rattle.rb_script_types.specs.declared.goal.Goal.{Goal}
use Rattle.rb_script_types.specs.declared.goal.Goal.TheVariants.{AtLeast, Exactly}
use Rattle.rb_plan_types.specs.Refresh.{needed_time, refresh_moment as moment_of_refresh}
use Rattle.rb_plan_types.specs.declared.terms.Terms.{Terms}
use Rattle.rb_scan.specs.Going.{can_go, going}
use Rattle.rb_scan.specs.Owed.{ready, ready_beyond, wanted}
use Rattle.rb_scan.specs.declared.bars.Bars.{Bars}
use Rattle.rb_scan.specs.declared.message.Kind.{Kind}
use Rattle.rb_scan.specs.declared.message.Kind.TheVariants.{Receive, Acknowledge, Timeout}
use Rattle.rb_scan.specs.declared.message.PacketMsg.{PacketMsg}
use Rattle.rb_scan.specs.declared.path.Order.{Order}
use Rattle.rb_step.specs.Fee.{fee_at}
use Rattle.rb_step.specs.LightClient.{Update}
use Rattle.rb_step.specs.View.{View}
use Rattle.rb_script_types.specs.Gas.{PathGas, gas_for}
use Rattle.rb_script_types.specs.Goal.{height_in}
use Rattle.rb_script_types.specs.Waits.{wait_for}
use Rattle.rb_script_types.specs.declared.waits.Waits.{Waits}

-- a path, by its place, as one of its clients has it: its order, its gas, how long its messages may wait, and the messages that it owes
-- that client
pub record PathTask : Type 0 where
  pub path : ℕ
  pub order : Order
  pub gas : PathGas
  pub waits : Waits
  pub owed : List PacketMsg

-- all that a plan for a client goes by: how the client is set up, the heights that it has stored, rising, the window in
-- which it is updated, the book of the chain that it tracks, its paths in script order, and the goal that it was asked for
pub record Task : Type 0 where
  pub config : ClientConfig
  pub stored : List ℕ
  pub window : Span
  pub book : Book
  pub paths : List PathTask
  pub asked : Option Goal

-- the client in its window, over the book of the chain that it tracks
abbrev pub view_of : Task → View
view_of t = record { options = t.config.options; fees = t.config.fees; stored = t.stored; window = t.window; book = t.book }

-- ---- messages

-- a packet message, its path by its place, and its gas
pub record Message : Type 0 where
  pub path : ℕ
  pub packet : PacketMsg
  pub gas : ℕ

abbrev pub message_on : PathTask → PacketMsg → Message
message_on p m = record { path = p.path; packet = m; gas = gas_for p.gas m.kind }

-- a message of this kind is over the gas limit alone
abbrev pub is_too_big : Task → PathTask → Kind → Bool
is_too_big t p kind = nat_lt t.config.limits.gas (gas_for p.gas kind + t.config.limits.transaction_gas)

-- what keeps messages of a path from going
abbrev pub bars_of : Task → PathTask → Bars
bars_of t p = record {
  receive = is_too_big t p Receive;
  acknowledge = is_too_big t p Acknowledge;
  timeout = is_too_big t p Timeout;
  until = t.window.until;
}

-- the messages of a path that go, by how the client is refreshed: all that are owed; by gain those that can go
abbrev pub going_by : Task → PathTask → RefreshTo → List PacketMsg
going_by t p Lowest = p.owed
going_by t p Highest = p.owed
going_by t p Newer = going p.order (can_go (bars_of t p)) p.owed

abbrev pub going_on : Task → PathTask → List PacketMsg
going_on t p = going_by t p t.config.refresh_to

-- the messages of all paths that are ready at a height
abbrev pub ready_on : Task → Option ℕ → PathTask → List Message
ready_on t reach p = map (message_on p) (ready (going_on t p) p.order reach)

abbrev pub ready_messages : Task → Option ℕ → List Message
ready_messages t reach = flat_map (ready_on t reach) t.paths

-- the messages of all paths that are left out, and told, since they are over the gas limit alone
abbrev pub too_big_by : Task → PathTask → RefreshTo → List PacketMsg
too_big_by t p Lowest = []
too_big_by t p Highest = []
too_big_by t p Newer = filter (λ (m : PacketMsg). is_too_big t p m.kind) p.owed

abbrev pub too_big_on : Task → PathTask → List Message
too_big_on t p = map (message_on p) (too_big_by t p t.config.refresh_to)

abbrev pub too_big_messages : Task → List Message
too_big_messages t = flat_map (too_big_on t) t.paths

-- ---- waiting: what can be proved with no update goes at once, what needs one waits for others to go with it

-- the record at a height is known, and doesn't expire in the window
abbrev pub is_live : Task → ℕ → Bool
is_live t h = option_map_or (λ (r : Record). nat_lt t.window.until (r.time + t.config.options.period)) (record_at t.book h) false

-- the near reach, up to which messages can be proved with no update: the greatest stored height, where it is live (heights and times rise
-- together, so no lower one is live where it is not)
abbrev pub near_reach : Task → Option ℕ
near_reach t = option_and_then (λ h. if is_live t h then Some h else None) (slice_get t.stored (length t.stored - 1))

-- the moment at which a message came to be provable: the time of the lowest known height at or above its floor, or that of the block that wrote
-- what it proves, where it is told, whichever comes first (so a told time that is too late delays no message)
abbrev pub since : Task → PacketMsg → Option ℕ
since t m = lesser m.since (option_map time_of (find (λ k. nat_le m.floor (height_of k)) t.book.records))

-- the moment from which on a message presses: at once where it may not wait; else once it has waited, or, for a receive, once it would have
-- waited when its packet may have expired, whichever comes first
abbrev pub press_moment : Task → Waits → PacketMsg → Option ℕ
press_moment t w m =
    if wait_for w m.kind == 0
    then Some 0
    else lesser (option_map (λ moment. moment + wait_for w m.kind) (since t m)) (option_map (λ moment. moment - wait_for w m.kind) m.expires)

-- of the messages of a path that are ready at the reach, the greatest height that the client can be brought to, and not at a lower height
abbrev pub moments_beyond : Task → Option ℕ → Option ℕ → PathTask → List (Option ℕ)
moments_beyond t low reach p = map (press_moment t p.waits) (ready_beyond (going_on t p) p.order low reach)

-- of those that only an update brings across
abbrev pub press_moments_on : Task → Option ℕ → PathTask → List (Option ℕ)
press_moments_on t reach p = moments_beyond t (near_reach t) reach p

-- the first of these moments, over all paths
abbrev pub first_beyond : Task → Option ℕ → Option ℕ → Option ℕ
first_beyond t low reach = fold lesser None (flat_map (moments_beyond t low reach) t.paths)

abbrev pub first_press : Task → Option ℕ → Option ℕ
first_press t reach = fold lesser None (flat_map (press_moments_on t reach) t.paths)

-- some message presses by the end of the window
abbrev pub presses : Task → Option ℕ → Bool
presses t reach = option_map_or (λ moment. nat_le moment t.window.until) (first_press t reach) false

-- the height up to which messages go: all that are ready where one presses, else those that need no update
abbrev pub sending_reach : Task → Option ℕ → Option ℕ
sending_reach t reach = if presses t reach then reach else near_reach t

abbrev pub due_messages : Task → Option ℕ → List Message
due_messages t reach = ready_messages t (sending_reach t reach)

-- the greatest of their floors
abbrev pub wanted_height : Task → Option ℕ → Option ℕ
wanted_height t reach = wanted (map (λ (m : Message). m.packet) (due_messages t reach))

-- ---- refreshing

-- the record of the greatest stored height
abbrev pub newest_stored : Task → Option Record
newest_stored t = option_and_then (record_at t.book) (slice_get t.stored (length t.stored - 1))

-- that record is due for a refresh by the end of the window: so many nanoseconds after its time; 0 is never
abbrev pub is_due : Task → Bool
is_due t =
    not (t.config.refresh == 0) && option_map_or (λ (r : Record). nat_le (r.time + t.config.refresh) t.window.until) (newest_stored t) false

-- a record of the book is not due
abbrev pub is_fresh : Task → RecordAt → Bool
is_fresh t k = nat_lt t.window.until (time_of k + t.config.refresh)

-- the lowest such height
abbrev pub lowest_fresh : Task → Option ℕ
lowest_fresh t = option_map height_of (find (is_fresh t) t.book.records)

-- the reach, where its record is not due
abbrev pub fresh_reach : Task → Option ℕ → Option ℕ
fresh_reach t reach =
    option_and_then (λ h. if option_map_or (λ (r : Record). nat_lt t.window.until (r.time + t.config.refresh)) (record_at t.book h) false then Some h else None) reach

-- by gain: the time that a refresh needs, and the lowest known height of that time or a later one
abbrev pub terms_of : Task → Terms
terms_of t = record { period = t.config.options.period; refresh = t.config.refresh }

-- the record of the greatest height that the client can be brought to
abbrev pub reach_record : Task → Option ℕ → Option Record
reach_record t reach = option_and_then (record_at t.book) reach

abbrev pub gain_time : Task → Option ℕ → Option ℕ
gain_time t reach =
    option_and_then (λ (s : Record). option_and_then (λ (r : Record). needed_time (terms_of t) s.time r.time t.window.until) (reach_record t reach)) (newest_stored t)

abbrev pub newer_height : Task → Option ℕ → Option ℕ
newer_height t reach = option_and_then (λ time. option_map height_of (find (λ k. nat_le time (time_of k)) t.book.records)) (gain_time t reach)

-- the height that a refresh needs, or one above it, by how the client is refreshed; none where it is not due, or no record serves
abbrev pub refresh_height : Task → Option ℕ → RefreshTo → Option ℕ
refresh_height t reach Lowest = if is_due t then lowest_fresh t else None
refresh_height t reach Highest = if is_due t then option_or (fresh_reach t reach) (lowest_fresh t) else None
refresh_height t reach Newer = newer_height t reach

abbrev pub refresh_goal : Task → Option ℕ → Option Goal
refresh_goal t reach = option_map (λ h. AtLeast h) (refresh_height t reach t.config.refresh_to)

-- a refresh by gain goes in transactions of its own
abbrev pub is_apart_by : Task → Option ℕ → RefreshTo → Bool
is_apart_by t reach Lowest = false
is_apart_by t reach Highest = false
is_apart_by t reach Newer = is_some (newer_height t reach)

abbrev pub is_apart : Task → Option ℕ → Bool
is_apart t reach = is_apart_by t reach t.config.refresh_to

-- ---- the goal, and what goes with it

-- what was asked for, else the wanted height, else a refresh
abbrev pub first_goal : Task → Option ℕ → Option ℕ → Option Goal
first_goal t reach wanted = option_or t.asked (option_or (option_map (λ h. AtLeast h) wanted) (refresh_goal t reach))

-- the greater of two numbers, or the only one
abbrev pub greater : Option ℕ → Option ℕ → Option ℕ
greater None b = b
greater (Some a) None = Some a
greater (Some a) (Some b) = Some (max a b)

-- what was asked for, where the client can be brought so high
abbrev pub asked_in_reach : Task → Option ℕ → Option Goal
asked_in_reach t reach = option_and_then (λ g. if option_map_or (λ r. nat_le (height_in g) r) reach false then Some g else None) t.asked

-- one goal of what was asked for, of the height that messages want and of the height that a refresh needs: at least the greatest of them, but
-- exactly what was asked for exactly
abbrev pub joined_goal : Option Goal → Option ℕ → Option ℕ → Option Goal
joined_goal None wanted refresh = option_map (λ h. AtLeast h) (greater wanted refresh)
joined_goal (Some (AtLeast asked)) wanted refresh = option_map (λ h. AtLeast h) (greater (Some asked) (greater wanted refresh))
joined_goal (Some (Exactly asked)) wanted refresh = Some (Exactly asked)

-- what the client is to be brought to, by how it is refreshed: the first of its needs; by gain one goal of all of them, and what was asked for
-- out of reach where there is no other
abbrev pub goal_by : Task → Option ℕ → RefreshTo → Option Goal
goal_by t reach Lowest = first_goal t reach (wanted_height t reach)
goal_by t reach Highest = first_goal t reach (wanted_height t reach)
goal_by t reach Newer = option_or (joined_goal (asked_in_reach t reach) (wanted_height t reach) (newer_height t reach)) t.asked

-- a client without a goal is idle
abbrev pub goal_of : Task → Option ℕ → Option Goal
goal_of t reach = goal_by t reach t.config.refresh_to

-- the packet messages that follow the updates, by how the client is refreshed: those that are due, but none where a goal was asked for; by gain
-- all that the plan's own proof height proves
abbrev pub messages_by : Task → Option ℕ → Option ℕ → RefreshTo → List Message
messages_by t reach proof Lowest = if is_some t.asked then [] else due_messages t reach
messages_by t reach proof Highest = if is_some t.asked then [] else due_messages t reach
messages_by t reach proof Newer = ready_messages t proof

abbrev pub messages_of : Task → Option ℕ → Option ℕ → List Message
messages_of t reach proof = messages_by t reach proof t.config.refresh_to

-- ---- what comes next

-- the record of the greatest height that a client has stored once updates are taken
abbrev pub newest_after : Task → List Update → Option Record
newest_after t us = option_and_then (record_at t.book) (greater (slice_get t.stored (length t.stored - 1)) (reduce max (map (λ (u : Update). u.height) us)))

-- the highest known record is later
abbrev pub is_overtaken : Task → Record → Bool
is_overtaken t r = option_map_or (λ k. nat_lt r.time (time_of k)) (slice_get t.book.records (length t.book.records - 1)) false

-- the moment from which on that record is due for a refresh, where a later one is known
abbrev pub refresh_moment : Task → List Update → Option ℕ
refresh_moment t us =
    option_and_then (λ (r : Record). if not (t.config.refresh == 0) && is_overtaken t r then Some (r.time + t.config.refresh) else None) (newest_after t us)

-- a moment that is still to come, and at which a window can end
abbrev pub if_later : Task → Option ℕ → Option ℕ
if_later t moment = option_and_then (λ m. if nat_lt t.window.until m && nat_le m (10 ^ 20) then Some m else None) moment

-- a moment, or the window's end where that is later, if a window can end then
abbrev pub no_earlier : Task → Option ℕ → Option ℕ
no_earlier t moment = option_and_then (λ m. if nat_le m (10 ^ 20) then Some (max t.window.until m) else None) moment

-- the moment from which on a refresh by gain is needed once updates are taken, by what can be reached now
abbrev pub gain_moment : Task → Option ℕ → List Update → Option ℕ
gain_moment t reach us =
    option_and_then (λ (s : Record). option_and_then (λ (r : Record). moment_of_refresh (terms_of t) s.time r.time) (reach_record t reach)) (newest_after t us)

-- the first moment after the window at which a message that waits presses, or the client is due for a refresh, once updates are taken; by gain the
-- first, from the window's end on, at which a message presses beyond the proof height, or a refresh is needed
abbrev pub next_by : Task → Option ℕ → Option ℕ → List Update → RefreshTo → Option ℕ
next_by t reach proof us Lowest = lesser (if_later t (first_press t reach)) (if_later t (refresh_moment t us))
next_by t reach proof us Highest = lesser (if_later t (first_press t reach)) (if_later t (refresh_moment t us))
next_by t reach proof us Newer = no_earlier t (lesser (first_beyond t proof reach) (gain_moment t reach us))

abbrev pub next_moment : Task → Option ℕ → Option ℕ → List Update → Option ℕ
next_moment t reach proof us = next_by t reach proof us t.config.refresh_to

-- the gas of each message in turn, the updates first
abbrev pub gas_of : Task → Update → ℕ
gas_of t u = fee_at t.config.options t.config.gas t.book u.trusted u.height

abbrev pub gases : Task → List Update → List Message → List ℕ
gases t us ms = map (gas_of t) us ++ map (λ (m : Message). m.gas) ms
