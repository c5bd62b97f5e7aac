-- (internal) What the code knows, as a state, and where it has room for an event.
use Rattle.std.specs.Prelude.{Option, Some, None}
use Rattle.rb_core.specs.declared.state.CoreState.{CoreState}
use Rattle.rb_core_model.specs.Event.{Event, SetSeen, HeaderSeen, StoredSeen, Sent, Settled}
use Rattle.rb_core_state.specs.Room.{books_of, clients_of, paths_of, IsApart, HasStoredRoom, HasSettleRoom, HasPacketRoom}
use Rattle.rb_core_model.specs.Machine.{State}
use Rattle.rb_core_model.specs.Snapshot.{Snapshot, nothing, snapshot_of}
use Rattle.rb_core_model.specs.Standing.{Standing, tracked}

abbrev pub standing_view : {A : Type 0} → CoreState A → Standing
standing_view k = record { window = k.window; books = books_of k.books.items; clients = clients_of k.clients.items; paths = paths_of k.paths.items }

abbrev pub state_view : {A : Type 0} → CoreState A → State
state_view k = record { standing = standing_view k; plans = k.plans.items; scans = k.scans.items; front = k.front }

-- what a log begins with: nothing, or what was known
abbrev pub start_of : {A : Type 0} → Option (CoreState A) → Snapshot
start_of None = nothing
start_of (Some k) = snapshot_of (standing_view k)

-- an event can be taken in without memory
abbrev pub HasRoom : {A : Type 0} → CoreState A → Event → Type 0
HasRoom k (SetSeen chain set) = IsApart k.books.items chain
HasRoom k (HeaderSeen chain header) = IsApart k.books.items chain
HasRoom k (StoredSeen client height r) = IsApart k.books.items (tracked (clients_of k.clients.items) client) × HasStoredRoom 1 k.clients.items client
HasRoom k (Sent path sequence block timeout_height timeout_time) = HasPacketRoom k.paths.items path
HasRoom k (Settled client number done) = HasSettleRoom k.clients.items client
HasRoom k event = Unit {0}
