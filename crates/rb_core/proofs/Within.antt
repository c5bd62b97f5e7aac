-- What is known of an event's object, in the lists that the code holds.
use Rattle.std.proofs.Common.{◌≡◌, ℕ, ◌<◌, true, nat_lt, List, length, map, sym, ap, ◌∙◌, subst, arith}
use Rattle.std.proofs.lemmas.Bool.{ltb-true}
use Rattle.std.proofs.lemmas.List.{length-map}
use Rattle.rb_book.specs.Shared.{Shared}
use Rattle.rb_core_model.specs.Event.{Event, Window, HostWindow, Asked, SetSeen, HeaderSeen, StoredSeen, Sent, Received, AckWritten, Cleared, Closed, Scanned, Planned, Settled}
use Rattle.rb_core_state.specs.Room.{ClientWithRoom, PathWithRoom, books_of, clients_of, paths_of, IsApart, HasStoredRoom, HasSettleRoom, HasPacketRoom}
use Rattle.rb_core.specs.State.{HasRoom, standing_view}
use Rattle.rb_core_model.specs.Standing.{AreTracked, ClientState, tracked}
use Rattle.rb_core.specs.declared.state.CoreState.{CoreState}

pub within : {X Y : Type 0} (view : X → Y) (xs : List X) (n : ℕ) → nat_lt n (length (map view xs)) ≡ true → n < length xs
within view xs n e =
    let lt = ltb-true n (length (map view xs)) e in
    omega (arith, lt, length-map xs view)

-- the chain that a client tracks
pub tracked_within : {A : Type 0} (k : CoreState A) (client chain : ℕ) → AreTracked (standing_view k) → nat_lt client (length (clients_of k.clients.items)) ≡ true → chain ≡ tracked (clients_of k.clients.items) client → chain < length k.books.items
tracked_within k client chain are state is =
    let long = length-map k.books.items (λ (s : Shared). s.book) in
    let t = are client (ltb-true client (length (clients_of k.clients.items)) state) in
    omega (arith, is, long, t)

-- room stays where each list keeps its own, and the clients stay
pub room_kept : {A : Type 0} (old new : CoreState A) → clients_of new.clients.items ≡ clients_of old.clients.items
    → ((i : ℕ) → IsApart old.books.items i → IsApart new.books.items i)
    → ((n i : ℕ) → HasStoredRoom n old.clients.items i → HasStoredRoom n new.clients.items i)
    → ((i : ℕ) → HasSettleRoom old.clients.items i → HasSettleRoom new.clients.items i)
    → ((i : ℕ) → HasPacketRoom old.paths.items i → HasPacketRoom new.paths.items i)
    → (event : Event) → HasRoom old event → HasRoom new event
room_kept old new same books stored settle paths (Window window) h = tt
room_kept old new same books stored settle paths (HostWindow host window) h = tt
room_kept old new same books stored settle paths (Asked client g) h = tt
room_kept old new same books stored settle paths (SetSeen chain set) h = books chain h
room_kept old new same books stored settle paths (HeaderSeen chain header) h = books chain h
room_kept old new same books stored settle paths (StoredSeen client height r) h = (
  subst (λ (cs : List ClientState). IsApart new.books.items (tracked cs client)) (sym same) (books (tracked (clients_of old.clients.items) client) h.0),
  stored 1 client h.1,
)
room_kept old new same books stored settle paths (Sent path sequence block timeout_height timeout_time) h = paths path h
room_kept old new same books stored settle paths (Received path sequence block) h = tt
room_kept old new same books stored settle paths (AckWritten path sequence block) h = tt
room_kept old new same books stored settle paths (Cleared path sequence) h = tt
room_kept old new same books stored settle paths (Closed path) h = tt
room_kept old new same books stored settle paths (Scanned path scan) h = tt
room_kept old new same books stored settle paths (Planned d) h = tt
room_kept old new same books stored settle paths (Settled client number done) h = settle client h
