-- The room of what the code holds is the room that a contract sees.
use Rattle.std.proofs.Common.{◌≡◌, ℕ, zero, suc, ◌-◌, ◌<◌, ◌≤◌, Bool, true, List, [], ◌∷◌, None, Result, Ok, Err, IfOk, IsSomeAnd, All, length, map, refl, sym, ap, ◌∙◌, subst, inl, arith}
use Rattle.std.specs.List.{slice_get}
use Rattle.std.specs.Option.{option_and_then}
use Rattle.std.proofs.lemmas.List.Elements.{All-nil}
use Rattle.rb_book.specs.Shared.{Shared}
use Rattle.rb_base.specs.Fee.{IsFeeTable}
use Rattle.rb_script_types.specs.Config.{Config, IsConfig}
use Rattle.rb_script_types.specs.declared.config.ClientConfig.{ClientConfig}
use Rattle.rb_core.specs.Core.{Core, Room, room_of, state_in, HasOwnRoom, IsReady, IsFold}
use Rattle.rb_core_model.specs.Begun.{IsBegun, max_begun}
use Rattle.rb_core_model.specs.Config.{IsSetUp}
use Rattle.rb_core_model.specs.Entry.{Logged, log_from}
use Rattle.rb_core_model.specs.Event.{Event, IsEvent, Window, HostWindow, Asked, SetSeen, HeaderSeen, StoredSeen, Sent, Received, AckWritten, Cleared, Closed, Scanned, Planned, Settled}
use Rattle.rb_core_state.specs.Room.{ClientWithRoom, PathWithRoom, clients_of, HasSettleRoom}
use Rattle.rb_core_model.specs.Judged.{Ready}
use Rattle.rb_core.specs.State.{state_view, HasRoom}
use Rattle.rb_core_model.specs.Machine.{State, begun, opening, state_of, refusal_of}
use Rattle.rb_core_model.specs.Snapshot.{ClientSnapshot, Snapshot, Log, nothing}
use Rattle.rb_core_model.specs.Standing.{OpenBatch, ClientState}
use Rattle.rb_core.specs.declared.state.CoreState.{CoreState}
use Rattle.rb_core_model.proofs.Logs.{states_of_logs}

-- the front of the fold of a log is its length
pub long : (config : Config) (log : Log) (s : State) → IsFold config log s → s.front ≡ length log.events
long config log s is =
    let of = states_of_logs config log in
    ap (λ (t : State). t.front) is.state ∙ of.front ∙ ap (λ (l : Log). length l.events) is.accepted

to_seen : {X Y : Type 0} (view : X → Y) (P : Y → Type 0) (xs : List X) (i : ℕ) → IsSomeAnd (slice_get xs i) (λ x. P (view x)) → IsSomeAnd (slice_get (map view xs) i) P
to_seen view P [] i h = absurd h
to_seen view P (x ∷ xs) zero h = h
to_seen view P (x ∷ xs) (suc i) h = to_seen view P xs i h

from_seen : {X Y : Type 0} (view : X → Y) (P : Y → Type 0) (xs : List X) (i : ℕ) → IsSomeAnd (slice_get (map view xs) i) P → IsSomeAnd (slice_get xs i) (λ x. P (view x))
from_seen view P [] i h = absurd h
from_seen view P (x ∷ xs) zero h = h
from_seen view P (x ∷ xs) (suc i) h = from_seen view P xs i h

abbrev is_apart : Shared → Bool
is_apart s = s.apart

abbrev more_stored : ClientWithRoom → ℕ
more_stored h = h.room

abbrev more_packets : PathWithRoom → ℕ
more_packets h = h.room

-- room for the updates of a client's open batch
abbrev HasSeenSettleRoom : List ℕ → List ClientState → ℕ → Type 0
HasSeenSettleRoom stored clients i =
    IsSomeAnd (option_and_then (λ (c : ClientState). c.batch) (slice_get clients i)) (λ (b : OpenBatch). IsSomeAnd (slice_get stored i) (λ more. length b.updates ≤ more))

settle_seen : (hs : List ClientWithRoom) (i : ℕ) → HasSettleRoom hs i → HasSeenSettleRoom (map more_stored hs) (clients_of hs) i
settle_seen [] i h = absurd h
settle_seen (x ∷ hs) zero h = h
settle_seen (x ∷ hs) (suc i) h = settle_seen hs i h

settle_had : (hs : List ClientWithRoom) (i : ℕ) → HasSeenSettleRoom (map more_stored hs) (clients_of hs) i → HasSettleRoom hs i
settle_had [] i h = absurd h
settle_had (x ∷ hs) zero h = h
settle_had (x ∷ hs) (suc i) h = settle_had hs i h

-- a ready event is the one that was judged
pub judged_event : {E : Type 0} (r : Result Ready E) (front : ℕ) (e : Event) → IfOk r (λ ready. ready ≡ record { front = front; event = e }) → IfOk r (λ ready. ready.event ≡ e)
judged_event {E} (Ok x) front e is = ap (λ (y : Ready). y.event) is
judged_event {E} (Err x) front e is = tt

-- what holds whatever is answered
pub if_ok_of : {T E P : Type 0} (r : Result T E) → P → IfOk r (λ _. P)
if_ok_of {T} {E} {P} (Ok x) p = p
if_ok_of {T} {E} {P} (Err x) p = tt

module _ {A : Type 0} where
  room_seen : (n : ℕ) (k : CoreState A) (e : Event) → HasRoom k e → HasOwnRoom (room_of n k) (state_view k) e
  room_seen n k (Window window) h = tt
  room_seen n k (HostWindow host window) h = tt
  room_seen n k (Asked client goal) h = tt
  room_seen n k (SetSeen chain set) h = to_seen is_apart (λ b. b ≡ true) k.books.items chain h
  room_seen n k (HeaderSeen chain header) h = to_seen is_apart (λ b. b ≡ true) k.books.items chain h
  room_seen n k (StoredSeen client height r) h =
      (to_seen is_apart (λ b. b ≡ true) k.books.items _ h.0, to_seen more_stored (λ more. 1 ≤ more) k.clients.items client h.1)
  room_seen n k (Sent path sequence block timeout_height timeout_time) h = to_seen more_packets (λ more. 0 < more) k.paths.items path h
  room_seen n k (Received path sequence block) h = tt
  room_seen n k (AckWritten path sequence block) h = tt
  room_seen n k (Cleared path sequence) h = tt
  room_seen n k (Closed path) h = tt
  room_seen n k (Scanned path scan) h = tt
  room_seen n k (Planned d) h = tt
  room_seen n k (Settled client number done) h = settle_seen k.clients.items client h

  room_had : (n : ℕ) (k : CoreState A) (e : Event) → HasOwnRoom (room_of n k) (state_view k) e → HasRoom k e
  room_had n k (Window window) h = tt
  room_had n k (HostWindow host window) h = tt
  room_had n k (Asked client goal) h = tt
  room_had n k (SetSeen chain set) h = from_seen is_apart (λ b. b ≡ true) k.books.items chain h
  room_had n k (HeaderSeen chain header) h = from_seen is_apart (λ b. b ≡ true) k.books.items chain h
  room_had n k (StoredSeen client height r) h =
      (from_seen is_apart (λ b. b ≡ true) k.books.items _ h.0, from_seen more_stored (λ more. 1 ≤ more) k.clients.items client h.1)
  room_had n k (Sent path sequence block timeout_height timeout_time) h = from_seen more_packets (λ more. 0 < more) k.paths.items path h
  room_had n k (Received path sequence block) h = tt
  room_had n k (AckWritten path sequence block) h = tt
  room_had n k (Cleared path sequence) h = tt
  room_had n k (Closed path) h = tt
  room_had n k (Scanned path scan) h = tt
  room_had n k (Planned d) h = tt
  room_had n k (Settled client number done) h = settle_had k.clients.items client h

  -- a core whose parts have judged an event and made room for it is ready
  pub is_ready : (config : Config) (old new : CoreState A) (log items : Log) (len cap : ℕ) (e : Event) {E : Type 0} (r : Result Ready E)
      → IsFold config items (state_view old) → state_view new ≡ state_view old → log ≡ items
      → IfOk r (λ ready. ready ≡ record { front = old.front; event = e })
      → IfOk r (λ _. refusal_of (state_view old) e ≡ None)
      → IfOk r (λ _. HasRoom new e) → IfOk r (λ _. len < cap)
      → IfOk r (IsReady (record { config = config; log = log; room = room_of (cap - len) new }))
  is_ready config old new log items len cap e {E} (Err x) is same kept ready accepted room more = tt
  is_ready config old new log items len cap e {E} (Ok x) is same kept ready accepted room more =
      let here : state_view old ≡ state_of config log = is.state ∙ ap (state_of config) (sym kept) in
      let now : state_view new ≡ state_of config log = same ∙ here in
      let core : Core = record { config = config; log = log; room = room_of (cap - len) new } in
      let its_event : x.event ≡ e = ap (λ (y : Ready). y.event) ready in
      record {
        front = ap (λ (y : Ready). y.front) ready ∙ long config items (state_view old) is ∙ ap (λ (l : Log). length l.events) (sym kept);
        accepted = (λ i. refusal_of ((sym here) i) (its_event i)) ∙ accepted;
        log_room = omega (arith, more);
        own_room = subst (λ (p : State × Event). HasOwnRoom core.room p.0 p.1) (λ i. (now i, sym its_event i)) (room_seen (cap - len) new e room);
      }

  -- and what a ready core holds has room for the event
  pub has_room : (core : Core) (n : ℕ) (k : CoreState A) (e : Event) → core.room ≡ room_of n k → state_view k ≡ state_in core → HasOwnRoom core.room (state_in core) e → HasRoom k e
  has_room core n k e room now h = room_had n k e (subst (λ (s : State). HasOwnRoom (room_of n k) s e) (sym now) (rw room at h))

  -- a ready event stays ready
  pub ready_kept : (old core : Core) (n : ℕ) (before after : CoreState A) (len cap : ℕ) → old.room ≡ room_of n before → state_view before ≡ state_in old → core.config ≡ old.config → core.log ≡ old.log
      → core.room ≡ room_of (cap - len) after → state_view after ≡ state_view before → (0 < n → len < cap)
      → ((e : Event) → HasRoom before e → HasRoom after e) → (r : Ready) → IsReady old r → IsReady core r
  ready_kept old core n before after len cap room now config log its_room same more keeps r ready =
      let states : state_in core ≡ state_in old = λ i. state_of (config i) (log i) in
      let had : HasRoom before r.event = has_room old n before r.event room now ready.own_room in
      let seen : HasOwnRoom (room_of (cap - len) after) (state_view after) r.event = room_seen (cap - len) after r.event (keeps r.event had) in
      let some : 0 < n = subst (λ (x : Room). 0 < x.log) room ready.log_room in
      let left : 0 < cap - len = omega (arith, more some) in
      record {
        front = ready.front ∙ ap (λ (l : Log). length l.events) (sym log);
        accepted = (λ i. refusal_of (states i) r.event) ∙ ready.accepted;
        log_room = subst (λ (x : Room). 0 < x.log) (sym its_room) left;
        own_room = subst (λ (p : Room × State). HasOwnRoom p.0 p.1 r.event) (λ i. (sym its_room i, (same ∙ now ∙ sym states) i)) seen;
      }

-- before the first event
pub begun_fold : (config : Config) (start : Snapshot) (s : State) (xs : List Logged) → IsSetUp config → IsBegun config start → s ≡ begun config start → xs ≡ [] → IsFold config (log_from config start xs) s
begun_fold config start s xs set_up may_begin state none =
    let first : IsFold config (record { start = start; events = [] }) s = record { state = state; set_up = set_up; begun = may_begin; events = All-nil IsEvent; accepted = refl } in
    subst (λ (ys : List Logged). IsFold config (log_from config start ys) s) (sym none) first

pub new_fold : (config : Config) (s : State) (xs : List Logged) → IsConfig config → All (λ (client : ClientConfig). IsFeeTable client.fees) config.clients
    → s ≡ opening config → xs ≡ [] → IsFold config (log_from config nothing xs) s
new_fold config s xs rules fees state none =
    begun_fold config nothing s xs (record { rules = rules; fees = fees })
    (record { first = nothing; fits = inl refl; earlier = []; events = All-nil (All IsEvent); is = refl; few = All-nil (λ (x : ClientSnapshot). x.batches ≤ max_begun) }) state none
