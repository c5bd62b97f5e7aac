use Rattle.std.proofs.Common.{◌≡◌, ◌<◌, ℕ, List, length, sym, ap, ◌∙◌, subst}
use Rattle.std.proofs.lemmas.Result.{on_ok_weaker}
use Rattle.rb_core_state.specs.Room.{ClientWithRoom, clients_of, IsApart}
use Rattle.rb_core_model.specs.Standing.{ClientState, tracked}
use Rattle.rb_core.specs.declared.state.CoreState.{CoreState}
use Rattle.rb_core.proofs.Within.{within, tracked_within, room_kept}
use Rattle.rb_core.proofs.state.CoreState.make_room_for.Goals as goal

pub returns-in_err-make_stored_room-in-StoredSeen-clause-kept : goal.returns-in_err-make_stored_room-in-StoredSeen-clause-kept
returns-in_err-make_stored_room-in-StoredSeen-clause-kept g c =
    let new : CoreState g.row.A.Denot = record {
      window = c.args.self.now.window;
      books = c.args.self.now.books;
      clients = c.make_stored_room.new.clients;
      paths = c.args.self.now.paths;
      plans = c.args.self.now.plans;
      scans = c.args.self.now.scans;
      front = c.args.self.now.front;
    } in
    room_kept c.args.self.now new c.make_stored_room.ensures.same (λ i h. h) c.make_stored_room.ensures.kept c.make_stored_room.ensures.settle (λ i h. h)

pub set_apart-requires-in-StoredSeen : goal.set_apart-requires-in-StoredSeen
set_apart-requires-in-StoredSeen g c =
    let chain : c.tracked-chain.result ≡ tracked (clients_of c.args.self.now.clients.items) c.in-StoredSeen.client = rw c.as_slice.ensures.value at c.tracked-chain.ensures in
    tracked_within c.args.self.now c.in-StoredSeen.client c.tracked-chain.result c.requires.tracked (rw c.in-StoredSeen.is at c.requires.state) chain

pub returns-in_ok-make_stored_room-in-StoredSeen-clause-room : goal.returns-in_ok-make_stored_room-in-StoredSeen-clause-room
returns-in_ok-make_stored_room-in-StoredSeen-clause-room g c =
    let chain : c.tracked-chain.result ≡ tracked (clients_of c.args.self.now.clients.items) c.in-StoredSeen.client = rw c.as_slice.ensures.value at c.tracked-chain.ensures in
    let now : c.tracked-chain.result ≡ tracked (clients_of c.make_stored_room.new.clients.items) c.in-StoredSeen.client = chain ∙ ap (λ (cs : List ClientState). tracked cs c.in-StoredSeen.client) (sym c.make_stored_room.ensures.same) in
    rw c.in-StoredSeen.is (on_ok_weaker c.set_apart-in-StoredSeen.result (λ apart. (subst (λ n. IsApart c.set_apart-in-StoredSeen.new.books.items n) now apart, c.in_ok-make_stored_room-in-StoredSeen.ensures.room)) c.set_apart-in-StoredSeen.ensures.apart)

pub returns-in_ok-make_stored_room-in-StoredSeen-clause-kept : goal.returns-in_ok-make_stored_room-in-StoredSeen-clause-kept
returns-in_ok-make_stored_room-in-StoredSeen-clause-kept g c =
    let new : CoreState g.row.A.Denot = record {
      window = c.args.self.now.window;
      books = c.set_apart-in-StoredSeen.new.books;
      clients = c.make_stored_room.new.clients;
      paths = c.args.self.now.paths;
      plans = c.args.self.now.plans;
      scans = c.args.self.now.scans;
      front = c.args.self.now.front;
    } in
    room_kept c.args.self.now new c.make_stored_room.ensures.same c.set_apart-in-StoredSeen.ensures.kept c.make_stored_room.ensures.kept c.make_stored_room.ensures.settle (λ i h. h)
