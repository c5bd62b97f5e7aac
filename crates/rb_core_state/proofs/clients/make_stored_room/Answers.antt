use Rattle.std.proofs.Common.{◌≤◌, IsSomeAnd, length}
use Rattle.std.proofs.lemmas.Result.{on_ok_weaker}
use Rattle.rb_core_state.specs.Room.{ClientWithRoom}
use Rattle.rb_core_model.specs.Standing.{OpenBatch}
use Rattle.rb_core_state.proofs.Stored.{settle_kept}
use Rattle.rb_core_state.proofs.Places.{for_found, kept_at, seen_same}
use Rattle.rb_core_state.proofs.clients.make_stored_room.Goals as goal

pub returns-clause-same : goal.returns-clause-same
returns-clause-same g c =
    seen_same (λ (h : ClientWithRoom). h.client) c.args.clients.now.items c.args.client c.index_mut.result.now c.make_room.new.self c.requires c.index_mut.ensures.value c.make_room.ensures.same

pub returns-clause-room : goal.returns-clause-room
returns-clause-room g c =
    on_ok_weaker c.make_room.result (for_found (λ (h : ClientWithRoom). c.args.count ≤ h.room) c.args.clients.now.items c.args.client c.make_room.new.self c.requires) c.make_room.ensures.room

pub returns-clause-kept : goal.returns-clause-kept
returns-clause-kept g c =
    λ some. kept_at (λ (h : ClientWithRoom). some ≤ h.room) c.args.clients.now.items c.args.client c.index_mut.result.now c.make_room.new.self c.index_mut.ensures.value (c.make_room.ensures.kept some)

pub returns-clause-settle : goal.returns-clause-settle
returns-clause-settle g c =
    kept_at (λ (h : ClientWithRoom). IsSomeAnd h.client.batch (λ (b : OpenBatch). length b.updates ≤ h.room)) c.args.clients.now.items c.args.client c.index_mut.result.now c.make_room.new.self c.index_mut.ensures.value
    (settle_kept c.index_mut.result.now c.make_room.new.self c.make_room.ensures.same c.make_room.ensures.kept)
