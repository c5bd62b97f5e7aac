use Rattle.std.proofs.Common.{◌≡◌, ◌≤◌, IsSome, IsSomeAnd, length, sym, ap, ◌∙◌, subst}
use Rattle.std.specs.Option.{option_map_or}
use Rattle.std.proofs.lemmas.Result.{on_ok_weaker}
use Rattle.rb_core_state.specs.Room.{ClientWithRoom}
use Rattle.rb_core_model.specs.Standing.{OpenBatch, ClientState}
use Rattle.rb_core_state.proofs.Stored.{settle_kept, settle_room}
use Rattle.rb_core_state.proofs.Places.{found_seen, for_found, kept_at, seen_same}
use Rattle.rb_core_state.proofs.clients.make_settle_room.Goals as goal

pub returns-clause-same : goal.returns-clause-same
returns-clause-same g c =
    seen_same (λ (h : ClientWithRoom). h.client) c.args.clients.now.items c.args.client c.index_mut-state.result.now c.make_room.new.self c.requires.within c.index_mut-state.ensures.value c.make_room.ensures.same

pub returns-clause-room : goal.returns-clause-room
returns-clause-room g c =
    let items = c.args.clients.now.items in
    let old = c.index_mut-state.result.now in
    let new = c.make_room.new.self in
    let is_open = subst (λ o. IsSomeAnd o (λ (k : ClientState). IsSome k.batch)) (found_seen (λ (h : ClientWithRoom). h.client) items c.args.client old c.requires.within c.index_mut-state.ensures.value) c.requires.open in
    let count : c.update_count-count.result ≡ option_map_or (λ (b : OpenBatch). length b.updates) new.client.batch 0 = c.update_count-count.ensures ∙ ap (λ (k : ClientState). option_map_or (λ (b : OpenBatch). length b.updates) k.batch 0) (sym c.make_room.ensures.same) in
    on_ok_weaker c.make_room.result
    (λ fits. for_found (λ (h : ClientWithRoom). IsSomeAnd h.client.batch (λ (b : OpenBatch). length b.updates ≤ h.room)) items c.args.client new c.requires.within
    (settle_room new.client.batch c.update_count-count.result new.room (subst (λ (k : ClientState). IsSome k.batch) (sym c.make_room.ensures.same) is_open) count fits))
    c.make_room.ensures.room

pub returns-clause-kept : goal.returns-clause-kept
returns-clause-kept g c =
    λ some. kept_at (λ (h : ClientWithRoom). some ≤ h.room) c.args.clients.now.items c.args.client c.index_mut-state.result.now c.make_room.new.self c.index_mut-state.ensures.value (c.make_room.ensures.kept some)

pub returns-clause-settle : goal.returns-clause-settle
returns-clause-settle g c =
    kept_at (λ (h : ClientWithRoom). IsSomeAnd h.client.batch (λ (b : OpenBatch). length b.updates ≤ h.room)) c.args.clients.now.items c.args.client c.index_mut-state.result.now c.make_room.new.self c.index_mut-state.ensures.value
    (settle_kept c.index_mut-state.result.now c.make_room.new.self c.make_room.ensures.same c.make_room.ensures.kept)
