use Rattle.std.proofs.Common.{◌<◌}
use Rattle.std.proofs.lemmas.Result.{on_ok_weaker}
use Rattle.rb_core_state.specs.Room.{PathWithRoom}
use Rattle.rb_core_state.proofs.Places.{for_found, kept_at, seen_same}
use Rattle.rb_core_state.proofs.paths.make_packet_room.Goals as goal

pub returns-clause-same : goal.returns-clause-same
returns-clause-same g c =
    seen_same (λ (h : PathWithRoom). h.path) c.args.paths.now.items c.args.path c.index_mut.result.now c.make_room.new.self c.requires c.index_mut.ensures.value c.make_room.ensures.same

pub returns-clause-room : goal.returns-clause-room
returns-clause-room g c =
    on_ok_weaker c.make_room.result (for_found (λ (h : PathWithRoom). 0 < h.room) c.args.paths.now.items c.args.path c.make_room.new.self c.requires) c.make_room.ensures.room

pub returns-clause-kept : goal.returns-clause-kept
returns-clause-kept g c =
    kept_at (λ (h : PathWithRoom). 0 < h.room) c.args.paths.now.items c.args.path c.index_mut.result.now c.make_room.new.self c.index_mut.ensures.value c.make_room.ensures.kept
