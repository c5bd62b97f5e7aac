use Rattle.std.proofs.Common.{◌≡◌, ◌<◌, [], None, IfSome, subst}
use Rattle.rb_core_state.specs.Room.{PathWithRoom}
use Rattle.rb_core_model.specs.Standing.{PathState, with_packet, sent_refusal, view_of_path}
use Rattle.rb_core_state.proofs.Places.{found_seen, of_found, seen_changed}
use Rattle.rb_core_state.proofs.paths.put_sent.Goals as goal

pub put_sent-requires : goal.put_sent-requires
put_sent-requires g c =
    let paths = c.args.paths.now.items in
    record {
      accepted = subst (λ o. IfSome o (λ (p : PathState). sent_refusal (view_of_path [] p) c.args.packet.sequence ≡ None)) (found_seen (λ (h : PathWithRoom). h.path) paths c.args.path c.index_mut.result.now c.requires.within c.index_mut.ensures.value) c.requires.accepted;
      room = of_found (λ (h : PathWithRoom). 0 < h.room) paths c.args.path c.index_mut.result.now c.requires.within c.index_mut.ensures.value c.requires.room;
    }

pub returns : goal.returns
returns g c =
    seen_changed (λ (h : PathWithRoom). h.path) (with_packet c.args.packet) c.args.paths.now.items c.args.path c.index_mut.result.now c.put_sent.new.self c.requires.within c.index_mut.ensures.value c.put_sent.ensures
