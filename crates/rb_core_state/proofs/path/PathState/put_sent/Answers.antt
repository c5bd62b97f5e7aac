use Rattle.std.proofs.Common.{◌≡◌, ℕ, [], None, sym, ◌∙◌, subst}
use Rattle.std.specs.List.{insert}
use Rattle.rb_book.specs.Search.{IsKnownPlace, IsNewPlace}
use Rattle.rb_scan.specs.Packet.{Packet}
use Rattle.rb_core_state.specs.Room.{PathWithRoom, IsPathWithRoom}
use Rattle.rb_core_model.specs.Standing.{PathState, sent_refusal, view_of_path}
use Rattle.rb_core_state.proofs.Counted.{sent_held, sent_new}
use Rattle.rb_core_model.proofs.Marks.{has}
use Rattle.rb_core_state.proofs.path.PathState.put_sent.Goals as goal

pub invariant_of-self : goal.invariant_of-self
invariant_of-self g c =
    let old : PathState = record { config = c.self.inside.config; first = c.self.inside.first; packets = c.self.inside.packets.items; closed = c.self.inside.closed } in
    let q : Packet = c.args.packet in
    let sequence : c.get-sequence.result ≡ q.sequence = c.get-sequence.ensures.value ∙ c.sequence.ensures in
    let new : IsNewPlace (has c.get-sequence.result) _ old.packets c.in-Err.place = rw c.as_slice.ensures.value at c.in-Err.ensures in
    let accepted : sent_refusal (view_of_path [] old) q.sequence ≡ None = subst (λ (h : PathWithRoom). sent_refusal (view_of_path [] h.path) q.sequence ≡ None) (sym c.self.view_is) c.requires.accepted in
    rw (rw c.unwrap.ensures at c.insert.ensures.items)
    (subst (λ (n : ℕ). IsPathWithRoom (record old { packets = insert old.packets n q }) c.self.inside.run) (sym (rw sequence at new.after)) (sent_held q c.self.inside.run old accepted c.self.invariant))

pub returns-in_default : goal.returns-in_default
returns-in_default g c =
    let old : PathState = record { config = c.self.inside.config; first = c.self.inside.first; packets = c.self.inside.packets.items; closed = c.self.inside.closed } in
    let q : Packet = c.args.packet in
    let sequence : c.get-sequence.result ≡ q.sequence = c.get-sequence.ensures.value ∙ c.sequence.ensures in
    let known : IsKnownPlace (has c.get-sequence.result) old.packets c.in_default.field-0 = rw c.as_slice.ensures.value at c.in_default.ensures in
    let accepted : sent_refusal (view_of_path [] old) q.sequence ≡ None = subst (λ (h : PathWithRoom). sent_refusal (view_of_path [] h.path) q.sequence ≡ None) (sym c.self.view_is) c.requires.accepted in
    absurd (sent_new q old c.in_default.field-0 accepted (subst (λ (n : ℕ). IsKnownPlace (has n) old.packets c.in_default.field-0) sequence known))
