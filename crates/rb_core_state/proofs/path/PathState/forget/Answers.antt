use Rattle.std.proofs.Common.{rules, ◌≡◌, nat_le, sym, ap, ◌∙◌, subst}
use Rattle.std.specs.List.{filter}
use Rattle.std.proofs.lemmas.Fn.{filter_same}
use Rattle.rb_scan.specs.Packet.{Packet}
use Rattle.rb_core_model.specs.Over.{gone_in, rest_of_path}
use Rattle.rb_core_model.specs.Standing.{PathState}
use Rattle.rb_core_state.specs.Room.{PathWithRoom, IsPathWithRoom}
use Rattle.rb_core_state.proofs.Fronts.{held_rest, rest_by_filter}
use Rattle.rb_core_state.proofs.path.PathState.forget.Goals as goal

pub invariant_of-self : goal.invariant_of-self
invariant_of-self g c =
    let p : PathState = record { config = c.self.inside.config; first = c.self.inside.first; packets = c.self.inside.packets.items; closed = c.self.inside.closed } in
    let high = λ (q : Packet). nat_le c.later-first.result q.sequence in
    let items : c.retain.new.self.items ≡ filter high c.self.inside.packets.items = filter_same _ high _ (λ x b f' k. search rules) _ _ c.retain.ensures.filtered in
    let counted : c.gone-count.result ≡ gone_in p = c.gone-count.ensures ∙ ap (λ (x : PathWithRoom). gone_in x.path) (sym c.self.view_is) in
    let same = rest_by_filter c.self.inside.run p c.gone-count.result c.later-first.result c.retain.new.self.items c.self.invariant counted c.later-first.ensures items in
    subst (λ (q : PathState). IsPathWithRoom q 0) (sym same) (held_rest c.self.inside.run p c.self.invariant)

pub returns : goal.returns
returns g c =
    let p : PathState = record { config = c.self.inside.config; first = c.self.inside.first; packets = c.self.inside.packets.items; closed = c.self.inside.closed } in
    let high = λ (q : Packet). nat_le c.later-first.result q.sequence in
    let items : c.retain.new.self.items ≡ filter high c.self.inside.packets.items = filter_same _ high _ (λ x b f' k. search rules) _ _ c.retain.ensures.filtered in
    let counted : c.gone-count.result ≡ gone_in p = c.gone-count.ensures ∙ ap (λ (x : PathWithRoom). gone_in x.path) (sym c.self.view_is) in
    let same = rest_by_filter c.self.inside.run p c.gone-count.result c.later-first.result c.retain.new.self.items c.self.invariant counted c.later-first.ensures items in
    same ∙ ap (λ (x : PathWithRoom). rest_of_path x.path) c.self.view_is
