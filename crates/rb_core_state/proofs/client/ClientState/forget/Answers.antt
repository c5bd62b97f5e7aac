use Rattle.std.proofs.Common.{rules, ◌≡◌, nat_le, sym, ap, ◌∙◌, subst}
use Rattle.std.specs.List.{filter}
use Rattle.std.specs.List.Sorted.{IsStrictlyIncreasing}
use Rattle.std.proofs.lemmas.Fn.{filter_same}
use Rattle.std.proofs.lemmas.List.Kept.{IsStrictlyIncreasing-filter}
use Rattle.rb_core_state.specs.Room.{ClientWithRoom}
use Rattle.rb_core_state.proofs.client.ClientState.forget.Goals as goal

pub invariant_of-self : goal.invariant_of-self
invariant_of-self g c =
    let high = nat_le c.args.below in
    let items : c.retain.new.self.items ≡ filter high c.self.inside.stored.items = filter_same _ high _ (λ x b f' k. search rules) _ _ c.retain.ensures.filtered in
    subst IsStrictlyIncreasing (sym items) (IsStrictlyIncreasing-filter high c.self.inside.stored.items c.self.invariant)

pub returns : goal.returns
returns g c =
    let inside = c.self.inside in
    let high = nat_le c.args.below in
    let items : c.retain.new.self.items ≡ filter high inside.stored.items = filter_same _ high _ (λ x b f' k. search rules) _ _ c.retain.ensures.filtered in
    record {
      client =
          (λ i. record { config = inside.config; window = inside.window; stored = items i; asked = inside.asked; batches = inside.batches; batch = inside.batch })
          ∙ ap (λ (x : ClientWithRoom). record x.client { stored = filter high x.client.stored }) c.self.view_is;
    }
