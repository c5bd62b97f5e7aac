use Rattle.std.proofs.Common.{◌≡◌, nat_le, sym, ap, ◌∙◌}
use Rattle.std.specs.List.{filter}
use Rattle.rb_script_types.specs.declared.config.ClientConfig.{ClientConfig}
use Rattle.rb_core_state.specs.Floors.{floor_in, floor_or_none}
use Rattle.rb_core_state.proofs.Forgotten.{heights-none}
use Rattle.rb_core_state.proofs.clients.forget_below.Goals as goal

pub returns-in_default : goal.returns-in_default
returns-in_default g c =
    let client = c.args.client.now.client in
    let none : 0 ≡ floor_in c.args.floors.now client.config.tracks =
    sym (ap floor_or_none (sym c.floor_at.ensures ∙ c.in_default.is)) ∙ ap (λ (k : ClientConfig). floor_in c.args.floors.now k.tracks) c.config.ensures in
    (λ i. record client { stored = sym (heights-none client.stored) i }) ∙ (λ i. record client { stored = filter (nat_le (none i)) client.stored })
