use Rattle.std.proofs.Common.{◌++◌, ap, ◌∙◌}
use Rattle.std.specs.List.{flat_map}
use Rattle.std.proofs.lemmas.Iterator.Adapters.{YieldsList-from_rev_slice}
use Rattle.std.proofs.lemmas.Iterator.Consumers.{YieldsList-end}
use Rattle.rb_import.specs.Events.{set_at, set_events}
use Rattle.rb_import.proofs.chains.push_sets.Goals as goal

pub returns : goal.returns
unfolding set_events
returns c =
    let all = YieldsList-end (YieldsList-from_rev_slice c.args.kept.now.places.items (cc)) c.loop-number.yielded _ c.loop-number.yielded_by _ _ c.in-None.is c.next.ensures.steps in
    c.loop-number.invariant ∙ ap (λ l. c.args.events.now.items ++ flat_map (set_at c.args.place c.args.chain.now) l) all.0
