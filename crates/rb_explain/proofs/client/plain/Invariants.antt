use Rattle.std.proofs.Common.{◌≡◌, map, take}
use Rattle.rb_super_turn.specs.declared.report.PricedUpdate.{PricedUpdate}
use Rattle.rb_explain.proofs.client.plain.Given as goal

abbrev pub invariant-loop-priced : goal.invariant-loop-priced
invariant-loop-priced g l = l.list.items ≡ map (λ (u : PricedUpdate _). u.update) (take l.priced-index l.updates)
