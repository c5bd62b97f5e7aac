use Rattle.std.proofs.Common.{◌≡◌, None, map, take}
use Rattle.rb_text_export.proofs.windows.InForce.before_all.Given as goal

abbrev pub invariant-loop-chain : goal.invariant-loop-chain
invariant-loop-chain l = l.hosts.items ≡ map (λ chain. None) (take l._chain-index l.chains)
