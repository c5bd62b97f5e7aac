use Rattle.std.proofs.Common.{◌≡◌, ◌++◌, map}
use Rattle.std.specs.List.{flat_map}
use Rattle.rb_import.specs.Events.{set_at}
use Rattle.rb_import.proofs.chains.push_sets.Given as goal

-- the sets at the places so far are added
abbrev pub invariant-loop-number : goal.invariant-loop-number
invariant-loop-number l = l.events.items ≡ l.initial.events.items ++ flat_map (set_at l.place l.chain) (map (λ p. p.now) l.yielded)
