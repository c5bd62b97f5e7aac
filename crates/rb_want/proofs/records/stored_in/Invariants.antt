use Rattle.std.specs.Prelude.{◌≡◌, map, take}
use Rattle.rb_want.specs.Clients.{stored_in}
use Rattle.rb_want.proofs.records.stored_in.Given as goal

-- the states of the answers so far
abbrev pub invariant-loop-content : goal.invariant-loop-content
invariant-loop-content l = map (λ r. r.now) l.stored.items ≡ stored_in l.revision (take l.content-index l.contents)
