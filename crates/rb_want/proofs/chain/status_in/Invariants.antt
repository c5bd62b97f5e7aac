use Rattle.std.specs.Prelude.{◌≡◌, take}
use Rattle.rb_want.specs.Clients.{status_in}
use Rattle.rb_want.proofs.chain.status_in.Given as goal

-- the last of the answers so far
abbrev pub invariant-loop-content : goal.invariant-loop-content
invariant-loop-content l = l.last ≡ status_in (take l.content-index l.contents)
