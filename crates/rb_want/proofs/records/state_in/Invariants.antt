use Rattle.std.specs.Prelude.{◌≡◌, take}
use Rattle.std.specs.Option.{option_copied}
use Rattle.rb_want.specs.Clients.{state_in}
use Rattle.rb_want.proofs.records.state_in.Given as goal

-- the last of the answers so far
abbrev pub invariant-loop-content : goal.invariant-loop-content
invariant-loop-content l = option_copied l.last ≡ state_in (take l.content-index l.contents)
