use Rattle.std.specs.Prelude.{◌≡◌, ◌-◌, ◌^◌, min, take}
use Rattle.rb_want.specs.Clients.{members_at}
use Rattle.rb_want.proofs.chain.count_members.Given as goal

-- the validators on the pages so far
abbrev pub invariant-loop-content : goal.invariant-loop-content
invariant-loop-content l = l.members ≡ min (members_at l.height (take l.content-index l.contents)) (2 ^ 64 - 1)
