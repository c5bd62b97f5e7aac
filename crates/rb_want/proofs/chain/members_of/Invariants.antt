use Rattle.std.proofs.Common.{◌≡◌, map, take}
use Rattle.rb_import_check.specs.Chains.{validators_of}
use Rattle.rb_want.proofs.chain.members_of.Given as goal

-- the validators of the pages so far
abbrev pub invariant-loop-page : goal.invariant-loop-page
invariant-loop-page l = l.members.items ≡ validators_of (map (λ p. p.now) (take l.page-index l.pages))
