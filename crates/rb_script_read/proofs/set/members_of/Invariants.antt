use Rattle.std.proofs.Common.{◌≡◌, take, map, true}
use Rattle.rb_script_read.specs.Sets.{member_of, all_powers}
use Rattle.rb_script_read.proofs.set.members_of.Given as goal

-- what is made so far, and that each of it has a power that is allowed
abbrev pub invariant-loop-validator : goal.invariant-loop-validator
invariant-loop-validator l =
    let before = map member_of (take l.validator-index l.given) in
    record { same : l.members.items ≡ before; powers : all_powers before ≡ true }
