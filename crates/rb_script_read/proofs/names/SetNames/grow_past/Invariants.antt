use Rattle.std.proofs.Common.{◌≡◌, ◌+◌, ◌-◌, vec_len}
use Rattle.rb_script_read.specs.Names.{names_of}
use Rattle.rb_script_read.proofs.names.SetNames.grow_past.Given as goal

-- no name is added
abbrev pub invariant-loop-self : goal.invariant-loop-self
invariant-loop-self l = names_of l.self ≡ names_of l.fn.self

abbrev pub decreases-loop-self : goal.decreases-loop-self
decreases-loop-self l = l.chain + 1 - vec_len l.self.chains
