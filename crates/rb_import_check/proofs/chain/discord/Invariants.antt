use Rattle.std.proofs.Common.{take}
use Rattle.std.specs.List.{AllZip}
use Rattle.rb_import_check.specs.Chains.{IsAbsentOrOf}
use Rattle.rb_import_check.proofs.chain.discord.Given as goal

-- the signatures so far are absent or of the members so far
abbrev pub invariant-loop-place : goal.invariant-loop-place
invariant-loop-place l = AllZip IsAbsentOrOf (take l.place l.signatures) (take l.place l.set)
