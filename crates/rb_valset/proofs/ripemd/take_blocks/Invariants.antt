use Rattle.std.proofs.Common.{◌≡◌}
use Rattle.rb_valset.specs.Ripemd.{hash_after}
use Rattle.rb_valset.proofs.ripemd.take_blocks.Given as goal

abbrev pub invariant-loop-place : goal.invariant-loop-place
invariant-loop-place l = l.hash ≡ hash_after l.initial.hash l.blocks l.place
