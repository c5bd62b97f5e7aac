use Rattle.std.proofs.Common.{take}
use Rattle.std.specs.List.{AllZip, enumerate_from}
use Rattle.rb_messages.specs.Sources.{TellsAt}
use Rattle.rb_messages.proofs.source.seen_chains.Given as goal

-- what is seen is what the first answers tell
abbrev pub invariant-loop-place : goal.invariant-loop-place
invariant-loop-place l = AllZip (TellsAt l.chains) (take l.place (enumerate_from 0 l.answers)) l.seen.items
