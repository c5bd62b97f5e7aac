use Rattle.std.proofs.Common.{◌≡◌, take}
use Rattle.rb_import_merge.specs.LeftOut.{sent_in}
use Rattle.rb_import_merge.proofs.surplus.sent_in.Given as goal

-- the sequences of those so far that were sent
abbrev pub invariant-loop-seen : goal.invariant-loop-seen
invariant-loop-seen l = l.sequences.items ≡ sent_in (take l.seen-index l.packets)
