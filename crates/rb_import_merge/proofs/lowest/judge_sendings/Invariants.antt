use Rattle.std.proofs.Common.{ℕ, ◌+◌, ◌<◌, get_or}
use Rattle.rb_import_merge.specs.Lowest.{AreEqualSendings}
use Rattle.rb_import_merge.specs.declared.packets.SeenPacket.{SeenPacket}
use Rattle.rb_import_merge.proofs.lowest.judge_sendings.Given as goal

-- the neighbours so far are equal, where they tell of one sending
abbrev pub invariant-loop-place : goal.invariant-loop-place
invariant-loop-place l = (k : ℕ) (d : SeenPacket) → k + 1 < l.place → AreEqualSendings (get_or l.packets k d) (get_or l.packets (k + 1) d)
