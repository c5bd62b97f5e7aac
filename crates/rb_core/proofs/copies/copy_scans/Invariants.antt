use Rattle.std.proofs.Common.{◌≡◌, take}
use Rattle.rb_core.proofs.copies.copy_scans.Given as goal

abbrev pub invariant-loop-scan : goal.invariant-loop-scan
invariant-loop-scan g l = l.copies.items ≡ take l.scan-index l.scans
