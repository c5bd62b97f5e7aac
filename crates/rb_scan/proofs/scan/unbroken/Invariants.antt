use Rattle.std.proofs.Common.{◌≡◌, ◌++◌, take, drop}
use Rattle.rb_scan.proofs.Runs.{front}
use Rattle.rb_scan.proofs.scan.unbroken.Given as goal

abbrev pub invariant-loop-index : goal.invariant-loop-index
invariant-loop-index g l = take l.index l.packets ++ front l.next (drop l.index l.packets) ≡ front l.initial.next l.packets
