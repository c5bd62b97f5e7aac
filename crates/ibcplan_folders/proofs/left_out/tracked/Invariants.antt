use Rattle.std.proofs.Common.{◌≡◌, length}
use Rattle.std.specs.List.{AllZip, enumerate_from}
use Rattle.ibcplan_folders.specs.Leavings.{StaysTracked}
use Rattle.ibcplan_folders.proofs.left_out.tracked.Given as goal

-- the answers of the first chains stay, if a client tracks these
abbrev pub invariant-loop-saved : goal.invariant-loop-saved
invariant-loop-saved l = record {
  place : l.place ≡ length l.yielded;
  left : AllZip (StaysTracked l.setup.clients.items) (enumerate_from 0 l.yielded) l.left.items;
}
