use Rattle.std.proofs.Common.{◌≡◌, take}
use Rattle.std.specs.List.{flat_map}
use Rattle.rb_scan.specs.Owed.{messages}
use Rattle.rb_scan.proofs.scan.list.Given as goal

abbrev pub invariant-loop-kind : goal.invariant-loop-kind
invariant-loop-kind g l = l.list.items ≡ flat_map (messages l.view) (take l.kind-index l.kinds)
