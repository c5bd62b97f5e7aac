use Rattle.std.proofs.Common.{◌≡◌, ◌++◌, take}
use Rattle.std.specs.List.{filter_map}
use Rattle.rb_scan.specs.Owed.{message_of}
use Rattle.rb_scan.proofs.scan.append.Given as goal

abbrev pub invariant-loop-packet : goal.invariant-loop-packet
invariant-loop-packet g l =
    l.list.items ≡ l.initial.list.items ++ filter_map (message_of l.view.destination l.kind) (take l.packet-index l.packet-items)
