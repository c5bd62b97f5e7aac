use Rattle.std.proofs.Common.{arith}
use Rattle.std.proofs.lemmas.Grind.{common_steps}
use Rattle.rb_scan.specs.Owed.{message_of}
use Rattle.rb_scan.proofs.Runs.{filter_map_more}
use Rattle.rb_scan.proofs.scan.append.Goals as goal
use Rattle.rb_scan.proofs.scan.append.Goals.{in-Some+in_ok-push, in_default}

pub loop-packet-preserved : goal.loop-packet-preserved
loop-packet-preserved g c =
    let more = filter_map_more (message_of c.args.view.now.destination c.args.kind) c.candidates-packet-items.result.now c.loop-packet.packet-index c.packet-item.result c.loop-packet-test.true c.packet-item.is in
    elim c.match-message_of.branch [ in-Some+in_ok-push w ↦ grind (arith, common_steps) | in_default w ↦ grind (arith, common_steps) ]
