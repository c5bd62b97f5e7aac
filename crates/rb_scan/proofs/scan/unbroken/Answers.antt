use Rattle.std.proofs.Common.{◌∙◌, sym}
use Rattle.rb_scan.proofs.Runs.{front_more, front_stops, front_all, front-path}
use Rattle.rb_scan.proofs.scan.unbroken.Goals as goal

pub loop-index-preserved : goal.loop-index-preserved
loop-index-preserved g c =
    front_more c.packets-packets.result.now c.loop-index.index c.loop-index.next c.index-packets-index.result c.loop-index-test.true c.index-packets-index.is
    (sym c.sequence.ensures ∙ sym c.get.ensures.value ∙ c.if-get-next.false) ∙ c.loop-index.invariant

pub returns-then-get-next-clause-packets : goal.returns-then-get-next-clause-packets
returns-then-get-next-clause-packets g c =
    let stops = front_stops c.packets-packets.result.now c.loop-index.index c.loop-index.next c.index-packets-index.result c.loop-index-test.true c.index-packets-index.is
    (λ e. c.if-get-next.true (c.get.ensures.value ∙ c.sequence.ensures ∙ e)) in
    sym stops ∙ c.loop-index.invariant ∙ rw (c.get-next.ensures.value, c.first.ensures, c.packets-packets.ensures.value) (front-path c.args.view.now c.packets-packets.ensures.path)

pub returns-clause-packets : goal.returns-clause-packets
returns-clause-packets g c = sym (front_all c.packets-packets.result.now c.loop-index.index c.loop-index.next c.loop-index-test.false) ∙ c.loop-index.invariant ∙ rw (c.get-next.ensures.value, c.first.ensures, c.packets-packets.ensures.value) (front-path c.args.view.now c.packets-packets.ensures.path)
