use Rattle.std.proofs.Common.{sym, refl}
use Rattle.std.proofs.lemmas.Option.{get_or_from_slice_get, slice_get_within}
use Rattle.rb_book.specs.Header.{Header}
use Rattle.rb_graph.specs.StoredRow.{stored_power}
use Rattle.rb_graph.proofs.Numbering.{map_step}
use Rattle.rb_graph.proofs.reached.late_powers.Goals as goal

pub loop-index-preserved : goal.loop-index-preserved
loop-index-preserved g c =
    let b = c.args.book.now in
    let h = c.header_at-header.result.now in
    let at = c.loop-index.index in
    let there = c.header_at-header.ensures.header in
    map_step (λ (x : Header). stored_power b x c.args.set.now) b.headers b.headers at h c.loop-index.powers.items c.push.new.self.items c.late_power.result
    refl (slice_get_within b.headers at h there) (sym (get_or_from_slice_get b.headers at h h there)) c.loop-index.invariant c.late_power.ensures c.in_ok-push.ensures.items
