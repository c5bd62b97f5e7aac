use Rattle.std.proofs.Common.{◌≡◌, List, get_or, length, map, subst, sym, ap, ◌∙◌, arith}
use Rattle.std.proofs.lemmas.List.{take_all}
use Rattle.std.proofs.lemmas.Option.{get_or_from_slice_get, slice_get_within}
use Rattle.rb_base.specs.Fraction.{two_thirds}
use Rattle.rb_valset.specs.Validator.{Member}
use Rattle.rb_valset.specs.ValidatorSet.{total_of}
use Rattle.rb_step.specs.SignedPower.{signed_power}
use Rattle.rb_step.specs.Answer.{exceeds}
use Rattle.rb_graph.specs.StoredRow.{own_set, stored_power, stored_row_of}
use Rattle.rb_graph.specs.Numbering.{AreNumbered, entries_of}
use Rattle.rb_graph.proofs.Exceeded.{exceeds-test}
use Rattle.rb_graph.proofs.Numbering.{map_step}
use Rattle.rb_graph.proofs.Inserted.{made_at}
use Rattle.rb_graph.proofs.build.stored_row_by_columns.Goals as goal

pub voters_plane-requires-clause-numbered : goal.voters_plane-requires-clause-numbered
voters_plane-requires-clause-numbered g c =
    let b = c.args.book.now in
    let own : List Member = own_set b c.args.header.now in
    subst (AreNumbered c.args.columns.now) (get_or_from_slice_get b.sets c.args.own_place own own c.requires.own ∙ sym c.own_at-own.ensures.own)
    (c.requires.numbered c.args.own_place own (slice_get_within b.sets c.args.own_place own c.requires.own))

pub voters_plane-requires-clause-tally : goal.voters_plane-requires-clause-tally
voters_plane-requires-clause-tally g c =
    let b = c.args.book.now in
    c.index-tallies-own_place.is
    ∙ made_at (entries_of c.args.columns.now) b.sets c.args.tallies.now c.args.own_place (own_set b c.args.header.now) c.index-tallies-own_place.result c.requires.tallies c.requires.own
    ∙ ap (entries_of c.args.columns.now) (sym c.own_at-own.ensures.own)

pub tallied-own_signed-requires-clause-numbered : goal.tallied-own_signed-requires-clause-numbered
tallied-own_signed-requires-clause-numbered g c =
    let b = c.args.book.now in
    let own : List Member = own_set b c.args.header.now in
    subst (AreNumbered c.args.columns.now) (get_or_from_slice_get b.sets c.args.own_place own own c.requires.own ∙ sym c.own_at-own.ensures.own)
    (c.requires.numbered c.args.own_place own (slice_get_within b.sets c.args.own_place own c.requires.own))

pub tallied-own_signed-requires-clause-tally : goal.tallied-own_signed-requires-clause-tally
tallied-own_signed-requires-clause-tally g c =
    let b = c.args.book.now in
    c.index-tallies-own_place.is
    ∙ made_at (entries_of c.args.columns.now) b.sets c.args.tallies.now c.args.own_place (own_set b c.args.header.now) c.index-tallies-own_place.result c.requires.tallies c.requires.own
    ∙ ap (entries_of c.args.columns.now) (sym c.own_at-own.ensures.own)

pub tallied-own_signed-requires-clause-own : goal.tallied-own_signed-requires-clause-own
tallied-own_signed-requires-clause-own g c =
    let b = c.args.book.now in
    let own : List Member = own_set b c.args.header.now in
    subst (AreNumbered c.args.columns.now) (get_or_from_slice_get b.sets c.args.own_place own own c.requires.own ∙ sym c.own_at-own.ensures.own)
    (c.requires.numbered c.args.own_place own (slice_get_within b.sets c.args.own_place own c.requires.own))

pub tallied-own_signed-requires-clause-own_tally : goal.tallied-own_signed-requires-clause-own_tally
tallied-own_signed-requires-clause-own_tally g c =
    let b = c.args.book.now in
    c.index-tallies-own_place.is
    ∙ made_at (entries_of c.args.columns.now) b.sets c.args.tallies.now c.args.own_place (own_set b c.args.header.now) c.index-tallies-own_place.result c.requires.tallies c.requires.own
    ∙ ap (entries_of c.args.columns.now) (sym c.own_at-own.ensures.own)

pub stored_power-requires-clause-own_numbered : goal.stored_power-requires-clause-own_numbered
stored_power-requires-clause-own_numbered g c =
    let b = c.args.book.now in
    let own : List Member = own_set b c.args.header.now in
    subst (AreNumbered c.args.columns.now) (get_or_from_slice_get b.sets c.args.own_place own own c.requires.own ∙ sym c.own_at-own.ensures.own)
    (c.requires.numbered c.args.own_place own (slice_get_within b.sets c.args.own_place own c.requires.own))

pub stored_power-requires-clause-own_tally : goal.stored_power-requires-clause-own_tally
stored_power-requires-clause-own_tally g c =
    let b = c.args.book.now in
    c.index-tallies-own_place.is
    ∙ made_at (entries_of c.args.columns.now) b.sets c.args.tallies.now c.args.own_place (own_set b c.args.header.now) c.index-tallies-own_place.result c.requires.tallies c.requires.own
    ∙ ap (entries_of c.args.columns.now) (sym c.own_at-own.ensures.own)

pub stored_power-requires-clause-numbered : goal.stored_power-requires-clause-numbered
stored_power-requires-clause-numbered g c =
    let same = c.sets-set-items.ensures.value in
    subst (AreNumbered c.args.columns.now) (sym (c.set-item.is ∙ ap (λ (ss : List (List Member)). get_or ss c.loop-place.place c.set-item.result) same))
    (c.requires.numbered c.loop-place.place c.set-item.result (omega (arith, ap (λ (ss : List (List Member)). length ss) same)))

pub loop-place-preserved : goal.loop-place-preserved
loop-place-preserved g c =
    map_step (stored_power c.args.book.now c.args.header.now) c.args.book.now.sets c.sets-set-items.result.now c.loop-place.place c.set-item.result c.loop-place.signed.items c.push.new.self.items c.stored_power.result
    c.sets-set-items.ensures.value (omega arith) c.set-item.is c.loop-place.invariant c.stored_power.ensures c.in_ok-push.ensures.items

pub returns : goal.returns
unfolding stored_row_of
returns g c =
    let b = c.args.book.now in
    let h = c.args.header.now in
    let own = c.own_at-own.result.now in
    let e : own ≡ own_set b h = c.own_at-own.ensures.own in
    let size : c.size.result ≡ length (own_set b h) = c.size.ensures.value ∙ ap (λ (s : List Member). length s) e in
    let power : c.tallied-own_signed.result ≡ signed_power (own_set b h) (own_set b h) h = c.tallied-own_signed.ensures ∙ ap (λ (s : List Member). signed_power s s h) e in
    let total : c.total.result ≡ total_of (own_set b h) = c.total.ensures.value ∙ ap total_of e in
    let test : c.is_exceeded_by-is_signed.result ≡ exceeds (signed_power (own_set b h) (own_set b h) h) (total_of (own_set b h)) two_thirds =
    exceeds-test c.is_exceeded_by-is_signed.result c.tallied-own_signed.result c.total.result c.two_thirds.result c.is_exceeded_by-is_signed.ensures ∙ (λ i. exceeds (power i) (total i) (c.two_thirds.ensures i)) in
    let kept : c.loop-place.signed.items ≡ map (stored_power b h) b.sets =
    c.loop-place.invariant ∙ ap (map (stored_power b h)) (take_all c.loop-place.place b.sets (omega (arith, ap (λ (ss : List (List Member)). length ss) c.sets-set-items.ensures.value))) in
    c.new.ensures ∙ (λ i. record { size = size i; is_signed = test i; signed = kept i })
