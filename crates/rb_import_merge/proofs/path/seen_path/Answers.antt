use Rattle.std.proofs.Common.{◌≡◌, ◌∙◌, List, map, sym, subst, ap, All}
use Rattle.std.specs.Prelude.{string_bytes}
use Rattle.std.specs.List.Sorted.{IsStrictlyIncreasing, IsStrictlySortedBy}
use Rattle.rb_import_merge.specs.declared.left_out.LeftOutPacket.{LeftOutPacket}
use Rattle.rb_import_merge.specs.declared.packets.SeenPacket.{SeenPacket}
use Rattle.rb_import_merge.specs.LeftOut.{HasSurplus, sent_in, sequence_of, surplus_of}
use Rattle.rb_import_merge.specs.Lowest.{packet_cmp}
use Rattle.rb_import_merge.specs.Packets.{Expires, HaveEvents, IsOfFile, IsOfPath, some_timed_out}
use Rattle.rb_import_merge.proofs.Taking.{all_have_before, all_taken, has_surplus, have_committed, have_taken, permuted, stayed}
use Rattle.rb_import_merge.proofs.Telling.{timed_out_same}
use Rattle.rb_import_merge.proofs.path.seen_path.Goals as goal

pub left_out_of-requires-clause-order : goal.left_out_of-requires-clause-order
left_out_of-requires-clause-order c = subst (IsStrictlySortedBy packet_cmp) (sym c.as_slice.ensures.value) c.in_ok-events.ensures.order

pub left_out_of-requires-clause-those : goal.left_out_of-requires-clause-those
left_out_of-requires-clause-those c = subst (HaveEvents c.args.setup.now c.args.answers.now) (sym c.as_slice.ensures.value) c.in_ok-events.ensures.events

pub left_out_of-requires-clause-files : goal.left_out_of-requires-clause-files
left_out_of-requires-clause-files c = subst (All (IsOfFile c.args.answers.now)) (sym c.as_slice.ensures.value) c.in_ok-events.ensures.files

pub staying_of-staying-requires : goal.staying_of-staying-requires
staying_of-staying-requires c = subst (λ (l : List LeftOutPacket). IsStrictlyIncreasing (map sequence_of l)) (sym c.as_slice-3.ensures.value) c.in_ok-left_out.ensures.1

pub returns-clause-path : goal.returns-clause-path
returns-clause-path c =
    all_taken c.args.setup.now c.args.answers.now c.in_ok-left_out.left_out.items c.in_ok-left_out.ensures (IsOfPath c.args.setup.now c.args.answers.now) c.in_ok-surplus.surplus c.in_ok-events.events.items c.in_ok-packets.packets.items c.in_ok-events.ensures.path
    (permuted c.args.setup.now.config.order c.in_ok-left_out.left_out.items c.as_slice-3.result.now c.in_ok-surplus.surplus c.in_ok-events.events.items c.staying_of-staying.result.items c.fitting_of.result.items c.in_ok-packets.packets.items c.as_slice-3.ensures.value c.staying_of-staying.ensures c.fitting_of.ensures c.in_ok-packets.ensures.same)

pub returns-clause-events : goal.returns-clause-events
returns-clause-events c =
    have_taken c.args.setup.now c.args.answers.now c.in_ok-left_out.left_out.items c.in_ok-left_out.ensures c.in_ok-surplus.surplus c.in_ok-events.events.items c.in_ok-packets.packets.items c.in_ok-events.ensures.order c.in_ok-events.ensures.events
    (permuted c.args.setup.now.config.order c.in_ok-left_out.left_out.items c.as_slice-3.result.now c.in_ok-surplus.surplus c.in_ok-events.events.items c.staying_of-staying.result.items c.fitting_of.result.items c.in_ok-packets.packets.items c.as_slice-3.ensures.value c.staying_of-staying.ensures c.fitting_of.ensures c.in_ok-packets.ensures.same)

pub returns-clause-files : goal.returns-clause-files
returns-clause-files c =
    all_taken c.args.setup.now c.args.answers.now c.in_ok-left_out.left_out.items c.in_ok-left_out.ensures (IsOfFile c.args.answers.now) c.in_ok-surplus.surplus c.in_ok-events.events.items c.in_ok-packets.packets.items c.in_ok-events.ensures.files
    (permuted c.args.setup.now.config.order c.in_ok-left_out.left_out.items c.as_slice-3.result.now c.in_ok-surplus.surplus c.in_ok-events.events.items c.staying_of-staying.result.items c.fitting_of.result.items c.in_ok-packets.packets.items c.as_slice-3.ensures.value c.staying_of-staying.ensures c.fitting_of.ensures c.in_ok-packets.ensures.same)

pub returns-clause-expiry : goal.returns-clause-expiry
returns-clause-expiry c =
    all_taken c.args.setup.now c.args.answers.now c.in_ok-left_out.left_out.items c.in_ok-left_out.ensures (Expires c.args.dest.now) c.in_ok-surplus.surplus c.in_ok-events.events.items c.in_ok-packets.packets.items c.in_ok-events.ensures.expiry
    (permuted c.args.setup.now.config.order c.in_ok-left_out.left_out.items c.as_slice-3.result.now c.in_ok-surplus.surplus c.in_ok-events.events.items c.staying_of-staying.result.items c.fitting_of.result.items c.in_ok-packets.packets.items c.as_slice-3.ensures.value c.staying_of-staying.ensures c.fitting_of.ensures c.in_ok-packets.ensures.same)

pub returns-clause-source : goal.returns-clause-source
returns-clause-source c = λ none.
    let (source, all) = c.in_ok-events.ensures.source none in (
      source,
      all_taken c.args.setup.now c.args.answers.now c.in_ok-left_out.left_out.items c.in_ok-left_out.ensures (λ (p : SeenPacket). string_bytes p.event.now.source ≡ source) c.in_ok-surplus.surplus c.in_ok-events.events.items c.in_ok-packets.packets.items all
          (permuted c.args.setup.now.config.order c.in_ok-left_out.left_out.items c.as_slice-3.result.now c.in_ok-surplus.surplus c.in_ok-events.events.items c.staying_of-staying.result.items c.fitting_of.result.items c.in_ok-packets.packets.items c.as_slice-3.ensures.value c.staying_of-staying.ensures c.fitting_of.ensures c.in_ok-packets.ensures.same),
    )

pub returns-clause-before : goal.returns-clause-before
returns-clause-before c =
    all_have_before c.args.setup.now c.args.answers.now c.in_ok-surplus.surplus c.in_ok-packets.packets.items
    (have_taken c.args.setup.now c.args.answers.now c.in_ok-left_out.left_out.items c.in_ok-left_out.ensures c.in_ok-surplus.surplus c.in_ok-events.events.items c.in_ok-packets.packets.items c.in_ok-events.ensures.order c.in_ok-events.ensures.events
    (permuted c.args.setup.now.config.order c.in_ok-left_out.left_out.items c.as_slice-3.result.now c.in_ok-surplus.surplus c.in_ok-events.events.items c.staying_of-staying.result.items c.fitting_of.result.items c.in_ok-packets.packets.items c.as_slice-3.ensures.value c.staying_of-staying.ensures c.fitting_of.ensures c.in_ok-packets.ensures.same))

pub returns-clause-pending : goal.returns-clause-pending
returns-clause-pending c =
    have_committed c.args.setup.now c.args.answers.now c.in_ok-surplus.surplus c.in_ok-packets.packets.items
    (have_taken c.args.setup.now c.args.answers.now c.in_ok-left_out.left_out.items c.in_ok-left_out.ensures c.in_ok-surplus.surplus c.in_ok-events.events.items c.in_ok-packets.packets.items c.in_ok-events.ensures.order c.in_ok-events.ensures.events
    (permuted c.args.setup.now.config.order c.in_ok-left_out.left_out.items c.as_slice-3.result.now c.in_ok-surplus.surplus c.in_ok-events.events.items c.staying_of-staying.result.items c.fitting_of.result.items c.in_ok-packets.packets.items c.as_slice-3.ensures.value c.staying_of-staying.ensures c.fitting_of.ensures c.in_ok-packets.ensures.same)) c.in_ok-events.ensures.last_page

pub returns-clause-surplus : goal.returns-clause-surplus
returns-clause-surplus c =
    let staying = stayed c.args.setup.now.config.order c.in_ok-left_out.left_out.items c.as_slice-3.result.now c.in_ok-events.events.items c.staying_of-staying.result.items c.as_slice-3.ensures.value c.staying_of-staying.ensures in
    subst (HasSurplus c.args.setup.now c.args.answers.now) (sym (c.in_ok-surplus.ensures ∙ ap (λ (l : List SeenPacket). surplus_of (sent_in l)) c.as_slice-4.ensures.value))
    (has_surplus c.args.setup.now c.args.answers.now c.in_ok-left_out.left_out.items c.in_ok-left_out.ensures c.in_ok-events.events.items c.staying_of-staying.result.items c.in_ok-events.ensures.order c.in_ok-events.ensures.events staying)

pub returns-clause-timed_out : goal.returns-clause-timed_out
returns-clause-timed_out c =
    c.some_timed_out-timed_out.ensures ∙ ap some_timed_out c.as_slice-2.ensures.value ∙ timed_out_same c.args.setup.now c.args.answers.now c.in_ok-events.events.items c.in_ok-events.ensures.events
