use Rattle.std.proofs.Common.{rules}
use Rattle.rb_import_merge.specs.Sets.{NamesNext}
use Rattle.rb_import_merge.proofs.Naming.{gains_all, gains_more, gains_start}
use Rattle.rb_import_merge.proofs.sets.add_of_records.Goals as goal

pub loop-record-init : goal.loop-record-init
loop-record-init c = gains_start (NamesNext c.args.sets.now.sets.items) c.args.records.now c.args.places.now.items

pub loop-record-preserved : goal.loop-record-preserved
loop-record-preserved c =
    gains_more (NamesNext c.args.sets.now.sets.items) c.args.records.now c.loop-record.record-index c.record-item.result c.args.places.now.items c.loop-record.places.items _ (search rules) (search rules)
    c.loop-record.invariant c.in_ok-add_place.ensures

pub returns : goal.returns
returns c = gains_all (NamesNext c.args.sets.now.sets.items) c.args.records.now c.loop-record.record-index c.args.places.now.items c.loop-record.places.items (search rules) c.loop-record.invariant
