use Rattle.std.proofs.Common.{rules, sym, subst}
use Rattle.rb_import_merge.specs.Sets.{AreKeptSets}
use Rattle.rb_import_merge.proofs.Naming.{keeps_named}
use Rattle.rb_import_merge.proofs.Rooms.{AtEachBefore, at_all, at_none, at_one_more}
use Rattle.rb_import_merge.proofs.sets.kept_sets.Goals as goal

pub loop-place-init : goal.loop-place-init
loop-place-init c =
    subst (AtEachBefore 0 (AreKeptSets c.args.setup.now c.args.records.now) c.args.chains.now) (sym c.in_ok-kept.ensures.items) (at_none (AreKeptSets c.args.setup.now c.args.records.now) c.args.chains.now)

pub loop-place-preserved : goal.loop-place-preserved
loop-place-preserved c =
    at_one_more (AreKeptSets c.args.setup.now c.args.records.now) c.args.chains.now c.loop-place.place c.index-chains-place.result c.in_ok-highest.highest c.loop-place.kept.items c.push.new.self.items
    (search rules) (search rules)
    (keeps_named c.args.setup.now c.args.records.now c.loop-place.place c.index-chains-place.result c.in_ok-named.named.items c.in_ok-highest.highest c.in_ok-named.ensures c.in_ok-highest.ensures)
    c.in_ok-push.ensures.items c.loop-place.invariant

pub returns : goal.returns
returns c = at_all (AreKeptSets c.args.setup.now c.args.records.now) c.args.chains.now c.loop-place.place c.loop-place.kept.items (search rules) c.loop-place.invariant
