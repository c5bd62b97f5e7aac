use Rattle.std.proofs.Common.{rules}
use Rattle.rb_import_check.specs.Sets.{IsPlaceOf}
use Rattle.rb_import_merge.specs.Sets.{NamesSet}
use Rattle.rb_import_merge.proofs.Naming.{gains_both, gains_all, gains_more, gains_start}
use Rattle.rb_import_merge.proofs.sets.add_of_headers.Goals as goal

pub loop-commit-init : goal.loop-commit-init
loop-commit-init c = gains_start (NamesSet c.args.chain.now.sets.sets.items) c.args.chain.now.commits.items c.args.places.now.items

pub loop-commit-preserved : goal.loop-commit-preserved
loop-commit-preserved c =
    let sets = c.args.chain.now.sets.sets.items in
    let commit = c.commit-item.result in
    gains_more (NamesSet sets) c.args.chain.now.commits.items c.loop-commit.commit-index commit c.args.places.now.items c.loop-commit.places.items _ (search rules) (search rules) c.loop-commit.invariant
    (gains_both (IsPlaceOf sets commit.header.now.set) (IsPlaceOf sets commit.header.now.next) c.loop-commit.places.items _ _ c.in_ok-add_place.ensures c.in_ok-add_place-2.ensures)

pub returns : goal.returns
returns c = gains_all (NamesSet c.args.chain.now.sets.sets.items) c.args.chain.now.commits.items c.loop-commit.commit-index c.args.places.now.items c.loop-commit.places.items (search rules) c.loop-commit.invariant
