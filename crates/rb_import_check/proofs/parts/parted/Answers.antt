use Rattle.std.proofs.Common.{◌≡◌, ◌<◌, length, get_or, rules, subst, sym}
use Rattle.std.proofs.lemmas.List.{take_all}
use Rattle.rb_import_check.specs.Chains.{FitsSet}
use Rattle.rb_import_check.proofs.Parting.{all_parted, none_parted, parted_more}
use Rattle.rb_import_check.proofs.parts.parted.Goals as goal

pub loop-commit-init : goal.loop-commit-init
loop-commit-init c =
    none_parted c.args.signatures c.args.sets.now.sets.items c.args.commits.now _ _ _ c.new-parts.ensures.commits c.new-parts.ensures.bare c.new-parts.ensures.unsigned

pub loop-commit-preserved : goal.loop-commit-preserved
loop-commit-preserved c =
    let all = c.args.commits.now in
    let i = c.loop-commit.commit-index in
    let small : i < length all = search rules in
    let is : c.commit-item.result ≡ get_or all i c.commit-item.result = search rules in
    let fits : FitsSet c.args.sets.now.sets.items c.commit-item.result =
    subst (FitsSet c.args.sets.now.sets.items) (sym is) (c.requires.fits i c.commit-item.result small) in
    parted_more c.args.signatures c.args.sets.now.sets.items all c.requires.rising i c.commit-item.result small is fits c.standing_of-standing.result _ _ c.standing_of-standing.ensures c.in_ok-add.ensures c.loop-commit.invariant

pub returns-clause-same : goal.returns-clause-same
returns-clause-same c =
    let all = c.args.commits.now in
    all_parted c.args.signatures c.args.sets.now.sets.items all c.loop-commit.commit-index _ _ _ (take_all c.loop-commit.commit-index all (search rules)) c.loop-commit.invariant
