use Rattle.std.proofs.Common.{AllPairs, subst, refl, rules, arith}
use Rattle.std.proofs.lemmas.Bool.{false≢true}
use Rattle.std.proofs.lemmas.List.{take_all}
use Rattle.rb_script_types.proofs.Pairs.{pairs_more, pairs_before}
use Rattle.rb_script_types.proofs.differing.all_differ.Goals as goal

pub loop-place-preserved : goal.loop-place-preserved
loop-place-preserved g c =
    pairs_more g.T.Differ.Differs c.args.items.now c.loop-place.place c.index-items-place.result c.loop-place-test.true c.index-items-place.is
    c.loop-place.invariant (c.differs_from_all.ensures.0 (search rules))

pub returns-then-not-differs_from_all : goal.returns-then-not-differs_from_all
returns-then-not-differs_from_all g c =
    ((λ h. absurd (false≢true h)), (λ pairs. search (rules, c.differs_from_all.ensures.1 (pairs_before g.T.Differ.Differs c.args.items.now c.loop-place.place c.index-items-place.result c.loop-place-test.true c.index-items-place.is pairs))))

pub returns : goal.returns
returns g c = ((λ h. subst (AllPairs g.T.Differ.Differs) (take_all c.loop-place.place c.args.items.now (omega arith)) c.loop-place.invariant), (λ h. refl))
