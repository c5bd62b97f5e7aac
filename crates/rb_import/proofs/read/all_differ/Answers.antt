use Rattle.std.proofs.Common.{◌≢◌, All, AllPairs, take, subst, sym, refl, rules, arith}
use Rattle.std.proofs.lemmas.Bool.{false≢true}
use Rattle.std.proofs.lemmas.List.{take_all}
use Rattle.rb_import.proofs.Lists.{pairs_before, pairs_more}
use Rattle.rb_import.proofs.read.all_differ.Goals as goal

pub loop-number-preserved : goal.loop-number-preserved
loop-number-preserved g c =
    let before = take c.loop-number.number c.args.items.now in
    pairs_more (λ a b. g.T.Placed.place a ≢ g.T.Placed.place b) c.args.items.now c.loop-number.number c.index-items-number.result c.loop-number-test.true
    c.index-items-number.is c.loop-number.invariant
    (subst (λ p. All (λ other. g.T.Placed.place other ≢ p) before) c.place.ensures (c.differs_from_all.ensures.0 (search rules)))

pub returns-then-not-differs_from_all : goal.returns-then-not-differs_from_all
returns-then-not-differs_from_all g c =
    let before = take c.loop-number.number c.args.items.now in (
      (λ h. absurd (false≢true h)),
      (λ pairs. search (
        rules,
        c.differs_from_all.ensures.1 (subst (λ p. All (λ other. g.T.Placed.place other ≢ p) before) (sym c.place.ensures)
            (pairs_before (λ a b. g.T.Placed.place a ≢ g.T.Placed.place b) c.args.items.now c.loop-number.number c.index-items-number.result c.loop-number-test.true c.index-items-number.is pairs)),
      )),
    )

pub returns : goal.returns
returns g c = ((λ h. subst (AllPairs (λ a b. g.T.Placed.place a ≢ g.T.Placed.place b)) (take_all c.loop-number.number c.args.items.now (omega arith)) c.loop-number.invariant), (λ h. refl))
