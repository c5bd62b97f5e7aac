use Rattle.std.proofs.Common.{arith, inl, inr, refl, rules, subst}
use Rattle.rb_want_requests.specs.declared.judge.StepJudgement.TheVariants.{Refused}
use Rattle.rb_want_requests.proofs.Halving.{lower, upper}
use Rattle.rb_want_requests.proofs.searching.halve.Goals as goal

-- from the greatest accepted height up the gap goes from the height that isn't given
pub halvings-preserved-in-Gone : goal.halvings-preserved-in-Gone
halvings-preserved-in-Gone g c =
    let gone = subst (λ j. g.J.Judge.judges c.args.judge.now c.args.trusted c.in-Some.height j) c.in-Gone.is c.in_ok-judge.ensures in
    record {
      above = omega (arith, c.halvings.invariant.above, c.in-Some.ensures.inside.0);
      below = c.in-Some.ensures.inside.1;
      ceiling = c.halvings.invariant.ceiling;
      lower = (omega (arith, c.halvings.invariant.lower.0, c.in-Some.ensures.inside.0), inr gone);
      gap = upper (g.J.Judge.judges c.args.judge.now) c.args.aim.now c.args.trusted c.halvings.gap.floor c.halvings.gap.ceiling c.in-Some.height
          c.halvings.invariant.gap c.in-Some.ensures.inside.0 c.in-Some.ensures.inside.1 c.in-Some.ensures.halves (inr gone);
      accepted = c.halvings.invariant.accepted;
    }

-- the accepted height is the greatest so far
pub halvings-preserved-in-Accepted-2 : goal.halvings-preserved-in-Accepted-2
halvings-preserved-in-Accepted-2 g c =
    let accepted = subst (λ j. g.J.Judge.judges c.args.judge.now c.args.trusted c.in-Some.height j) c.in-Accepted-2.is c.in_ok-judge.ensures in
    record {
      above = omega (arith, c.halvings.invariant.above, c.in-Some.ensures.inside.0);
      below = c.in-Some.ensures.inside.1;
      ceiling = c.halvings.invariant.ceiling;
      lower = (omega arith, inl refl);
      gap = upper (g.J.Judge.judges c.args.judge.now) c.args.aim.now c.args.trusted c.halvings.gap.floor c.halvings.gap.ceiling c.in-Some.height
          c.halvings.invariant.gap c.in-Some.ensures.inside.0 c.in-Some.ensures.inside.1 c.in-Some.ensures.halves (inl accepted);
      accepted = (
        (omega (arith, c.halvings.invariant.above, c.in-Some.ensures.inside.0), omega (arith, c.in-Some.ensures.inside.1, c.halvings.invariant.ceiling.0.1)),
        accepted,
      );
    }

-- the height that is refused is the least so far
pub halvings-preserved : goal.halvings-preserved
halvings-preserved g c =
    let refused = subst (λ j. g.J.Judge.judges c.args.judge.now c.args.trusted c.in-Some.height j) c.in-Refused.is c.in_ok-judge.ensures in
    record {
      above = c.halvings.invariant.above;
      below = c.in-Some.ensures.inside.0;
      ceiling = (
        (omega (arith, c.halvings.invariant.above, c.in-Some.ensures.inside.0), omega (arith, c.in-Some.ensures.inside.1, c.halvings.invariant.ceiling.0.1)),
        (Refused, refused, search rules, search rules),
      );
      lower = c.halvings.invariant.lower;
      gap = lower (g.J.Judge.judges c.args.judge.now) c.args.aim.now c.args.trusted c.halvings.gap.floor c.halvings.gap.ceiling c.in-Some.height
          c.halvings.invariant.gap c.in-Some.ensures.inside.0 c.in-Some.ensures.inside.1 c.in-Some.ensures.halves refused;
      accepted = c.halvings.invariant.accepted;
    }
