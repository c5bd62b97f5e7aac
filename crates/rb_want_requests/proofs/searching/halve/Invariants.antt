use Rattle.std.proofs.Common.{◌≤◌, ◌<◌, ◌-◌}
use Rattle.std.specs.Prelude.{IfSome, unwrap_or}
use Rattle.rb_want_requests.specs.declared.judge.StepJudgement.TheVariants.{Accepted}
use Rattle.rb_want_requests.specs.Search.{IsFloor, IsWithin}
use Rattle.rb_want_requests.specs.Hop.{IsRefusedStep}
use Rattle.rb_want_requests.proofs.Halving.{IsGap}
use Rattle.rb_want_requests.proofs.searching.halve.Given as goal

-- the gap lies above the trusted height; the step to its ceiling isn't accepted, and that to the greatest accepted height so far is, from which, or else
-- from the trusted one, or from a greater one that isn't given, the gap goes up; halvings leave it
abbrev pub invariant-halvings : goal.invariant-halvings
invariant-halvings g l = record {
  above : l.trusted ≤ l.gap.floor;
  below : l.gap.floor < l.gap.ceiling;
  ceiling : IsRefusedStep (g.J.Judge.judges l.judge) l.aim l.trusted l.gap.ceiling;
  lower : IsFloor (g.J.Judge.judges l.judge) l.trusted (unwrap_or l.accepted l.trusted) l.gap.floor;
  gap : IsGap (g.J.Judge.judges l.judge) l.aim l.trusted l.gap.floor l.gap.ceiling;
  accepted : IfSome l.accepted (λ h. IsWithin l.aim l.trusted h × g.J.Judge.judges l.judge l.trusted h Accepted);
}

-- each halving leaves a smaller gap
abbrev pub decreases-halvings : goal.decreases-halvings
decreases-halvings g l = l.gap.ceiling - l.gap.floor
