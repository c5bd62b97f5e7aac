use Rattle.std.proofs.Common.{arith, ap, ◌∙◌}
use Rattle.std.specs.Prelude.{is_some, string_bytes}
use Rattle.ibcplan_folders.proofs.Leaving.{left_once}
use Rattle.ibcplan_folders.proofs.left_out.LeftOut.without_all.Goals as goal

pub loop-failure-preserved : goal.loop-failure-preserved
loop-failure-preserved c =
    let rest = c.in_ok-rest-2.ensures in
    let before = c.loop-failure.invariant in
    let not_more = rest.not_more in
    let fewer = before.fewer in
    record {
      fewer = omega (arith, not_more, fewer);
      told = ap (λ o. is_some o) rest.told ∙ before.told;
      left = left_once (string_bytes c.in-Some.failure.id) c.args.fleet c.loop-failure.rest c.in_ok-rest-2.rest before.left rest.left;
    }
