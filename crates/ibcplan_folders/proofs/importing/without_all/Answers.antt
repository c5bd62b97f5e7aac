use Rattle.std.proofs.Common.{sym, ◌∙◌}
use Rattle.std.proofs.lemmas.Bool.{true≢false}
use Rattle.ibcplan_folders.proofs.Leaving.{left_failed}
use Rattle.ibcplan_folders.proofs.importing.without_all.Goals as goal

pub loop-failure-preserved : goal.loop-failure-preserved
loop-failure-preserved c = record {
  left = left_failed c.loop-failure.yielded c.in-Some.failure c.args.fleet c.loop-failure.fleet c.in_ok-fleet.fleet c.loop-failure.invariant.left c.in_ok-fleet.ensures.left;
  whole = λ none. absurd (true≢false (sym c.in_ok-fleet.ensures.told ∙ none));
}
