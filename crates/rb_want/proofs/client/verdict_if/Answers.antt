use Rattle.std.proofs.Common.{None, refl, subst, sym}
use Rattle.rb_want.specs.Judgements.{IsSaidIf}
use Rattle.rb_want.proofs.Waiting.{if_ok}
use Rattle.rb_want.proofs.client.verdict_if.Goals as goal

-- what the step rule says of the refused step
pub returns-in-Some : goal.returns-in-Some
returns-in-Some c =
    if_ok c.verdict_on.result _ _ (λ said is. subst (λ r. IsSaidIf c.args.steps.now c.args.trusted r said) (sym c.in-Some.is) is) c.verdict_on.ensures

-- none was refused
pub returns-in-None : goal.returns-in-None
returns-in-None c = subst (λ r. IsSaidIf c.args.steps.now c.args.trusted r None) (sym c.in-None.is) refl
