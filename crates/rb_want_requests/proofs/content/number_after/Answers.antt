use Rattle.std.proofs.Common.{ℕ, List, ◌++◌, ap, sym, ◌∙◌}
use Rattle.rb_want_requests.proofs.Numbers.{numbered, unnumbered}
use Rattle.rb_want_requests.proofs.content.number_after.Goals as goal

pub returns-in_default : goal.returns-in_default
returns-in_default c = unnumbered c.args.front.now c.args.name.now c.in_default.ensures.cases

pub returns : goal.returns
returns c =
    let begun = c.in-Some.ensures.cases in
    c.number_of.ensures ∙ numbered c.args.front.now c.args.name.now c.in-Some.digits.now (begun.1.1 ∙ ap (λ (xs : List ℕ). c.args.front.now ++ xs) (sym begun.2))
