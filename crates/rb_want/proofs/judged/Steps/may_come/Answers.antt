use Rattle.std.proofs.Common.{rules}
use Rattle.rb_want.proofs.Waiting.{headless, if_ok, signed_yet}
use Rattle.rb_want.proofs.judged.Steps.may_come.Goals as goal

-- the set of the header
pub returns : goal.returns
returns c = record {
  lacks = if_ok c.may_have_set.result _ _
      (λ answer lacks denied. headless c.args.self.now c.args.height _ c.in-Some.signed.now c.in-Some.ensures.found (search rules) (lacks denied))
      c.may_have_set.ensures.lacks;
  may = if_ok c.may_have_set.result _ _
      (λ answer may given. signed_yet c.args.self.now c.args.height _ c.in-Some.signed.now c.in-Some.ensures.found (search rules) (may given))
      c.may_have_set.ensures.may;
}
