use Rattle.std.proofs.Common.{rules}
use Rattle.rb_want.proofs.Waiting.{if_ok, trusted_yet, untrusted}
use Rattle.rb_want.proofs.judged.Steps.may_be_trusted.Goals as goal

-- the set that the record names
pub returns : goal.returns
returns c = record {
  lacks = if_ok c.may_have_set.result _ _
      (λ answer lacks denied. untrusted c.args.self.now c.args.trusted _ c.in-Some.record _ c.in-Some.ensures.found (search rules) (search rules) (lacks denied))
      c.may_have_set.ensures.lacks;
  may = if_ok c.may_have_set.result _ _
      (λ answer may given. trusted_yet c.args.self.now c.args.trusted _ c.in-Some.record _ c.in-Some.ensures.found (search rules) (search rules) (may given))
      c.may_have_set.ensures.may;
}
