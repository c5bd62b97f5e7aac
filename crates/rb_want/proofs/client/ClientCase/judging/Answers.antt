use Rattle.std.proofs.Common.{◌∙◌, ap, sym}
use Rattle.rb_base.specs.Options.{ClientOptions}
use Rattle.rb_want.proofs.Seeking.{level_stays}
use Rattle.rb_want.proofs.client.ClientCase.judging.Goals as goal

-- the trust level is in range
pub invariant_of-result : goal.invariant_of-result
invariant_of-result c =
    record {
      same = level_stays c.new.result _ c.in_ok-level.level c.in_ok-trust.trust c.with_trust.result c.new.ensures.ok
          (sym c.ok.ensures.value ∙ c.in_ok-level.was) (ap (λ (o : ClientOptions). o.trust) c.with_trust.ensures);
    }
