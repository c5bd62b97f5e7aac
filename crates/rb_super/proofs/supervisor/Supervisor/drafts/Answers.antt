use Rattle.std.proofs.Common.{subst}
use Rattle.rb_core_model.specs.Standing.{Standing}
use Rattle.rb_super_turn.specs.Drafts.{AreDrafts}
use Rattle.rb_super.proofs.supervisor.Supervisor.drafts.Goals as goal

pub returns : goal.returns
returns g c = subst (λ (s : Standing). AreDrafts s c.in_ok-drafts.drafts.items) c.in_ok-relayer.ensures.standing c.in_ok-drafts.ensures.drafts
