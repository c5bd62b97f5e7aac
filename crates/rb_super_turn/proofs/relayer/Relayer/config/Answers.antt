use Rattle.std.proofs.Common.{ap, ◌∙◌, subst}
use Rattle.rb_core.specs.Core.{Core}
use Rattle.rb_core_model.specs.Config.{IsSetUp}
use Rattle.rb_super_turn.proofs.relayer.Relayer.config.Goals as goal

pub returns-clause-value : goal.returns-clause-value
returns-clause-value g c = c.config.ensures.value ∙ c.core.ensures.config ∙ ap (λ (k : Core). k.config) c.self.view_is

pub returns-clause-set_up : goal.returns-clause-set_up
returns-clause-set_up g c = subst IsSetUp (c.core.ensures.config ∙ ap (λ (k : Core). k.config) c.self.view_is) c.config.ensures.set_up
