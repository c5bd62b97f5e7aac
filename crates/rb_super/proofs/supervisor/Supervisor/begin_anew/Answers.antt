use Rattle.std.proofs.Common.{◌≡◌, Result, Ok, Err, IfOk, sym, ap, ◌∙◌, subst}
use Rattle.rb_core.specs.Core.{Core, state_in}
use Rattle.rb_core_model.specs.Forgetting.{rest_at_floors}
use Rattle.rb_core_model.specs.Machine.{state_of}
use Rattle.rb_super_turn.specs.Phases.{standing_in}
use Rattle.rb_super.proofs.supervisor.Supervisor.begin_anew.Goals as goal

-- what is given back is this core, of which this holds
given : {E : Type 0} (r : Result Core E) (core : Core) (P : Core → Type 0) → IfOk r (λ s. s ≡ core) → P core → IfOk r P
given (Ok s) core P is holds = subst P (sym is) holds
given (Err e) core P is holds = tt

pub returns-clause-config : goal.returns-clause-config
returns-clause-config g c =
    given c.over.result c.in_ok-core.core (λ s. s.config ≡ c.args.self.config) c.over.ensures
    (c.in_ok-core.ensures.config ∙ ap (λ (k : Core). k.config) (c.into_core.ensures ∙ c.self.view_is))

pub returns-clause-standing : goal.returns-clause-standing
returns-clause-standing g c =
    given c.over.result c.in_ok-core.core (λ s. standing_in s ≡ rest_at_floors (standing_in c.args.self)) c.over.ensures
    (c.in_ok-core.ensures.standing ∙ ap (λ (k : Core). rest_at_floors (standing_in k)) (c.into_core.ensures ∙ c.self.view_is))

pub returns-clause-front : goal.returns-clause-front
returns-clause-front g c =
    let core = c.in_ok-core.core in
    given c.over.result core (λ s. (state_in s).front ≡ 0) c.over.ensures (ap (λ log. (state_of core.config log).front) c.in_ok-core.ensures.log)
