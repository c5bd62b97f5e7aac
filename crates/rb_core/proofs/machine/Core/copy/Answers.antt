use Rattle.std.proofs.Common.{List, sym, ap, ◌∙◌, subst}
use Rattle.rb_script_types.specs.Config.{Config}
use Rattle.rb_core.specs.Core.{Core, IsFold}
use Rattle.rb_core.specs.State.{start_of}
use Rattle.rb_core_model.specs.Entry.{Logged, log_from}
use Rattle.rb_core_model.specs.Machine.{State}
use Rattle.rb_core_model.specs.Snapshot.{Snapshot}
use Rattle.rb_core.proofs.machine.Core.copy.Goals as goal

pub invariant_of-result : goal.invariant_of-result
invariant_of-result g c =
    subst (λ (p : Config × Snapshot × List Logged × State). IsFold p.0 (log_from p.0 p.1 p.2) p.3)
    (λ i. (sym c.in_ok-copy.ensures i, start_of (sym c.in_ok-share_begun.ensures i), sym (c.in_ok-share_entries.ensures ∙ c.as_slice.ensures.value) i, sym c.in_ok-copy_state.ensures i))
    c.self.invariant

pub returns-clause-config : goal.returns-clause-config
returns-clause-config g c = c.in_ok-copy.ensures ∙ ap (λ (x : Core). x.config) c.self.view_is

pub returns-clause-log : goal.returns-clause-log
returns-clause-log g c =
    (λ i. log_from (c.in_ok-copy.ensures i) (start_of (c.in_ok-share_begun.ensures i)) ((c.in_ok-share_entries.ensures ∙ c.as_slice.ensures.value) i))
    ∙ ap (λ (x : Core). x.log) c.self.view_is
