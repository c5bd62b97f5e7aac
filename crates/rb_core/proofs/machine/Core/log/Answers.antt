use Rattle.std.proofs.Common.{sym, ap, ◌∙◌}
use Rattle.rb_core.specs.Core.{Core}
use Rattle.rb_core_model.specs.Entry.{log_from}
use Rattle.rb_core.proofs.machine.Core.log.Goals as goal

pub returns : goal.returns
returns g c =
    let config = ap (λ (x : Core). x.config) (sym c.self.view_is) in
    let start = ap (λ (x : Core). x.log.start) (sym c.self.view_is) in
    (λ i. log_from (config i) (start i) (c.as_slice.ensures.value i)) ∙ ap (λ (x : Core). x.log) c.self.view_is
