use Rattle.std.proofs.Common.{sym, ap, ◌∙◌}
use Rattle.rb_core_model.specs.Forgetting.{lowest_late}
use Rattle.rb_core_state.proofs.Late.{none_without}
use Rattle.rb_core_state.proofs.floors.lowest_late.Goals as goal

pub returns-in_err-limit : goal.returns-in_err-limit
returns-in_err-limit g c = c.from_residual.ensures ∙ sym (none_without c.args.book.now) ∙ ap (λ o. lowest_late c.args.book.now o) (sym c.in_err-limit.was)
