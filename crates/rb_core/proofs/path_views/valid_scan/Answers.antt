use Rattle.std.proofs.Common.{◌≡◌, sym, ap, ◌∙◌}
use Rattle.rb_scan.specs.Path.{Path}
use Rattle.rb_core.specs.State.{state_view}
use Rattle.rb_core_model.specs.Machine.{is_view}
use Rattle.rb_core.proofs.Shown.{seen_is}
use Rattle.rb_core.proofs.path_views.valid_scan.Goals as goal

pub returns-then-is_view-clause-view : goal.returns-then-is_view-clause-view
returns-then-is_view-clause-view g c =
    let s = state_view c.args.state.now in
    seen_is s c.args.path c.in-Some.scan.now.view
    (ap (λ (v : Path). is_view s c.args.path v) (sym c.view.ensures) ∙ sym c.is_view.ensures ∙ c.if-is_view.true)
