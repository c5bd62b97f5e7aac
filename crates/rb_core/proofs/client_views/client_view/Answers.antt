use Rattle.std.proofs.Common.{◌≡◌, Some, sym, ap, ◌∙◌}
use Rattle.rb_plan_client.specs.Draft.{Job}
use Rattle.rb_core.specs.State.{state_view}
use Rattle.rb_core_model.specs.Machine.{job_of}
use Rattle.rb_core.proofs.Shown.{client_seen}
use Rattle.rb_core.proofs.client_views.client_view.Goals as goal

pub job_of-requires : goal.job_of-requires
job_of-requires g c =
    let s = state_view c.args.state.now in
    let window = c.in-Some-window.window in
    let k = c.in-Some.client_state.now.client in
    c.requires (job_of s c.args.client window k) (client_seen s c.args.client window k c.in-Some-window.is c.in-Some.ensures)

pub returns-clause-view : goal.returns-clause-view
returns-clause-view g c =
    let s = state_view c.args.state.now in
    client_seen s c.args.client c.in-Some-window.window c.in-Some.client_state.now.client c.in-Some-window.is c.in-Some.ensures ∙ ap (λ (job : Job). Some job) (sym c.in_ok-job.ensures)
