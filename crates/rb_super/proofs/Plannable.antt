-- When the clients of how things stand can be planned for.
use Rattle.std.proofs.Common.{◌≡◌, ℕ, Some}
use Rattle.std.specs.List.{slice_get}
use Rattle.rb_base.specs.Window.{Span}
use Rattle.rb_step.specs.View.{IsView}
use Rattle.rb_plan_client.specs.Task.{view_of}
use Rattle.rb_core_model.specs.Standing.{ClientState, Standing, task_in}
use Rattle.rb_super.specs.Remains.{AreRouted}

-- what clients are planned by are views, and each tracks the chain of its paths
pub record IsPlannable (s : Standing) : Type 0 where
  pub views : (client : ℕ) (c : ClientState) (w : Span) → slice_get s.clients client ≡ Some c → s.window ≡ Some w
      → IsView (view_of (task_in s w client c))
  pub routed : AreRouted s
