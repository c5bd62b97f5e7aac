use Rattle.std.proofs.Common.{ℕ, ◌<◌, IfSome}
use Rattle.std.specs.List.{slice_get}
use Rattle.rb_core.specs.State.{standing_view}
use Rattle.rb_core_model.specs.Fits.{FitsClient}
use Rattle.rb_core.proofs.fitting.fit_clients.Given as goal

abbrev pub invariant-loop-place : goal.invariant-loop-place
invariant-loop-place g l = (client : ℕ) → client < l.place → IfSome (slice_get (standing_view l.state).clients client) (FitsClient (standing_view l.state) client)
