-- What holds of every state that events lead to, beside the laws.
use Rattle.std.specs.Prelude.{◌≡◌, ℕ, ◌≤◌, ◌+◌, length, slice_get, IfSome}
use Rattle.rb_core_model.specs.Begun.{max_begun}
use Rattle.rb_core_model.specs.Machine.{State, plan_number}
use Rattle.rb_core_model.specs.Standing.{AreTracked, ClientState}

-- the chains that clients track are there, each client has a plan number and each path its scans, and there are no more plans of a
-- client than events, and no more batches than these and the most that were opened before
pub record HasInvariant (s : State) : Type 0 where
  pub tracked : AreTracked s.standing
  pub plans : length s.plans ≡ length s.standing.clients
  pub scans : length s.scans ≡ length s.standing.paths
  pub batches : (client : ℕ) → IfSome (slice_get s.standing.clients client) (λ (c : ClientState). c.batches ≤ max_begun + s.front)
  pub numbers : (client : ℕ) → plan_number s client ≤ s.front
