-- When a client has a goal next (own choice).
use Rattle.std.specs.Prelude.{◌≡◌, ℕ, List, Option}
use Rattle.rb_step.specs.LightClient.{Update}
use Rattle.rb_step.specs.View.{client_of}
use Rattle.rb_plan_types.specs.ProofHeight.{IsProofHeight}
use Rattle.rb_plan_client.specs.Reach.{IsReach}
use Rattle.rb_plan_client.specs.Task.{Task, view_of, next_moment}

-- the moment at which a client has a goal next, by what is known now, once these updates and the messages that go with them are taken; none
-- where nothing that is known gives it one
pub record IsNext (t : Task) (us : List Update) (next : Option ℕ) : Type 0 where
  pub reach : Option ℕ
  pub is_reach : IsReach (client_of (view_of t)) reach
  pub proof : Option ℕ
  pub is_proof : IsProofHeight (client_of (view_of t)) us proof
  pub is : next ≡ next_moment t reach proof us

-- the same where the client can be brought to this height at most
pub record IsNextWithin (t : Task) (reach : Option ℕ) (us : List Update) (next : Option ℕ) : Type 0 where
  pub proof : Option ℕ
  pub is_proof : IsProofHeight (client_of (view_of t)) us proof
  pub is : next ≡ next_moment t reach proof us
