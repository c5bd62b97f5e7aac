-- What is planned for clients, and taken in by nobody.
use Rattle.std.specs.Prelude.{◌≡◌, ℕ, List, length, Some, is_some, slice_get, IsSomeAnd}
use Rattle.rb_base.specs.Window.{Span}
use Rattle.rb_plan_client.specs.Draft.{Draft, IsDraft}
use Rattle.rb_core_model.specs.Machine.{Reply, Noted, Opened}
use Rattle.rb_core_model.specs.Standing.{ClientState, Standing, task_in}

-- a draft for what a client, by its place, is to be brought to as things stand; it says whether a batch of the client is open
pub record IsDraftFor (s : Standing) (place : ℕ) (known : ClientState) (d : Draft) : Type 0 where
  pub client : d.job.client ≡ place
  pub window : Span
  pub is_window : s.window ≡ Some window
  pub task : d.job.task ≡ task_in s window place known
  pub held : d.job.held ≡ is_some known.batch
  pub right : IsDraft d

-- a draft for each client, in their order
pub record AreDrafts (s : Standing) (drafts : List Draft) : Type 0 where
  pub count : length drafts ≡ length s.clients
  pub each : (client : ℕ) (known : ClientState) → slice_get s.clients client ≡ Some known → IsSomeAnd (slice_get drafts client) (IsDraftFor s client known)

-- the number of the batch that a draft opened; 0 where it opened none
abbrev pub number_of : Reply → ℕ
number_of Noted = 0
number_of (Opened number) = number
