-- Laws of batches, over every log.
use Rattle.std.specs.Prelude.{◌≡◌, ℕ, ◌≤◌, Bool, ◌&&◌, ◌==◌, List, ◌∷◌, length, map, filter, All, AllPairs, Contains, Option, Some, None, slice_get}
use Rattle.std.specs.List.{range_with_len}
use Rattle.rb_base.specs.Window.{Span}
use Rattle.rb_script_types.specs.declared.goal.Goal.{Goal}
use Rattle.rb_plan_types.specs.Least.{IsLeast}
use Rattle.rb_plan_types.specs.ProofHeight.{IsProofHeight}
use Rattle.rb_scan.specs.Owed.{next_sequence, same_kind}
use Rattle.rb_scan.specs.Path.{Path}
use Rattle.rb_scan.specs.declared.message.Kind.{Kind}
use Rattle.rb_scan.specs.declared.message.Kind.TheVariants.{Receive}
use Rattle.rb_scan.specs.declared.path.Order.TheVariants.{Ordered}
use Rattle.rb_step.specs.View.{client_of}
use Rattle.rb_script_types.specs.Config.{Config}
use Rattle.rb_core_model.specs.Begun.{IsBegun}
use Rattle.rb_core_model.specs.Config.{IsSetUp}
use Rattle.rb_plan_client.specs.Draft.{Draft, IsDraft, IsCut}
use Rattle.rb_core_model.specs.Event.{Event, IsEvent, Planned, Settled}
use Rattle.rb_core_model.specs.Fits.{AreApart}
use Rattle.rb_core_model.specs.Machine.{Opened, refusal_of, reply_of, after, state_of}
use Rattle.rb_core_model.specs.Snapshot.{Log, followed_by}
use Rattle.rb_plan_client.specs.Reach.{IsReach}
use Rattle.rb_core_model.specs.Standing.{OpenBatch, ClientState, Standing, path_view, task_in, settled_messages, batch_open}
use Rattle.rb_plan_client.specs.Task.{Message, view_of, goal_of, messages_of, is_apart, gas_of}

-- ---- a batch when it is opened

-- the sequences of the receives of a path among messages
abbrev pub is_receive_on : ℕ → Message → Bool
is_receive_on path m = (m.path == path) && same_kind m.packet.kind Receive

abbrev pub receives_on : ℕ → List Message → List ℕ
receives_on path ms = map (λ (m : Message). m.packet.sequence) (filter (is_receive_on path) ms)

-- the sequences are consecutive, from the next one of the path on
abbrev pub AreInTurn : Path → List ℕ → Type 0
AreInTurn v sequences = sequences ≡ range_with_len (next_sequence v Receive) (length sequences)

-- A batch is what a client is to be sent as things stand: the least list of updates that meets its goal, the messages that
-- go with it, and the least cut of them all, or of the updates apart. Each message can be proved at the
-- batch's height, and the receives of an ORDERED path come in turn.
pub record IsRightBatch (s : Standing) (client : ℕ) (b : OpenBatch) : Type 0 where
  pub window : Span
  pub known : ClientState
  pub reach : Option ℕ
  pub goal : Goal
  pub is_window : s.window ≡ Some window
  pub is_known : slice_get s.clients client ≡ Some known
  pub none_open : known.batch ≡ None
  pub is_reach : IsReach (client_of (view_of (task_in s window client known))) reach
  pub is_goal : goal_of (task_in s window client known) reach ≡ Some goal
  pub least : IsLeast (client_of (view_of (task_in s window client known))) goal b.updates
  pub messages : b.messages ≡ messages_of (task_in s window client known) reach (Some b.proof)
  pub cut : IsCut (is_apart (task_in s window client known) reach) known.config.limits (map (gas_of (task_in s window client known)) b.updates) (map (λ (m : Message). m.gas) b.messages) b.transactions
  pub proof : IsProofHeight (client_of (view_of (task_in s window client known))) b.updates (Some b.proof)
  pub floors : All (λ (m : Message). m.packet.floor ≤ b.proof) b.messages
  pub in_turn : (path : ℕ) (v : Path) → path_view s path ≡ Some v → v.order ≡ Ordered → AreInTurn v (receives_on path b.messages)

-- ---- batches that are open

-- a client's open batch has a message of a kind for a packet, by its path's place and its sequence
pub record Carries (s : Standing) (client path : ℕ) (kind : Kind) (sequence : ℕ) : Type 0 where
  pub batch : OpenBatch
  pub message : Message
  pub is_open : batch_open s client ≡ Some batch
  pub has : Contains batch.messages message
  pub is_path : message.path ≡ path
  pub is_kind : message.packet.kind ≡ kind
  pub is_sequence : message.packet.sequence ≡ sequence

-- ---- the laws

-- each batch that is opened is the right one as things stand at its place in the log
abbrev pub BatchesAreRight : Type 0
BatchesAreRight =
    (config : Config) (log : Log) (d : Draft) (number : ℕ) → IsDraft d
    → refusal_of (state_of config log) (Planned d) ≡ None → reply_of (state_of config log) (Planned d) ≡ Opened number
    → (b : OpenBatch) × (b.number ≡ number)
    × (batch_open (after (state_of config log) (Planned d)).standing d.job.client ≡ Some b)
    × IsRightBatch (state_of config log).standing d.job.client b

-- a packet message is in the open batch of at most one client
abbrev pub MessagesAreInOneBatch : Type 0
MessagesAreInOneBatch =
    (config : Config) (log : Log) → IsBegun config log.start → All IsEvent log.events
    → (client other path : ℕ) (kind : Kind) (sequence : ℕ)
    → Carries (state_of config log).standing client path kind sequence → Carries (state_of config log).standing other path kind sequence
    → client ≡ other

-- no message stands twice in an open batch
abbrev pub MessagesStandOnce : Type 0
MessagesStandOnce =
    (config : Config) (log : Log) → IsSetUp config → IsBegun config log.start → All IsEvent log.events
    → (client : ℕ) (b : OpenBatch) → batch_open (state_of config log).standing client ≡ Some b → AllPairs AreApart b.messages

-- once it was settled it is in no open batch any more, whatever happens later
abbrev pub SettledMessagesAreGone : Type 0
SettledMessagesAreGone =
    (config : Config) (log : Log) (later : List Event) (client number done : ℕ) (b : OpenBatch) (m : Message)
    → IsBegun config log.start → All IsEvent log.events → All IsEvent later
    → refusal_of (state_of config log) (Settled client number done) ≡ None
    → batch_open (state_of config log).standing client ≡ Some b → Contains (settled_messages b done) m
    → (other : ℕ) → Carries (state_of config (followed_by log (Settled client number done ∷ later))).standing other m.path m.packet.kind m.packet.sequence → ⊥

-- All four. A client has at most one open batch: a batch is opened while none is open.
pub record Batches : Type 0 where
  pub right : BatchesAreRight
  pub one : MessagesAreInOneBatch
  pub once : MessagesStandOnce
  pub settled : SettledMessagesAreGone
