-- (internal) The board's rule, and what the pen and the desks hold by it.
use Rattle.std.specs.Prelude.{◌≡◌, ℕ, List, [], drop, fold, Option, Some, None}
use mathlib.Core.Option.{some}
use lib.ListN.{get_elem?}
use Rattle.atomic_table.specs.declared.shared.Seat.{Seat}
use Rattle.left_right.specs.Sides.{view}
use Rattle.left_right.specs.declared.Absorb.{Ghosts}
use Rattle.left_right.specs.declared.board.Doing.{Doing}
use Rattle.left_right.specs.declared.part.Part.{Part}
use Rattle.left_right.specs.declared.reader.Reader.{Reader}
use Rattle.left_right.specs.declared.writer.Writer.{Writer}
use Rattle.rb_core.specs.Follower.{Past, Follower, IsOfLog, Told, log_in, follows}
use Rattle.rb_script_types.specs.Config.{Config}
use Rattle.rb_script_types.specs.declared.version.Version.TheVariants.{One}
use Rattle.rb_core_model.specs.Machine.{state_of}
use Rattle.rb_core_model.specs.Snapshot.{Snapshot, Log, nothing}
use Rattle.rb_board.specs.Knowledge.{Knowledge, nothing_yet, Begins}
use Rattle.rb_board.specs.declared.replica.Replica.{Replica}

-- how the core of a past is configured, and what its log begins with
abbrev pub origin_of : Past → Config × Snapshot
origin_of p = (p.config, p.start)

-- what a copy of the board shows
abbrev pub knowledge_of : {A : Type 0} → Replica A → Knowledge
knowledge_of replica = record { origin = Some (origin_of replica.follower.past); entries = replica.follower.past.entries }

-- the rule: a log is published, and what each seat knows is a beginning of it
abbrev pub HasBeginnings : {A : Type 0} → Replica A → List Knowledge → Type 0
HasBeginnings replica views = IsOfLog replica.follower × ((seat : ℕ) (v : Knowledge) → get_elem? views seat ≡ some v → Begins v (knowledge_of replica))

-- what is known after a publish or a look: all that is published, which is a log and begins with what was known before
abbrev pub Sees : {A : Type 0} → Knowledge → Replica A → Replica A → Knowledge → Type 0
Sees v before after w = Begins v (knowledge_of after) × (w ≡ knowledge_of after) × IsOfLog after.follower

-- what a seat knows
abbrev pub known_by : {A : Type 0} → Seat (Option (Part (Replica A))) (Doing (Replica A) Knowledge) → Knowledge
known_by seat = view seat

-- what a reader knows, where there is one
abbrev pub known_of : {A P : Type 0} → Option (Reader (Replica A) Knowledge P A) → Knowledge
known_of (Some reader) = view reader.place
known_of None = nothing_yet

-- what waits for the next publish
abbrev pub pending : {T O V P A S : Type 0} {g : Ghosts T O S} → Writer T O V P A S g → List O
pending writer = drop writer.behind writer.log.items

-- these, where they are known
abbrev pub origin_or : Option (Config × Snapshot) → Config × Snapshot
origin_or (Some origin) = origin
origin_or None = (record { version = One; limit = 0; chains = []; clients = []; paths = [] }, nothing)

-- what is known, as the past of a relayer
abbrev pub past_of : Knowledge → Past
past_of k = record { config = (origin_or k.origin).0; start = (origin_or k.origin).1; entries = k.entries }

-- a follower that has followed what waits, too
abbrev pub followed_on : Follower → List Told → Follower
followed_on f waiting = fold follows f waiting

-- the pen knows what is published, which is a log; who follows what waits, too, has followed the board's log, and knows what is
-- known after it
pub record IsKnown {A : Type 0} (shown : Replica A) (known : Knowledge) (waiting : List Told) (config : Config) (log : Log) : Type 0 where
  pub all : known ≡ knowledge_of shown
  pub config_same : shown.follower.past.config ≡ config
  pub published : IsOfLog shown.follower
  pub leads : log ≡ log_in (followed_on shown.follower waiting).past
  pub knows : (followed_on shown.follower waiting).state ≡ state_of config log
