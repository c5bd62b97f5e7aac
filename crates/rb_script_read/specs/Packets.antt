-- The tables of events of packets and paths.
use Rattle.std.specs.Prelude.{ℕ, List, [], ◌∷◌, codes, Option, Some, None, Result, Ok, ◌==◌, if◌then◌else◌}
use Rattle.std.specs.declared.alloc.Global.{Global}
use Rattle.rb_script_types.specs.declared.version.Version.{Version}
use Rattle.rb_script_types.specs.declared.version.Version.TheVariants.{One, Two, Three, Four}
use Rattle.rb_script_types.specs.declared.config.PathConfig.{PathConfig}
use Rattle.rb_script_types.specs.declared.observation.Observation.{Observation}
use Rattle.rb_script_types.specs.declared.observation.Observation.TheVariants.{Sent, Received, AckWritten, Cleared, Closed}
use Rattle.rb_script_toml.specs.Faults.{Fault, ◌>>=◌}
use Rattle.rb_script_toml.specs.Fields.{Field, Section, only, needs, optional, or_default, maybe, number, time, max_number}
use Rattle.rb_script_toml.specs.declared.fault.FaultName.TheVariants.{OutOfRange}
use Rattle.rb_script_config.specs.Named.{reference}
use Rattle.rb_script_config.specs.Paths.{path_ids, sequence}

-- 2 ^ 63 - 2: the next height, which proves what the block wrote, is a height too
abbrev pub max_block : ℕ
max_block = 9223372036854775806

abbrev pub block : Field → Result ℕ Fault
block f = number 1 max_block OutOfRange f

abbrev pub unless_zero : ℕ → Option ℕ
unless_zero n = if n == 0 then None else Some n

-- a height, or 0 for none
unfoldable pub height_or_none : Field → Result (Option ℕ) Fault
height_or_none f = do
  n ← number 0 max_number OutOfRange f
  Ok (unless_zero n)

-- a time, or the first moment of 1970 for none
unfoldable pub time_or_none : Field → Result (Option ℕ) Fault
time_or_none f = do
  n ← time f
  Ok (unless_zero n)

-- ---- packets

-- the time of a block: from version 4 on, where it is told
abbrev pub time_in : Version → Section → Result (Option ℕ) Fault
time_in One s = Ok None
time_in Two s = Ok None
time_in Three s = Ok None
time_in Four s = maybe time (optional (codes "time") s)

abbrev pub sent_keys : Version → List (List ℕ)
sent_keys One = codes "kind" ∷ codes "path" ∷ codes "seq" ∷ codes "height" ∷ codes "timeout_height" ∷ codes "timeout_time" ∷ []
sent_keys Two = codes "kind" ∷ codes "path" ∷ codes "seq" ∷ codes "height" ∷ codes "timeout_height" ∷ codes "timeout_time" ∷ []
sent_keys Three = codes "kind" ∷ codes "path" ∷ codes "seq" ∷ codes "height" ∷ codes "timeout_height" ∷ codes "timeout_time" ∷ []
sent_keys Four =
    codes "kind" ∷ codes "path" ∷ codes "seq" ∷ codes "height" ∷ codes "time" ∷ codes "timeout_height" ∷ codes "timeout_time" ∷ []

unfoldable pub sent : Version → List PathConfig → Section → Result (Observation Global) Fault
sent version paths s = do
  _ ← only (sent_keys version) s
  path ← needs (codes "path") (reference (path_ids paths)) s
  seq ← needs (codes "seq") sequence s
  at ← needs (codes "height") block s
  moment ← time_in version s
  height ← or_default None height_or_none (optional (codes "timeout_height") s)
  time ← or_default None time_or_none (optional (codes "timeout_time") s)
  Ok (Sent path seq (record { height = at; time = moment }) height time)

-- the keys of a packet in a block of the destination
abbrev pub packet_keys : List (List ℕ)
packet_keys = codes "kind" ∷ codes "path" ∷ codes "seq" ∷ codes "height" ∷ []

unfoldable pub received : List PathConfig → Section → Result (Observation Global) Fault
received paths s = do
  _ ← only packet_keys s
  path ← needs (codes "path") (reference (path_ids paths)) s
  seq ← needs (codes "seq") sequence s
  at ← needs (codes "height") block s
  Ok (Received path seq at)

-- those of an acknowledgement that was written there
abbrev pub ack_keys : Version → List (List ℕ)
ack_keys One = codes "kind" ∷ codes "path" ∷ codes "seq" ∷ codes "height" ∷ []
ack_keys Two = codes "kind" ∷ codes "path" ∷ codes "seq" ∷ codes "height" ∷ []
ack_keys Three = codes "kind" ∷ codes "path" ∷ codes "seq" ∷ codes "height" ∷ []
ack_keys Four = codes "kind" ∷ codes "path" ∷ codes "seq" ∷ codes "height" ∷ codes "time" ∷ []

unfoldable pub ack_written : Version → List PathConfig → Section → Result (Observation Global) Fault
ack_written version paths s = do
  _ ← only (ack_keys version) s
  path ← needs (codes "path") (reference (path_ids paths)) s
  seq ← needs (codes "seq") sequence s
  at ← needs (codes "height") block s
  moment ← time_in version s
  Ok (AckWritten path seq (record { height = at; time = moment }))

abbrev pub cleared_keys : List (List ℕ)
cleared_keys = codes "kind" ∷ codes "path" ∷ codes "seq" ∷ []

unfoldable pub cleared : List PathConfig → Section → Result (Observation Global) Fault
cleared paths s = do
  _ ← only cleared_keys s
  path ← needs (codes "path") (reference (path_ids paths)) s
  seq ← needs (codes "seq") sequence s
  Ok (Cleared path seq)

-- ---- paths

abbrev pub closed_keys : List (List ℕ)
closed_keys = codes "kind" ∷ codes "path" ∷ []

unfoldable pub closed : List PathConfig → Section → Result (Observation Global) Fault
closed paths s = do
  _ ← only closed_keys s
  path ← needs (codes "path") (reference (path_ids paths)) s
  Ok (Closed path)
