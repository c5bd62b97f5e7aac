-- What a follower forgets at the end of a turn, and which events speak of it (own choice).
use Rattle.std.specs.Prelude.{ℕ, Bool, false, ◌&&◌, nat_le, nat_lt, List, map, max, position, slice_get, slice_index_or, codes, Option, Some, None, Result, Ok}
use Rattle.std.specs.List.{enumerate_from}
use Rattle.std.specs.Option.{option_map_or}
use Rattle.std.specs.declared.alloc.Global.{Global}
use Rattle.rb_core_model.specs.Event.{Event, HeaderSeen, StoredSeen, Sent, Received, AckWritten, Cleared}
use Rattle.rb_core_model.specs.Forgetting.{has_many_to_forget}
use Rattle.rb_core_model.specs.Seen.{observed}
use Rattle.rb_core_model.specs.Standing.{Standing}
use Rattle.rb_script_types.specs.Config.{Config}
use Rattle.rb_script_types.specs.Script.{Turn}
use Rattle.rb_script_types.specs.declared.config.ClientConfig.{ClientConfig}
use Rattle.rb_script_types.specs.declared.config.PathConfig.{PathConfig}
use Rattle.rb_script_types.specs.declared.observation.Observation.{Observation}
use Rattle.rb_script_types.specs.declared.version.Version.{Version}
use Rattle.rb_script_types.specs.declared.version.Version.TheVariants.{One, Two, Three, Four}
use Rattle.rb_script_toml.specs.Faults.{Fault, fault}
use Rattle.rb_script_toml.specs.KeyPaths.{element}
use Rattle.rb_script_toml.specs.declared.fault.FaultName.TheVariants.{Forgotten}

-- ---- when a follower forgets

-- so many records of some chain, or packets of some path, go at least
abbrev pub least_to_go : ℕ
least_to_go = 256

-- from version 3 on
abbrev pub forgets : Version → Standing → Bool
forgets One s = false
forgets Two s = false
forgets Three s = has_many_to_forget least_to_go s
forgets Four s = has_many_to_forget least_to_go s

-- ---- events that speak of what was forgotten

-- the greater of each floor and the one before
abbrev pub raised : List ℕ → List ℕ → List ℕ
raised before floors = map (λ (p : ℕ × ℕ). max p.1 (slice_index_or before p.0 0)) (enumerate_from 0 floors)

-- the chain that a client tracks
abbrev pub tracked_by : Config → ℕ → ℕ
tracked_by c client = option_map_or (λ (k : ClientConfig). k.tracks) (slice_get c.clients client) 0

-- a packet that was forgotten of a path: the path goes on from a later sequence, and began with none that is later
abbrev pub is_gone : Config → List ℕ → ℕ → ℕ → Bool
is_gone c firsts path sequence =
    option_map_or (λ (p : PathConfig). nat_le p.first sequence && nat_lt sequence (slice_index_or firsts path 0)) (slice_get c.paths path) false

-- a header, or a stored consensus state, below the height up to which its chain's were forgotten; a packet that was forgotten
abbrev pub speaks_of : Config → List ℕ → List ℕ → Event → Bool
speaks_of c forgotten firsts (HeaderSeen chain header) = nat_lt header.height (slice_index_or forgotten chain 0)
speaks_of c forgotten firsts (StoredSeen client height r) = nat_lt height (slice_index_or forgotten (tracked_by c client) 0)
speaks_of c forgotten firsts (Sent path sequence block timeout_height timeout_time) = is_gone c firsts path sequence
speaks_of c forgotten firsts (Received path sequence block) = is_gone c firsts path sequence
speaks_of c forgotten firsts (AckWritten path sequence block) = is_gone c firsts path sequence
speaks_of c forgotten firsts (Cleared path sequence) = is_gone c firsts path sequence
speaks_of c forgotten firsts _ = false

-- the first event of a turn that is one
abbrev pub first_spoken : Config → List ℕ → List ℕ → Turn Global → Option ℕ
first_spoken c forgotten firsts t = position (λ (o : Observation Global). speaks_of c forgotten firsts (observed o)) t.events

-- the fault of such an event
abbrev pub check_spoken : Option ℕ → Result (Unit {0}) Fault
check_spoken None = Ok tt
check_spoken (Some index) = fault Forgotten (element (codes "event") index)
