-- The tables of paths.
use Rattle.std.specs.Prelude.{ℕ, List, [], ◌∷◌, map, codes, Option, Some, None, option_map, unwrap_or, slice_get, Bool, false, not, ◌&&◌, ◌==◌, Result, Ok, if◌then◌else◌}
use Rattle.std.specs.Str.{bytes_eq}
use Rattle.rb_scan.specs.declared.path.Order.{Order}
use Rattle.rb_scan.specs.declared.path.Order.TheVariants.{Ordered, Unordered}
use Rattle.rb_script_types.specs.Gas.{PathGas}
use Rattle.rb_script_types.specs.declared.config.ClientConfig.{ClientConfig}
use Rattle.rb_script_types.specs.declared.config.PathConfig.{PathConfig}
use Rattle.rb_script_types.specs.declared.version.Version.{Version}
use Rattle.rb_script_types.specs.declared.version.Version.TheVariants.{One, Two, Three, Four}
use Rattle.rb_script_types.specs.declared.waits.Waits.{Waits}
use Rattle.rb_script_toml.specs.Faults.{Fault, ◌>>=◌, fault, check}
use Rattle.rb_script_toml.specs.KeyPaths.{element}
use Rattle.rb_script_toml.specs.Fields.{Field, Section, text, only, needs, optional, or_default, number, within, three_integers, fees, max_number}
use Rattle.rb_script_toml.specs.declared.fault.FaultName.TheVariants.{OutOfRange, BadOrder, SameChain, WrongClient}
use Rattle.rb_script_config.specs.Named.{reference, new_identifier}
use Rattle.rb_script_config.specs.Channels.{channel_in}
use Rattle.rb_script_config.specs.Clients.{client_ends, client_ids}

-- ---- values of their own

abbrev pub order_of : List ℕ → Option Order
order_of word =
    if bytes_eq word (codes "ordered") then Some Ordered
    else if bytes_eq word (codes "unordered") then Some Unordered
    else None

abbrev pub known_order : List ℕ → Option Order → Result Order Fault
known_order path (Some o) = Ok o
known_order path None = fault BadOrder path

unfoldable pub order : Field → Result Order Fault
order f = do
  word ← text f
  known_order f.path (order_of word)

abbrev pub sequence : Field → Result ℕ Fault
sequence f = number 1 max_number OutOfRange f

-- of a receive, an acknowledgement and a timeout
unfoldable pub path_gas : Field → Result PathGas Fault
path_gas f = do
  n ← fees f
  Ok (record { receive = n.0; acknowledge = n.1; timeout = n.2 })

-- so many nanoseconds a receive, an acknowledgement and a timeout
unfoldable pub waits : Field → Result Waits Fault
waits f = do
  n ← three_integers f
  receive ← within 0 max_number OutOfRange (element f.path 0) n.0
  acknowledge ← within 0 max_number OutOfRange (element f.path 1) n.1
  timeout ← within 0 max_number OutOfRange (element f.path 2) n.2
  Ok (record { receive = receive; acknowledge = acknowledge; timeout = timeout })

-- whether the client at a place is hosted on the one chain and tracks the other
abbrev pub connects : {A : Type 0} → (A → ℕ × ℕ) → List A → ℕ → ℕ → ℕ → Bool
connects ends clients place host tracks =
    unwrap_or (option_map (λ c. (ends c).0 == host && (ends c).1 == tracks) (slice_get clients place)) false

-- ---- paths

abbrev pub path_ids : List PathConfig → List (List ℕ)
path_ids paths = map (λ p. p.id) paths

abbrev pub path_keys : Version → List (List ℕ)
path_keys One =
    codes "id" ∷ codes "source" ∷ codes "dest" ∷ codes "order" ∷ codes "first" ∷ codes "forward" ∷ codes "back" ∷ codes "gas" ∷ []
path_keys Two =
    codes "id" ∷ codes "source" ∷ codes "dest" ∷ codes "order" ∷ codes "first" ∷ codes "forward" ∷ codes "back" ∷ codes "gas" ∷ []
path_keys Three =
    codes "id" ∷ codes "source" ∷ codes "dest" ∷ codes "order" ∷ codes "first" ∷ codes "forward" ∷ codes "back" ∷ codes "gas"
    ∷ codes "wait_ns" ∷ codes "port" ∷ codes "channel" ∷ codes "counterparty_port" ∷ codes "counterparty_channel" ∷ []
path_keys Four =
    codes "id" ∷ codes "source" ∷ codes "dest" ∷ codes "order" ∷ codes "first" ∷ codes "forward" ∷ codes "back" ∷ codes "gas"
    ∷ codes "wait_ns" ∷ codes "port" ∷ codes "channel" ∷ codes "counterparty_port" ∷ codes "counterparty_channel" ∷ []

-- no message may wait
abbrev pub no_waits : Waits
no_waits = record { receive = 0; acknowledge = 0; timeout = 0 }

-- what scripts and setups say of a path alike, of these chains and clients, beside the paths before it
unfoldable pub path_config : List (List ℕ) → List (List ℕ) → List (List ℕ) → Section → Result PathConfig Fault
path_config chains clients before s = do
  id ← needs (codes "id") (new_identifier before) s
  source ← needs (codes "source") (reference chains) s
  destination ← needs (codes "dest") (reference chains) s
  order ← needs (codes "order") order s
  first ← or_default 1 sequence (optional (codes "first") s)
  forward ← needs (codes "forward") (reference clients) s
  back ← needs (codes "back") (reference clients) s
  gas ← needs (codes "gas") path_gas s
  Ok (record {
    id = id;
    source = source;
    destination = destination;
    order = order;
    first = first;
    forward = forward;
    back = back;
    gas = gas;
    waits = no_waits;
    channel = None;
  })

-- its chains differ, and its clients are hosted on the one and track the other
abbrev pub fits : {A : Type 0} → (A → ℕ × ℕ) → List A → PathConfig → List ℕ → Result (Unit {0}) Fault
fits ends clients p place = do
  _ ← check (not (p.source == p.destination)) SameChain place
  check (connects ends clients p.forward p.destination p.source && connects ends clients p.back p.source p.destination) WrongClient place

-- how long a path's messages may wait: from version 3 on, and not at all where the key isn't there
abbrev pub waits_in : Version → Section → Result Waits Fault
waits_in One s = Ok no_waits
waits_in Two s = Ok no_waits
waits_in Three s = or_default no_waits waits (optional (codes "wait_ns") s)
waits_in Four s = or_default no_waits waits (optional (codes "wait_ns") s)

-- a path of these chains and clients, beside those before it
unfoldable pub path : Version → List (List ℕ) → List ClientConfig → List PathConfig → Section → Result PathConfig Fault
path version chains clients before s = do
  _ ← only (path_keys version) s
  p ← path_config chains (client_ids clients) (path_ids before) s
  w ← waits_in version s
  c ← channel_in version s
  _ ← fits client_ends clients p s.path
  Ok (record p { waits = w; channel = c })
