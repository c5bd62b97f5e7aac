-- The configuration of Hermes (TOML, `config.toml`): what a setup takes of its array `chains`. Other keys don't matter.
use Rattle.std.specs.Prelude.{ℕ, ◌*◌, min, pos, negsuc, Bool, false, not, ◌&&◌, ◌||◌, List, [], codes, length, nat_lt, if◌then◌else◌, Option, Some, None, Result, Ok}
use Rattle.std.specs.Char.{is_whitespace}
use Rattle.std.specs.Int.{w64}
use Rattle.std.specs.Float.{Float, binary64, float_to_unsigned}
use lib.Ieee
use Rattle.std.specs.List.{list_all}
use Rattle.std.specs.Str.{chars}
use Rattle.toml.specs.Data.{Data, integer, float, get_member, as_table}
use Rattle.rb_script_toml.specs.Documents.{document}
use Rattle.rb_script_toml.specs.Faults.{Fault, ◌>>=◌, fault}
use Rattle.rb_script_toml.specs.Fields.{Field, Section, array, elements, identifier, needs, number, optional, or_default, text, typed}
use Rattle.rb_script_toml.specs.KeyPaths.{is_active}
use Rattle.rb_script_toml.specs.declared.fault.FaultName.TheVariants.{MissingKey, OutOfRange, WrongType}
use Rattle.rb_import_setup.specs.HermesChains.{HermesChain}

-- ---- addresses

-- a character that is neither white space (Unicode: White_Space) nor does something to a terminal
abbrev pub is_shown : ℕ → Bool
is_shown c = not (is_whitespace c || is_active c)

-- a text of such characters, and of one at least
abbrev pub is_word : List ℕ → Bool
is_word bytes = nat_lt 0 (length bytes) && list_all is_shown (chars bytes)

-- the address of a node, where it is a word
unfoldable pub address : Field → Result (Option (List ℕ)) Fault
address f = do
  bytes ← text f
  Ok (if is_word bytes then Some bytes else None)

-- ---- prices

-- the greatest price that is told apart, in millionths
abbrev pub max_price : ℕ
max_price = 1000000000000000000

-- a million as a float: 15,625 times 2 ^ 6
abbrev pub million : Float
million = Ieee.fin false 15625 (pos 6)

-- a float (IEEE 754, binary64) in millionths: the product is rounded to the nearest float, and then its fraction goes; what is below 0 is 0
abbrev pub float_millionths : Float → ℕ
float_millionths x = float_to_unsigned w64 (Ieee.mul binary64 x million)

-- a number in millionths, the greatest price where it is greater
abbrev pub millionths : List ℕ → Option Data → Result ℕ Fault
millionths path (Some (float x)) = Ok (min (float_millionths x) max_price)
millionths path (Some (integer (pos n))) = Ok (min (n * 1000000) max_price)
millionths path (Some (integer (negsuc n))) = fault OutOfRange path
millionths path (Some _) = fault WrongType path
millionths path None = fault MissingKey path

-- the price of gas in millionths of its coin
unfoldable pub price : Field → Result ℕ Fault
price f = do
  members ← typed (as_table f.value) f.path
  millionths f.path (get_member (codes "price") members)

-- ---- chains

-- the gas limit of a transaction
unfoldable pub max_gas : Section → Result ℕ Fault
max_gas s = or_default 400000 (number 1 1000000000000000 OutOfRange) (optional (codes "max_gas") s)

-- how many messages a transaction has at most
unfoldable pub max_messages : Section → Result ℕ Fault
max_messages s = or_default 30 (number 1 10000 OutOfRange) (optional (codes "max_msg_num") s)

unfoldable pub node_address : Section → Result (Option (List ℕ)) Fault
node_address s = or_default None address (optional (codes "rpc_addr") s)

unfoldable pub gas_price : Section → Result ℕ Fault
gas_price s = or_default 0 price (optional (codes "gas_price") s)

unfoldable pub chain : Section → Result HermesChain Fault
chain s = do
  id ← needs (codes "id") identifier s
  gas ← max_gas s
  messages ← max_messages s
  a ← node_address s
  p ← gas_price s
  Ok (record { id = id; address = a; max_gas = gas; max_messages = messages; price = p })

-- a chain, whatever those before it are
abbrev pub next_chain : List HermesChain → Section → Result HermesChain Fault
next_chain before s = chain s

-- the chains, at most 10,000 (own choice), in their order
unfoldable pub chains : Section → Result (List HermesChain) Fault
chains s = do
  ds ← needs (codes "chains") (array 10000) s
  elements next_chain (codes "chains") [] ds

-- the chains that the text of a configuration has, or its first fault
abbrev pub chains_of : List ℕ → Result (List HermesChain) Fault
chains_of config = document config >>= chains
