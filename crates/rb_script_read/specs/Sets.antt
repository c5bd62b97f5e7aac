-- The validators of a set.
use Rattle.std.specs.Prelude.{ℕ, ◌∷◌, ◌++◌, [], List, length, Bool, ◌&&◌, nat_lt, nat_le, is_none, if◌then◌else◌, ◌==◌, Option, Some, None, option_map, Result, Ok}
use Rattle.std.specs.List.{list_all}
use Rattle.std.specs.Result.{result_ok}
use Rattle.toml.specs.Data.{Data, Items, no_items, item, as_str, as_integer, as_array}
use Rattle.hex.specs.Hex.{decode_sized}
use Rattle.rb_valset.specs.declared.key.PublicKey.{PublicKey}
use Rattle.rb_valset.specs.declared.key.PublicKey.TheVariants.{Ed25519, Secp256k1}
use Rattle.rb_valset.specs.Validator.{Member, max_power}
use Rattle.rb_valset.specs.ValidatorSet.{in_set_order}
use Rattle.rb_valset.specs.Refusal.{set_refusal}
use Rattle.rb_script_toml.specs.Faults.{Fault, ◌>>=◌, fault, check}
use Rattle.rb_script_toml.specs.KeyPaths.{element}
use Rattle.rb_script_toml.specs.Fields.{Field, typed, within, items, max_number}
use Rattle.rb_script_toml.specs.declared.fault.FaultName.TheVariants.{OutOfRange, WrongType, BadHex, BadSet}
use Rattle.rb_script_read.specs.declared.set.GivenValidator.{GivenValidator}

abbrev pub member_of : GivenValidator → Member
member_of v = record { key = v.key; power = v.power }

-- a key in hexadecimal digits: 66 of a secp256k1 key, else 64 of an ed25519 key
unfoldable pub key_of : List ℕ → Option PublicKey
key_of digits =
    if length digits == 66 then option_map Secp256k1 (result_ok (decode_sized digits 33)) else option_map Ed25519 (result_ok (decode_sized digits 32))

abbrev pub key_at : List ℕ → Option PublicKey → Result PublicKey Fault
key_at path (Some key) = Ok key
key_at path None = fault BadHex path

-- a key in hexadecimal digits, and then a power
abbrev pub pair : List ℕ → Items → Result Member Fault
pair path (item k (item p no_items)) = do
  digits ← typed (as_str k) (element path 0)
  key ← key_at (element path 0) (key_of digits)
  power ← typed (as_integer p) (element path 1)
  n ← within 0 max_number OutOfRange (element path 1) power
  Ok (record { key = key; power = n })
pair path _ = fault WrongType path

unfoldable pub validator : List ℕ → Data → Result Member Fault
validator path d = do
  ds ← typed (as_array d) path
  pair path ds

abbrev pub validators_after : List ℕ → List Member → Items → Result (List Member) Fault
validators_after path before no_items = Ok before
validators_after path before (item d ds) = validator (element path (length before)) d >>= λ v. validators_after path (before ++ v ∷ []) ds

abbrev pub is_power : ℕ → Bool
is_power power = nat_lt 0 power && nat_le power max_power

abbrev pub all_powers : List Member → Bool
all_powers ms = list_all (λ m. is_power m.power) ms

-- each validator has a power that is allowed
unfoldable pub with_powers : List ℕ → List Member → Result (List Member) Fault
with_powers path ms = do
  _ ← check (all_powers ms) BadSet path
  Ok ms

-- the set that is made of them
unfoldable pub set_of : List ℕ → List Member → Result (List Member) Fault
set_of path given = do
  ms ← with_powers path given
  _ ← check (is_none (set_refusal ms)) BadSet path
  Ok (in_set_order ms)

-- the set of some validators, each read by itself before the whole is judged
unfoldable pub validators : Field → Result (List Member) Fault
validators f = do
  ds ← items f
  given ← validators_after f.path [] ds
  set_of f.path given
