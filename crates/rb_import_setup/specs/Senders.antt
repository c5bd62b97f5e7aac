-- Who sends transactions to a chain, and what is paid for them (Cosmos SDK, `Fee`; ibc-go, `MsgUpdateClient`).
use Rattle.std.specs.Prelude.{ℕ, Bool, ◌&&◌, ◌||◌, nat_le, List, [], ◌∷◌, codes, length, string_bytes, Option, Some, None, is_none, Result, Ok, if◌then◌else◌}
use Rattle.std.specs.List.{list_all, list_any}
use Rattle.std.specs.Str.{bytes_eq}
use Rattle.rb_script_toml.specs.Faults.{Fault, ◌>>=◌, check, fault}
use Rattle.rb_script_toml.specs.KeyPaths.{element}
use Rattle.rb_script_toml.specs.Fields.{Field, Section, text, needs, optional, or_default, two_integers, within, max_number}
use Rattle.rb_script_toml.specs.declared.fault.FaultName.TheVariants.{BadIdentifier, BadKind, OutOfRange}
use Rattle.rb_import_setup.specs.Fees.{Ratio}
use Rattle.rb_import_setup.specs.declared.sender.Sender.{Sender as CodeSender}
use Rattle.rb_import_setup.specs.declared.sender.UpdateField.{UpdateField}
use Rattle.rb_import_setup.specs.declared.sender.UpdateField.TheVariants.{ClientMessage, Header}

pub record Sender : Type 0 where
  pub signer : List ℕ
  pub fee_denom : List ℕ
  pub gas_price : Ratio
  pub gas_factor : Ratio
  pub update_field : UpdateField

abbrev pub sender_view : CodeSender → Sender
sender_view s = record {
  signer = string_bytes s.signer;
  fee_denom = string_bytes s.fee_denom;
  gas_price = s.gas_price;
  gas_factor = s.gas_factor;
  update_field = s.update_field;
}

-- ---- texts, none of which has a character that JSON escapes

-- a digit or a letter (ASCII)
abbrev pub is_account_byte : ℕ → Bool
is_account_byte b = nat_le 48 b && nat_le b 57 || nat_le 65 b && nat_le b 90 || nat_le 97 b && nat_le b 122

-- 1 to 128 bytes
abbrev pub has_length : List ℕ → Bool
has_length text = nat_le 1 (length text) && nat_le (length text) 128

-- 1 to 128 letters and digits
abbrev pub is_account : List ℕ → Bool
is_account text = has_length text && list_all is_account_byte text

unfoldable pub account : Field → Result (List ℕ) Fault
account f = do
  t ← text f
  _ ← check (is_account t) BadIdentifier f.path
  Ok t

-- a letter, a digit, or one of / : . _ - (Cosmos SDK, `ValidateDenom`)
abbrev pub is_coin_byte : ℕ → Bool
is_coin_byte b = is_account_byte b || list_any (λ x. nat_le x b && nat_le b x) (codes "/:._-")

-- 1 to 128 of these (own choice: the SDK wants 3, and a letter first)
abbrev pub is_coin : List ℕ → Bool
is_coin text = has_length text && list_all is_coin_byte text

unfoldable pub coin : Field → Result (List ℕ) Fault
coin f = do
  t ← text f
  _ ← check (is_coin t) BadIdentifier f.path
  Ok t

-- ---- numbers

-- a numerator and a denominator, which isn't 0
unfoldable pub ratio : Field → Result Ratio Fault
ratio f = do
  n ← two_integers f
  numerator ← within 0 max_number OutOfRange (element f.path 0) n.0
  denominator ← within 1 max_number OutOfRange (element f.path 1) n.1
  Ok (record { numerator = numerator; denominator = denominator })

-- 1.2
abbrev pub default_factor : Ratio
default_factor = record { numerator = 6; denominator = 5 }

-- ---- the field of a client message, which ibc-go renamed in its version 7

abbrev pub field_named : List ℕ → List ℕ → Result UpdateField Fault
field_named path name =
    if bytes_eq name (codes "client_message") then Ok ClientMessage
    else if bytes_eq name (codes "header") then Ok Header
    else fault BadKind path

unfoldable pub update_field : Field → Result UpdateField Fault
update_field f = do
  name ← text f
  field_named f.path name

-- ---- a chain's sender

-- whether a chain's table says nothing of transactions
abbrev pub is_silent : Section → Bool
is_silent s =
    is_none (optional (codes "signer") s) && is_none (optional (codes "fee_denom") s) && is_none (optional (codes "gas_price") s)
    && is_none (optional (codes "gas_factor") s) && is_none (optional (codes "client_message") s)

unfoldable pub sender : Section → Result Sender Fault
sender s = do
  signer ← needs (codes "signer") account s
  denom ← needs (codes "fee_denom") coin s
  price ← needs (codes "gas_price") ratio s
  factor ← or_default default_factor ratio (optional (codes "gas_factor") s)
  named ← or_default ClientMessage update_field (optional (codes "client_message") s)
  Ok (record { signer = signer; fee_denom = denom; gas_price = price; gas_factor = factor; update_field = named })

-- the sender to a chain, if its table tells of one; those to the chains before it don't matter
unfoldable pub sender_of : List (Option Sender) → Section → Result (Option Sender) Fault
sender_of before s = if is_silent s then Ok None else (sender s >>= λ x. Ok (Some x))
