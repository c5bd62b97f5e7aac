-- The answer of CometBFT's `/validators`: a page of the validators at a height.
use Rattle.std.specs.Prelude.{ℕ, List, [], Option, Some, None, Result, Ok, ◌&&◌, nat_lt, nat_le, if◌then◌else◌, Err, codes}
use Rattle.std.specs.Str.{bytes_eq}
use Rattle.rb_valset.specs.declared.key.PublicKey.{PublicKey}
use Rattle.rb_valset.specs.declared.key.PublicKey.TheVariants.{Ed25519, Secp256k1}
use Rattle.rb_valset.specs.Validator.{Member, max_power}
use Rattle.rb_import_answers.specs.declared.validators.ValidatorsPage.{ValidatorsPage}
use Rattle.rb_import_json.specs.declared.error.FieldError.{FieldError}
use Rattle.rb_import_json.specs.declared.error.FieldErrorName.TheVariants.{ForeignKey, BadPower}
use Rattle.rb_import_json.specs.declared.field_path.Key.{Key}
use Rattle.rb_import_json.specs.declared.field_path.Segment.{Segment}
use Rattle.rb_import_json.specs.FieldErrors.{◌>>=◌, or_flaw}
use Rattle.rb_import_json.specs.Fields.{Object, flaw_at, inner, items, text, number, height, base64, each}

abbrev pub ed25519_key : Object → Result PublicKey FieldError
ed25519_key o = do
  bytes ← base64 32 Key.Value o
  Ok (Ed25519 bytes)

abbrev pub secp256k1_key : Object → Result PublicKey FieldError
secp256k1_key o = do
  bytes ← base64 33 Key.Value o
  Ok (Secp256k1 bytes)

-- a key of a type that is named so
abbrev pub key_of : List ℕ → Object → Result PublicKey FieldError
key_of kind o =
    if bytes_eq kind (codes "tendermint/PubKeyEd25519") then ed25519_key o else
    (if bytes_eq kind (codes "tendermint/PubKeySecp256k1") then secp256k1_key o else Err (flaw_at o Key.Type ForeignKey))

-- a validator's key, which has to be of ed25519 or secp256k1
unfoldable pub key : Object → Result PublicKey FieldError
key o = do
  k ← inner Key.PubKey o
  kind ← text Key.Type k
  key_of kind k

-- a validator has a power, and not too much
unfoldable pub member_of : PublicKey → ℕ → Option Member
member_of key power = if nat_lt 0 power && nat_le power max_power then Some (record { key = key; power = power }) else None

-- an entry of `validators`: the key and the power
unfoldable pub validator : Object → Result Member FieldError
validator o = do
  k ← key o
  power ← number Key.VotingPower o
  or_flaw (flaw_at o Key.VotingPower BadPower) (member_of k power)

-- validators of a height, and how many there are on all of its pages
pub record Page : Type 0 where
  pub height : ℕ
  pub total : ℕ
  pub validators : List Member

abbrev pub page_view : ValidatorsPage → Page
page_view p = record { height = p.height; total = p.total; validators = p.validators.items }

unfoldable pub page : Object → Result Page FieldError
page result = do
  at ← height Key.BlockHeight result
  total ← number Key.Total result
  entries ← items Key.Validators result
  validators ← each validator Segment.Validators [] entries
  Ok (record { height = at; total = total; validators = validators })
