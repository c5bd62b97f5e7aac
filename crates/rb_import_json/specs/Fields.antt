-- What a field of an object in an answer holds, read by its type, and the flaw where it isn't there or holds something else.
use Rattle.std.specs.Prelude.{ℕ, List, [], ◌∷◌, ◌++◌, length, Bool, if◌then◌else◌, Option, Some, None, is_some, option_and_then, Result, Ok, Err}
use Rattle.serde_json.specs.Data.{Data, Items, no_items, item}
use Rattle.serde_json.specs.Find.{get, as_str, as_array, as_object, as_number, as_u64}
use Rattle.serde_json.specs.View.{view}
use Rattle.rb_import_json.specs.declared.object.Object.{Object as CodeObject}
use Rattle.rb_import_json.specs.declared.error.FieldError.{FieldError}
use Rattle.rb_import_json.specs.declared.error.FieldErrorName.{FieldErrorName}
use Rattle.rb_import_json.specs.declared.error.FieldErrorName.TheVariants.{MissingField, WrongType, BadNumber, BadHex, BadBase64, BadTime, BadIdentifier}
use Rattle.rb_import_json.specs.declared.field_path.Key.{Key}
use Rattle.rb_import_json.specs.declared.field_path.Segment.{Segment}
use Rattle.rb_import_json.specs.FieldErrors.{◌>>=◌, or_flaw, must}
use Rattle.rb_import_json.specs.Names.{key_name, camel_name}
use Rattle.rb_import_json.specs.Values.{number_of, height_of, identifier_of, moment_of, bytes_of, bytes_up_to, base64_up_to, hash_of, key_of}

-- a value of an answer, and where it stands: which part it is, or an element of which, from 0
pub record Object : Type 0 where
  pub value : Data
  pub part : Segment
  pub index : Option ℕ

abbrev pub object_view : CodeObject → Object
object_view o = record { value = view o.value.now; part = o.part; index = o.index }

-- the flaw of this name at a field of an object
abbrev pub flaw_at : Object → Key → FieldErrorName → FieldError
flaw_at o key name = record { name = name; place = record { part = o.part; index = o.index; key = key } }

abbrev pub first_of : Option Data → Option Data → Option Data
first_of (Some d) other = Some d
first_of None other = other

-- the member of an object, by its name or by that in camel case
unfoldable pub member : Key → Data → Option Data
member key d = first_of (get (key_name key) d) (get (camel_name key) d)

abbrev pub has : Key → Object → Bool
has key o = is_some (member key o.value)

unfoldable pub field : Key → Object → Result Data FieldError
field key o = or_flaw (flaw_at o key MissingField) (member key o.value)

-- what a field holds, told of at the place of its object
unfoldable pub inner : Key → Object → Result Object FieldError
inner key o = do
  d ← field key o
  Ok (record { value = d; part = o.part; index = o.index })

-- the object that a field holds, which is this part
unfoldable pub object : Key → Segment → Object → Result Object FieldError
object key part o = do
  d ← field key o
  _ ← must (flaw_at o key WrongType) (is_some (as_object d))
  Ok (record { value = d; part = part; index = None })

unfoldable pub items : Key → Object → Result Items FieldError
items key o = do
  d ← field key o
  or_flaw (flaw_at o key WrongType) (as_array d)

unfoldable pub text : Key → Object → Result (List ℕ) FieldError
text key o = do
  d ← field key o
  or_flaw (flaw_at o key WrongType) (as_str d)

unfoldable pub number : Key → Object → Result ℕ FieldError
number key o = do
  t ← text key o
  or_flaw (flaw_at o key BadNumber) (number_of t)

unfoldable pub height : Key → Object → Result ℕ FieldError
height key o = do
  n ← number key o
  or_flaw (flaw_at o key BadNumber) (height_of n)

-- the identifier of a chain
unfoldable pub chain : Key → Object → Result (List ℕ) FieldError
chain key o = do
  t ← text key o
  or_flaw (flaw_at o key BadIdentifier) (identifier_of t)

unfoldable pub time : Key → Object → Result ℕ FieldError
time key o = do
  t ← text key o
  or_flaw (flaw_at o key BadTime) (moment_of t)

-- so many bytes, in hexadecimal digits
unfoldable pub hex : ℕ → Key → Object → Result (List ℕ) FieldError
hex count key o = do
  t ← text key o
  or_flaw (flaw_at o key BadHex) (bytes_of count t)

-- at most 64 bytes, in hexadecimal digits; none where they aren't there
unfoldable pub bytes : Key → Object → Result (List ℕ) FieldError
bytes key o = if has key o then (text key o >>= λ t. or_flaw (flaw_at o key BadHex) (bytes_up_to 64 t)) else Ok []

-- a number that is 0 where it isn't there, as protojson leaves it out
unfoldable pub number_or_zero : Key → Object → Result ℕ FieldError
number_or_zero key o = if has key o then number key o else Ok 0

-- a number of JSON, which is 0 where it isn't there
unfoldable pub count : Key → Object → Result ℕ FieldError
count key o = if has key o then (field key o >>= λ d. or_flaw (flaw_at o key WrongType) (option_and_then as_u64 (as_number d))) else Ok 0

-- a hash of a client's record, in hexadecimal digits or in base64
unfoldable pub record_hash : Key → Object → Result (List ℕ) FieldError
record_hash key o = do
  t ← text key o
  or_flaw (flaw_at o key BadHex) (hash_of t)

-- at most 64 bytes, in base64
unfoldable pub base64_bytes : Key → Object → Result (List ℕ) FieldError
base64_bytes key o = do
  t ← text key o
  or_flaw (flaw_at o key BadBase64) (base64_up_to 64 t)

-- so many bytes, in base64
unfoldable pub base64 : ℕ → Key → Object → Result (List ℕ) FieldError
base64 count key o = do
  t ← text key o
  or_flaw (flaw_at o key BadBase64) (key_of count t)

-- the elements of the array that is this part, each read so, after those before them
abbrev pub each : {A : Type 0} → (Object → Result A FieldError) → Segment → List A → Items → Result (List A) FieldError
each read place before no_items = Ok before
each read place before (item d ds) = read (record { value = d; part = place; index = Some (length before) }) >>= λ x. each read place (before ++ x ∷ []) ds
