-- What a key of a table holds, read by its type and its range.
use Rattle.std.specs.Prelude.{ℕ, suc, Bool, ◌*◌, ◌≤◌, List, [], ◌∷◌, ◌++◌, length, Option, Some, None, option_map, Result, Ok, Err, ℤ, pos, negsuc, ◌&&◌, nat_le, nat_lt, if◌then◌else◌, replicate}
use Rattle.std.specs.List.{list_any}
use Rattle.std.specs.Str.{bytes_eq}
use Rattle.toml.specs.Data.{Data, Items, no_items, item, Members, no_members, member, get_member, as_str, as_bool, as_integer, as_array, as_table}
use Rattle.toml.specs.View.{view, table_view}
use Rattle.hex.specs.Hex.{decode_sized}
use Rattle.hex.specs.declared.error.FromHexError.{FromHexError}
use Rattle.jiff.specs.Words.{parse_timestamp, Error as JiffError}
use Rattle.rb_base.specs.Fee.{Fees}
use Rattle.rb_base.specs.Fraction.{Ratio}
use Rattle.rb_script_toml.specs.declared.fault.FaultName.{FaultName}
use Rattle.rb_script_toml.specs.declared.fault.FaultName.TheVariants.{MissingKey, UnknownKey, WrongType, OutOfRange, BadIdentifier, BadFee, BadTrust, BadTime, BadHex, TooManyObjects}
use Rattle.rb_script_toml.specs.declared.field.Field.{Field as CodeField}
use Rattle.rb_script_toml.specs.declared.section.Section.{Section as CodeSection}
use Rattle.rb_script_toml.specs.Faults.{Fault, ◌>>=◌, fault, check}
use Rattle.rb_script_toml.specs.KeyPaths.{child, element, place_path, shown_key}
use Rattle.rb_script_toml.specs.Identifiers.{is_identifier}

-- a value and its path
pub record Field : Type 0 where
  pub path : List ℕ
  pub value : Data

abbrev pub field_view : CodeField → Field
field_view f = record { path = place_path f.place; value = view f.value.now }

-- the value if it has the type that is wanted
abbrev pub typed : {A : Type 0} → Option A → List ℕ → Result A Fault
typed (Some x) path = Ok x
typed None path = fault WrongType path

unfoldable pub text : Field → Result (List ℕ) Fault
text f = typed (as_str f.value) f.path

-- true or false
unfoldable pub flag : Field → Result Bool Fault
flag f = typed (as_bool f.value) f.path

-- ---- numbers

-- 2 ^ 63 - 1
abbrev pub max_number : ℕ
max_number = 9223372036854775807

-- a number from low on, at most high
abbrev pub within : ℕ → ℕ → FaultName → List ℕ → ℤ → Result ℕ Fault
within low high name path (pos n) = if nat_le low n && nat_le n high then Ok n else fault name path
within low high name path (negsuc n) = fault name path

unfoldable pub number : ℕ → ℕ → FaultName → Field → Result ℕ Fault
number low high name f = do
  z ← typed (as_integer f.value) f.path
  within low high name f.path z

abbrev pub height : Field → Result ℕ Fault
height f = number 1 max_number OutOfRange f

-- ---- arrays

abbrev pub items_count : Items → ℕ
items_count no_items = 0
items_count (item d ds) = suc (items_count ds)

unfoldable pub items : Field → Result Items Fault
items f = typed (as_array f.value) f.path

-- the elements, at most as many
unfoldable pub array : ℕ → Field → Result Items Fault
array most f = do
  ds ← items f
  _ ← check (nat_le (items_count ds) most) TooManyObjects f.path
  Ok ds

abbrev pub three : List ℕ → Items → Result (ℤ × ℤ × ℤ) Fault
three path (item a (item b (item c no_items))) = do
  x ← typed (as_integer a) (element path 0)
  y ← typed (as_integer b) (element path 1)
  z ← typed (as_integer c) (element path 2)
  Ok (x, y, z)
three path _ = fault WrongType path

abbrev pub two : List ℕ → Items → Result (ℤ × ℤ) Fault
two path (item a (item b no_items)) = do
  x ← typed (as_integer a) (element path 0)
  y ← typed (as_integer b) (element path 1)
  Ok (x, y)
two path _ = fault WrongType path

-- an array of three integers, and of two
unfoldable pub three_integers : Field → Result (ℤ × ℤ × ℤ) Fault
three_integers f = do
  ds ← items f
  three f.path ds

unfoldable pub two_integers : Field → Result (ℤ × ℤ) Fault
two_integers f = do
  ds ← items f
  two f.path ds

-- three numbers of fees or of gas, each at most 10^9
abbrev pub AreFees : ℕ × ℕ × ℕ → Type 0
AreFees n = (n.0 ≤ 1000000000) × (n.1 ≤ 1000000000) × (n.2 ≤ 1000000000)

unfoldable pub fees : Field → Result (ℕ × ℕ × ℕ) Fault
fees f = do
  n ← three_integers f
  first ← within 0 1000000000 BadFee (element f.path 0) n.0
  second ← within 0 1000000000 BadFee (element f.path 1) n.1
  third ← within 0 1000000000 BadFee (element f.path 2) n.2
  Ok (first, second, third)

-- a base, and so much for each signature and for each validator
unfoldable pub fee_table : Field → Result Fees Fault
fee_table f = do
  n ← fees f
  Ok (record { base = n.0; signature = n.1; validator = n.2 })

abbrev pub ratio_of : ℕ × ℕ → Ratio
ratio_of n = record { numerator = n.0; denominator = n.1 }

-- a numerator and a denominator, which make a third at least and one at most
unfoldable pub trust : Field → Result Ratio Fault
trust f = do
  n ← two_integers f
  numerator ← within 0 max_number OutOfRange (element f.path 0) n.0
  denominator ← within 0 max_number OutOfRange (element f.path 1) n.1
  _ ← check (nat_lt 0 denominator && nat_le denominator (3 * numerator) && nat_le numerator denominator) BadTrust f.path
  Ok (ratio_of (numerator, denominator))

-- ---- texts

unfoldable pub identifier : Field → Result (List ℕ) Fault
identifier f = do
  bytes ← text f
  _ ← check (is_identifier bytes) BadIdentifier f.path
  Ok bytes

-- nanoseconds since 1970, at most 10^20
abbrev pub moment_of : List ℕ → Result ℤ JiffError → Result ℕ Fault
moment_of path (Ok n) = within 0 100000000000000000000 BadTime path n
moment_of path (Err e) = fault BadTime path

unfoldable pub time : Field → Result ℕ Fault
time f = do
  bytes ← text f
  moment_of f.path (parse_timestamp bytes)

abbrev pub hash_of : List ℕ → Result (List ℕ) FromHexError → Result (List ℕ) Fault
hash_of path (Ok bytes) = Ok bytes
hash_of path (Err e) = fault BadHex path

-- 64 hexadecimal digits
unfoldable pub hash : Field → Result (List ℕ) Fault
hash f = do
  bytes ← text f
  hash_of f.path (decode_sized bytes 32)

-- ---- tables

-- the members of a table, and its path
pub record Section : Type 0 where
  pub path : List ℕ
  pub members : Members

abbrev pub section_view : CodeSection → Section
section_view s = record { path = s.path.now; members = table_view s.table.now }

-- the first of the members, which ascend by their bytes (`is_sorted` of toml), that is none of these keys
abbrev pub unknown_key : List (List ℕ) → Members → Option (List ℕ)
unknown_key keys no_members = None
unknown_key keys (member k d ms) = if list_any (λ known. bytes_eq known k) keys then unknown_key keys ms else Some k

abbrev pub none_unknown : List ℕ → Option (List ℕ) → Result (Unit {0}) Fault
none_unknown path None = Ok tt
none_unknown path (Some key) = fault UnknownKey (child path (shown_key key))

-- no other keys than these
unfoldable pub only : List (List ℕ) → Section → Result (Unit {0}) Fault
only keys s = none_unknown s.path (unknown_key keys s.members)

abbrev pub field_at : List ℕ → Data → Field
field_at path d = record { path = path; value = d }

-- what a key holds, if it is there
unfoldable pub optional : List ℕ → Section → Option Field
optional key s = option_map (field_at (child s.path key)) (get_member key s.members)

abbrev pub needed : List ℕ → Option Field → Result Field Fault
needed path (Some f) = Ok f
needed path None = fault MissingKey path

unfoldable pub required : List ℕ → Section → Result Field Fault
required key s = needed (child s.path key) (optional key s)

-- what a key holds, read so
abbrev pub needs : {A : Type 0} → List ℕ → (Field → Result A Fault) → Section → Result A Fault
needs key read s = required key s >>= read

-- what a key holds, read so, or the default
abbrev pub or_default : {A : Type 0} → A → (Field → Result A Fault) → Option Field → Result A Fault
or_default x read None = Ok x
or_default x read (Some f) = read f

-- what a key holds, read so, if it is there
abbrev pub maybe : {A : Type 0} → (Field → Result A Fault) → Option Field → Result (Option A) Fault
maybe read None = Ok None
maybe read (Some f) = read f >>= λ x. Ok (Some x)

-- 32 zeros
abbrev pub zero_hash : List ℕ
zero_hash = replicate 32 0

-- ---- arrays of tables

unfoldable pub section_at : List ℕ → Data → Result Section Fault
section_at path d = do
  members ← typed (as_table d) path
  Ok (record { path = path; members = members })

-- the table of this index in an array
abbrev pub at_element : {A : Type 0} → (List A → Section → Result A Fault) → List ℕ → List A → Data → Result A Fault
at_element read path before d = section_at (element path (length before)) d >>= read before

-- the tables of an array in order, each read beside those before it
abbrev pub elements : {A : Type 0} → (List A → Section → Result A Fault) → List ℕ → List A → Items → Result (List A) Fault
elements read path before no_items = Ok before
elements read path before (item d ds) = at_element read path before d >>= λ x. elements read path (before ++ x ∷ []) ds

-- the table of this index in an array, read in the state that those before it left
abbrev pub next_in_sequence : {S A : Type 0} → (S → Section → Result (A × S) Fault) → List ℕ → ℕ → S → Data → Result (A × S) Fault
next_in_sequence read path index state d = section_at (element path index) d >>= read state

-- the tables of an array in order, each read in the state that those before it left
abbrev pub in_sequence : {S A : Type 0} → (S → Section → Result (A × S) Fault) → List ℕ → S → List A → Items → Result (List A × S) Fault
in_sequence read path state before no_items = Ok (before, state)
in_sequence read path state before (item d ds) = next_in_sequence read path (length before) state d >>= λ x. in_sequence read path x.1 (before ++ x.0 ∷ []) ds
