-- Values of JSON and their texts (RFC 8259). A blank stands behind each comma and each colon (own choice).
use Rattle.std.specs.Prelude.{ℕ, Bool, false, true, if◌then◌else◌, List, [], ◌∷◌, ◌++◌, codes, ◌||◌, ◌==◌, flat_map, Option, Some, None}
use Rattle.std.specs.Char.{encode_utf8}
use Rattle.std.specs.Fmt.{decimal}
use Rattle.std.specs.Str.{chars}

-- the characters of a string are those between its quotation marks
mutual
  pub data Json : Type 0 where
    null : Json
    number : ℕ → Json
    boolean : Bool → Json
    string : List ℕ → Json
    items : Items → Json
    members : Members → Json

  pub data Items : Type 0 where
    no_items : Items
    item : Json → Items → Items

  pub data Members : Type 0 where
    no_members : Members
    member : List ℕ → Json → Members → Members

-- ---- arrays and objects by lists

abbrev pub items_of : List Json → Items
items_of [] = no_items
items_of (v ∷ vs) = item v (items_of vs)

abbrev pub array : List Json → Json
array vs = items (items_of vs)

-- a member of an object: its name and its value
infix 70 ◌is◌
abbrev pub ◌is◌ : List ℕ → Json → List ℕ × Json
name is value = (name, value)

abbrev pub members_of : List (List ℕ × Json) → Members
members_of [] = no_members
members_of (m ∷ ms) = member m.0 m.1 (members_of ms)

abbrev pub object : List (List ℕ × Json) → Json
object ms = members (members_of ms)

abbrev pub number_or_null : Option ℕ → Json
number_or_null None = null
number_or_null (Some n) = number n

-- ---- texts

-- a quotation mark and a backslash stand behind a backslash
abbrev pub escape : ℕ → List ℕ
escape c = if (c == 34) || (c == 92) then 92 ∷ c ∷ [] else encode_utf8 c

-- the characters of a string by those of a text that has no control character
abbrev pub escaped : List ℕ → List ℕ
escaped text = flat_map escape (chars text)

abbrev pub string_text : List ℕ → List ℕ
string_text characters = codes "\"" ++ characters ++ codes "\""

abbrev pub boolean_text : Bool → List ℕ
boolean_text true = codes "true"
boolean_text false = codes "false"

-- what stands between a value or a member and the one before it, if there is one
abbrev pub comma_if : Bool → List ℕ
comma_if false = []
comma_if true = codes ", "

-- the name of a member, up to where its value stands
unfoldable pub name_text : Bool → List ℕ → List ℕ
name_text later name = comma_if later ++ string_text name ++ codes ": "

abbrev mutual
  pub json_text : Json → List ℕ
  json_text null = codes "null"
  json_text (number n) = decimal n
  json_text (boolean b) = boolean_text b
  json_text (string characters) = string_text characters
  json_text (items vs) = codes "[" ++ items_text false vs ++ codes "]"
  json_text (members ms) = codes "{" ++ members_text false ms ++ codes "}"

  pub items_text : Bool → Items → List ℕ
  items_text later no_items = []
  items_text later (item v vs) = comma_if later ++ json_text v ++ items_text true vs

  pub members_text : Bool → Members → List ℕ
  members_text later no_members = []
  members_text later (member name v ms) = name_text later name ++ json_text v ++ members_text true ms

-- values of an array, and members of an object behind others
abbrev pub values_text : List Json → List ℕ
values_text vs = items_text false (items_of vs)

abbrev pub more_text : List (List ℕ × Json) → List ℕ
more_text ms = members_text true (members_of ms)
