-- What a node says of an error that it answers, and how much of it is shown.
use Rattle.std.specs.Prelude.{◌≢◌, ◌≤◌, ◌&&◌, ◌==◌, ℕ, nat_le, Bool, not, if◌then◌else◌, List, [], ◌∷◌, ◌++◌, map, take, Option, Some, None, option_map, option_and_then, unwrap_or, codes}
use Rattle.std.specs.Option.{option_or}
use Rattle.std.specs.Result.{result_ok}
use Rattle.std.specs.Str.{chars}
use Rattle.serde_json.specs.Data.{Data, Items, no_items, item}
use Rattle.serde_json.specs.Find.{get, as_str}
use Rattle.rb_import_json.specs.declared.field_path.Key.{Key}
use Rattle.rb_import_json.specs.declared.field_path.Segment.{Segment}
use Rattle.rb_import_json.specs.FieldErrors.{◌>>=◌}
use Rattle.rb_import_json.specs.Fields.{Object, inner, items, text}
use Rattle.rb_import_answers.specs.Answers.{json}

-- printable ASCII, and neither a quote nor a backslash
abbrev pub IsPlain : ℕ → Type 0
IsPlain character = (32 ≤ character) × (character ≤ 126) × (character ≢ 34) × (character ≢ 92)

abbrev pub is_plain : ℕ → Bool
is_plain character = nat_le 32 character && nat_le character 126 && not (character == 34) && not (character == 92)

-- a character as it may stand in quotes: `?` for one that isn't plain
unfoldable pub plain : ℕ → ℕ
plain character = if is_plain character then character else 63

-- the first 200 of these characters, as they may stand in quotes
unfoldable pub plain_text : List ℕ → List ℕ
plain_text characters = map plain (take 200 characters)

-- ---- what an answer says of its error

-- a text behind these characters, with a colon between where there are any
abbrev pub after_colon : List ℕ → List ℕ → List ℕ
after_colon [] text = text
after_colon (c ∷ characters) text = (c ∷ characters) ++ codes ": " ++ text

-- the same where there is a text
abbrev pub with_text : List ℕ → Option (List ℕ) → List ℕ
with_text characters (Some text) = after_colon characters (chars text)
with_text characters None = characters

-- the text of a member, where it is one
abbrev pub text_of : List ℕ → Data → Option (List ℕ)
text_of name d = option_and_then as_str (get name d)

-- an error is a text itself, or has a `message` and `data` (JSON-RPC 2.0, which CometBFT answers), or a `message` alone (ibc-go's gateway)
abbrev pub error_says : Option (List ℕ) → Data → List ℕ
error_says (Some text) error = chars text
error_says None error = with_text (with_text [] (text_of (codes "message") error)) (text_of (codes "data") error)

-- the error that an answer holds, or is
abbrev pub error_of : Data → Data
error_of d = unwrap_or (get (codes "error") d) d

abbrev pub says : Option Data → List ℕ
says (Some d) = error_says (as_str (error_of d)) (error_of d)
says None = []

-- what an answer's bytes say of its error; nothing where they aren't JSON
unfoldable pub said : List ℕ → List ℕ
said bytes = says (json bytes)

-- ---- what an answer on a client says of its type

-- the type of a client's state, or of a record's
unfoldable pub type_at : Key → Object → Option (List ℕ)
type_at key o = result_ok (inner key o >>= text Key.TypeUrl)

abbrev pub record_type : Items → Option (List ℕ)
record_type no_items = None
record_type (item d ds) = type_at Key.ConsensusState (record { value = d; part = Segment.ConsensusStates; index = Some 0 })

-- the type of the first of a client's records
unfoldable pub records_type : Object → Option (List ℕ)
records_type answer = option_and_then record_type (result_ok (items Key.ConsensusStates answer))

-- the type that the answer names: that of the client's state, or of its first record
unfoldable pub type_of : Data → Option (List ℕ)
type_of d =
    let answer : Object = record { value = d; part = Segment.Answer; index = None } in option_or (type_at Key.ClientState answer) (records_type answer)

abbrev pub says_type : Option Data → List ℕ
says_type (Some d) = unwrap_or (option_map chars (type_of d)) []
says_type None = []

-- what an answer's bytes say of a client's type; nothing where they name none
unfoldable pub said_type : List ℕ → List ℕ
said_type bytes = says_type (json bytes)
