-- Values as protojson writes them; none of them has a character that JSON escapes.
use Rattle.std.specs.Prelude.{ℕ, List, [], ◌∷◌, codes}
use Rattle.std.specs.Fmt.{decimal}
use Rattle.base64.specs.Engines.{standard}
use Rattle.base64.specs.GeneralPurpose.{encode_of}
use Rattle.rb_script_text.specs.Json.{Json, string, object, ◌is◌}
use Rattle.rb_import_answers.specs.declared.packets.RevisionHeight.{RevisionHeight}

-- a number of 64 bits is a string
abbrev pub number_json : ℕ → Json
number_json n = string (decimal n)

-- bytes: base64
abbrev pub bytes_json : List ℕ → Json
bytes_json bytes = string (encode_of standard bytes)

-- a height (ICS 2; ibc-go, `Height`)
unfoldable pub height_member : RevisionHeight → List (List ℕ × Json)
height_member h = (codes "revision_height" is number_json h.height) ∷ []

unfoldable pub height_json : RevisionHeight → Json
height_json h = object ((codes "revision_number" is number_json h.revision) ∷ height_member h)
