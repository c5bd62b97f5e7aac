-- The JSON of answers, and the bytes that texts in it stand for.
use Rattle.std.specs.Prelude.{ℕ, List, if◌then◌else◌, Option, None}
use Rattle.std.specs.Result.{result_ok}
use Rattle.std.specs.Str.{is_utf8}
use Rattle.serde_json.specs.Data.{Data}
use Rattle.serde_json.specs.Read.{read as read_text}
use Rattle.base64.specs.Engines.{standard}
use Rattle.base64.specs.GeneralPurpose.{decode_of}

-- JSON in UTF-8
unfoldable pub json : List ℕ → Option Data
json bytes = if is_utf8 bytes then read_text bytes else None

abbrev pub base64_bytes : List ℕ → Option (List ℕ)
base64_bytes text = result_ok (decode_of standard text)
