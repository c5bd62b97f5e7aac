-- JSON is text in UTF-8.
use Rattle.std.proofs.Common.{◌≡◌, ℕ, List, Bool, true, false, Option, Some, None, refl}
use Rattle.std.specs.Str.{IsUtf8, is_utf8}
use Rattle.std.proofs.lemmas.Str.{is_utf8-from_IsUtf8, IsUtf8-from_is_utf8}
use Rattle.serde_json.specs.Data.{Data}
use Rattle.serde_json.specs.Read.{read as read_text}
use Rattle.rb_packets.specs.Json.{json}

pub json-some : (bytes : List ℕ) (d : Data) → IsUtf8 bytes × (read_text bytes ≡ Some d) → json bytes ≡ Some d
unfolding json
json-some bytes d h = rw (is_utf8-from_IsUtf8 bytes h.0) h.1

json-at : (bytes : List ℕ) (b : Bool) → is_utf8 bytes ≡ b → (IsUtf8 bytes → read_text bytes ≡ None) → json bytes ≡ None
unfolding json
json-at bytes true e h = rw e (h (IsUtf8-from_is_utf8 bytes e))
json-at bytes false e h = rw e refl

pub json-none : (bytes : List ℕ) → (IsUtf8 bytes → read_text bytes ≡ None) → json bytes ≡ None
json-none bytes h = json-at bytes (is_utf8 bytes) refl h
