-- Clients as lines of text, and as a member of a report's JSON: whether the newest consensus state that a client has stored is live, and when
-- it expires.
use Rattle.std.specs.Prelude.{ℕ, ◌-◌, nat_lt, Bool, List, [], ◌∷◌, ◌++◌, codes, map, if◌then◌else◌, Option, Some, None}
use Rattle.std.specs.Option.{option_map_or}
use Rattle.std.specs.Fmt.{decimal}
use Rattle.rb_script_text.specs.Json.{Json, array, boolean, object, string, ◌is◌}
use Rattle.rb_script_text.specs.Lengths.{length_text}
use Rattle.rb_script_text.specs.Moments.{instant_text}
use Rattle.rb_text_report.specs.declared.expiry.Expiry.{Expiry}
use Rattle.rb_text_report.specs.declared.health.ClientHealth.{ClientHealth}

-- it doesn't expire in the window
abbrev pub is_live : Expiry → Bool
is_live e = nat_lt e.until e.expires

-- ---- lines

abbrev pub state_text : Expiry → List ℕ
state_text e = if is_live e then codes "live, expires " else codes "expired, at "

-- how far the moment of an expiry is from the window's end
unfoldable pub distance_text : Expiry → List ℕ
distance_text e =
    if is_live e
    then length_text (e.expires - e.until) ++ codes " after the window"
    else length_text (e.until - e.expires) ++ codes " before the window's end"

-- whether it is live, and when it expires
unfoldable pub moment_part : Expiry → List ℕ
moment_part e = state_text e ++ instant_text e.expires ++ codes ", "

unfoldable pub expiry_text : Expiry → List ℕ
expiry_text e = moment_part e ++ distance_text e ++ codes ", height " ++ decimal e.height

-- of a client
unfoldable pub line_text : ClientHealth → List ℕ
line_text h = codes "client " ++ h.client.id ++ codes " " ++ option_map_or expiry_text h.expiry (codes "nothing stored") ++ codes "\n"

-- ---- JSON; identifiers have no character that it escapes

abbrev pub expiry_members : Expiry → List (List ℕ × Json)
expiry_members e = codes "expires" is string (instant_text e.expires) ∷ codes "live" is boolean (is_live e) ∷ []

-- when the newest consensus state that a client has stored expires, if there is one
abbrev pub stored_members : Option Expiry → List (List ℕ × Json)
stored_members None = []
stored_members (Some e) = expiry_members e

abbrev pub client_json : ClientHealth → Json
client_json h = object (codes "id" is string h.client.id ∷ stored_members h.expiry)

-- the member of a report's object that tells its clients
abbrev pub clients_members : List ClientHealth → List (List ℕ × Json)
clients_members hs = codes "clients" is array (map client_json hs) ∷ []
