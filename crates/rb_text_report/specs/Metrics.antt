-- Metrics in Prometheus' text format, version 0.0.4: a head, then a gauge a line.
use Rattle.std.specs.Prelude.{ℕ, ◌/◌, List, [], ◌++◌, codes, slice_index_or}
use Rattle.std.specs.Option.{option_map_or}
use Rattle.std.specs.Fmt.{decimal}
use Rattle.rb_script_types.specs.declared.config.ClientConfig.{ClientConfig}
use Rattle.rb_text_report.specs.declared.expiry.Expiry.{Expiry}
use Rattle.rb_text_report.specs.declared.health.ClientHealth.{ClientHealth}

abbrev pub head : List ℕ
head = codes "# HELP ibcplan_client_expires_timestamp_seconds When the newest consensus state that the client has stored expires, in seconds since 1970.\n# TYPE ibcplan_client_expires_timestamp_seconds gauge\n"

-- the gauge's name and its first label, the other labels, and the value
unfoldable pub name_text : List ℕ → List ℕ
name_text client = codes "ibcplan_client_expires_timestamp_seconds{client=\"" ++ client ++ codes "\""

unfoldable pub label : List ℕ → List ℕ → List ℕ
label name value = codes "," ++ name ++ codes "=\"" ++ value ++ codes "\""

unfoldable pub value_text : Expiry → List ℕ
value_text e = codes "} " ++ decimal (e.expires / 1000000000) ++ codes "\n"

-- the second in which a client expires; its chains by their identifiers
abbrev pub gauge_text : List (List ℕ) → ClientConfig → Expiry → List ℕ
gauge_text chains c e =
    name_text c.id ++ label (codes "chain") (slice_index_or chains c.tracks []) ++ label (codes "host") (slice_index_or chains c.host []) ++ value_text e

-- nothing of a client that has stored nothing
abbrev pub client_text : List (List ℕ) → ClientHealth → List ℕ
client_text chains h = option_map_or (gauge_text chains h.client) h.expiry []
