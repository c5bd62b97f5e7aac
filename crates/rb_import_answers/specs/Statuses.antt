-- What a node says of itself (CometBFT: `/status`).
use Rattle.std.specs.Prelude.{ℕ, List, Option, codes, option_and_then, option_map}
use Rattle.serde_json.specs.Data.{Data}
use Rattle.serde_json.specs.Find.{get, as_str}
use Rattle.rb_import_json.specs.Values.{number_of, height_of, identifier_of}
use Rattle.rb_import_answers.specs.declared.status.NodeStatus.{NodeStatus}

-- the member of a member
abbrev pub member_in : List ℕ → List ℕ → Data → Option Data
member_in outer inner answer = option_and_then (get inner) (get outer answer)

-- the height of the latest block
unfoldable pub latest_of : Data → Option ℕ
latest_of answer =
    option_and_then height_of (option_and_then number_of (option_and_then as_str (member_in (codes "sync_info") (codes "latest_block_height") answer)))

-- the chain that it is a node of, where it says so
unfoldable pub network_of : Data → Option (List ℕ)
network_of answer = option_and_then identifier_of (option_and_then as_str (member_in (codes "node_info") (codes "network") answer))

unfoldable pub status_of : Data → Option NodeStatus
status_of answer = option_map (λ latest. record { latest = latest; network = network_of answer }) (latest_of answer)
