-- What an import leaves out.
use Rattle.std.specs.Prelude.{ℕ, ◌+◌, List, length, map, Bool, is_some, if◌then◌else◌}
use Rattle.rb_import_setup.specs.Rests as rests
use Rattle.ibcplan_folders.specs.declared.left_out.Fleet.{Fleet}
use Rattle.ibcplan_folders.specs.declared.left_out.LeftOut.{LeftOut}

-- how many clients and paths a fleet has
abbrev pub object_count : Fleet → ℕ
object_count f = length f.setup.clients.items + length f.setup.paths.items

-- of each client, and of each path, of a fleet whether it stays where the answers of an identifier are refused
abbrev pub clients_stay : Fleet → List ℕ → List Bool
clients_stay f id = map (rests.client_stays f.setup.chains.items id) f.setup.clients.items

abbrev pub paths_stay : Fleet → List ℕ → List Bool
paths_stay f id = map (rests.path_stays (clients_stay f id) id) f.setup.paths.items

-- the status of an import: 7 where something is left out, else 0
abbrev pub import_status : LeftOut → ℕ
import_status l = if is_some l.first then 7 else 0
