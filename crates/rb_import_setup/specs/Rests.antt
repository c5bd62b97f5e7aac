-- What is left of a setup without the clients and the paths of an identifier. Of each client a list says whether it stays.
use Rattle.std.specs.Prelude.{ℕ, List, map, filter, take, get_or, Bool, false, not, ◌&&◌, Option, Some, None, slice_get}
use Rattle.std.specs.List.{count_by}
use Rattle.std.specs.Str.{bytes_eq}
use Rattle.rb_script_types.specs.declared.script.Asked.{Asked}
use Rattle.rb_script_types.specs.declared.script.Settlement.{Settlement}
use Rattle.rb_import_setup.specs.declared.setup.ClientSetup.{ClientSetup}
use Rattle.rb_import_setup.specs.declared.setup.PathSetup.{PathSetup}
use Rattle.rb_import_setup.specs.declared.setup.TurnSetup.{TurnSetup}
use Rattle.rb_import_setup.specs.Paths.{Path, path_view}
use Rattle.rb_import_setup.specs.Turns.{Turn}

abbrev has_id : List ℕ → Option (List ℕ) → Bool
has_id id (Some chain) = bytes_eq chain id
has_id id None = false

-- whether a client tracks the chain of the identifier
abbrev pub tracks_chain : List (List ℕ) → List ℕ → ClientSetup → Bool
tracks_chain chains id c = has_id id (slice_get chains c.tracks)

-- whether a client stays: neither it nor the chain that it tracks has the identifier
abbrev pub client_stays : List (List ℕ) → List ℕ → ClientSetup → Bool
client_stays chains id c = not (bytes_eq c.id id) && not (tracks_chain chains id c)

-- whether the client at a place stays
abbrev pub stays_at : List Bool → ℕ → Bool
stays_at clients place = get_or clients place false

-- whether a path stays: it has another identifier, and both clients that serve it stay
abbrev pub path_stays : List Bool → List ℕ → PathSetup → Bool
path_stays clients id p = not (bytes_eq p.config.id id) && stays_at clients p.config.forward && stays_at clients p.config.back

-- the place of a client among those that stay: so many of the clients before it stay
abbrev pub new_place : List Bool → ℕ → ℕ
new_place clients place = count_by (λ stays. stays) (take place clients)

-- a path, with the new places of its clients
abbrev pub moved_path : List Bool → PathSetup → Path
moved_path clients p =
    record (path_view p) { config = record p.config { forward = new_place clients p.config.forward; back = new_place clients p.config.back } }

-- the goals of clients that stay, with the new places of these
abbrev pub left_goals : List Bool → List Asked → List Asked
left_goals clients goals = map (λ (g : Asked). record g { client = new_place clients g.client }) (filter (λ (g : Asked). stays_at clients g.client) goals)

-- the settlements of clients that stay, with the new places of these
abbrev pub left_settlements : List Bool → List Settlement → List Settlement
left_settlements clients settlements = map (λ (s : Settlement). record s { client = new_place clients s.client }) (filter (λ (s : Settlement). stays_at clients s.client) settlements)

-- a turn, with its windows, and with the goals and settlements of clients that stay
abbrev pub left_turn : List Bool → TurnSetup → Turn
left_turn clients t =
    record { window = t.window; windows = t.windows.items; goals = left_goals clients t.goals.items; settlements = left_settlements clients t.settlements.items }
