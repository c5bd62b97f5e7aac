-- The identifiers of paths.
use Rattle.std.proofs.Common.{◌≡◌, ℕ, List, [], ◌∷◌, map, refl, ap}
use Rattle.rb_import_setup.specs.declared.setup.PathSetup.{PathSetup}
use Rattle.rb_import_setup.specs.Paths.{Path, path_view}

pub ids_of_views : (paths : List PathSetup) → map (λ (p : Path). p.config.id) (map path_view paths) ≡ map (λ (p : PathSetup). p.config.id) paths
ids_of_views [] = refl
ids_of_views (p ∷ paths) = ap (λ (ids : List (List ℕ)). p.config.id ∷ ids) (ids_of_views paths)

pub ruleset views = (ids_of_views)
