use Rattle.std.proofs.Common.{◌≡◌, map, filter, take}
use Rattle.rb_import_setup.specs.Paths.{path_view}
use Rattle.rb_import_setup.specs.Rests.{moved_path, path_stays}
use Rattle.rb_import_setup.proofs.rest.left_paths.Given as goal

-- these are those of the paths so far that stay, with the new places of their clients
abbrev pub invariant-loop-path : goal.invariant-loop-path
invariant-loop-path l = map path_view l.left.items ≡ map (moved_path l.clients) (filter (path_stays l.clients l.id) (take l.path-index l.paths))
