use Rattle.std.proofs.Common.{◌≡◌, [], codes, drop, map}
use Rattle.toml.specs.View.{items_view}
use Rattle.rb_script_toml.specs.Fields.{elements}
use Rattle.rb_import_setup.specs.Paths.{path, path_view}
use Rattle.rb_import_setup.proofs.path.read_paths.Given as goal

-- what is left is read beside what was read
abbrev pub invariant-loop-value : goal.invariant-loop-value
invariant-loop-value l =
    elements (path l.chains l.clients) (codes "path") (map path_view l.paths) (items_view (drop l.value-index l.items))
    ≡ elements (path l.chains l.clients) (codes "path") [] (items_view l.items)
