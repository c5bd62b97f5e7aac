use Rattle.std.proofs.Common.{◌≡◌, [], codes, drop}
use Rattle.toml.specs.View.{items_view}
use Rattle.rb_script_toml.specs.Fields.{elements}
use Rattle.rb_script_config.specs.Paths.{path}
use Rattle.rb_script_config.proofs.path.read_paths.Given as goal

-- what is left is read beside what was read
abbrev pub invariant-loop-value : goal.invariant-loop-value
invariant-loop-value l =
    elements (path l.version l.chains l.clients) (codes "path") l.paths (items_view (drop l.value-index l.items))
    ≡ elements (path l.version l.chains l.clients) (codes "path") [] (items_view l.items)
