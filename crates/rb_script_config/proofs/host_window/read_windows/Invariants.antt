use Rattle.std.proofs.Common.{◌≡◌, [], drop, map}
use Rattle.toml.specs.View.{items_view}
use Rattle.rb_script_toml.specs.Fields.{elements}
use Rattle.rb_script_config.specs.HostWindows.{host_window}
use Rattle.rb_script_config.proofs.host_window.read_windows.Given as goal

-- what is left is read beside what was read
abbrev pub invariant-loop-value : goal.invariant-loop-value
invariant-loop-value g l =
    elements (host_window (map g.T.Named.name l.chains)) l.path l.windows.items (items_view (drop l.value-index l.items))
    ≡ elements (host_window (map g.T.Named.name l.chains)) l.path [] (items_view l.items)
