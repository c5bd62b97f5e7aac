use Rattle.std.proofs.Common.{◌≡◌, [], codes, drop}
use Rattle.toml.specs.View.{items_view}
use Rattle.rb_script_toml.specs.Fields.{elements}
use Rattle.rb_script_config.specs.Clients.{client}
use Rattle.rb_script_config.proofs.client.read_clients.Given as goal

-- what is left is read beside what was read
abbrev pub invariant-loop-value : goal.invariant-loop-value
invariant-loop-value l =
    elements (client l.version l.chains) (codes "client") l.clients (items_view (drop l.value-index l.items))
    ≡ elements (client l.version l.chains) (codes "client") [] (items_view l.items)
