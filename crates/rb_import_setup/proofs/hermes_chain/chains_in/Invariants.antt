use Rattle.std.proofs.Common.{◌≡◌, [], codes, drop, map}
use Rattle.toml.specs.View.{items_view}
use Rattle.rb_script_toml.specs.Fields.{elements}
use Rattle.rb_import_setup.specs.HermesChains.{chain_view}
use Rattle.rb_import_setup.specs.HermesConfigs.{next_chain}
use Rattle.rb_import_setup.proofs.hermes_chain.chains_in.Given as goal

-- what is left is read beside what was read
abbrev pub invariant-loop-value : goal.invariant-loop-value
invariant-loop-value l =
    elements next_chain (codes "chains") (map chain_view l.chains.items) (items_view (drop l.value-index l.values))
    ≡ elements next_chain (codes "chains") [] (items_view l.values)
