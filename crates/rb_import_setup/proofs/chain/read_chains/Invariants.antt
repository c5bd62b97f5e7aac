use Rattle.std.proofs.Common.{◌≡◌, [], codes, drop}
use Rattle.toml.specs.View.{items_view}
use Rattle.rb_script_toml.specs.Fields.{elements}
use Rattle.rb_import_setup.specs.Chains.{chain}
use Rattle.rb_import_setup.proofs.chain.read_chains.Given as goal

-- what is left is read beside what was read
abbrev pub invariant-loop-value : goal.invariant-loop-value
invariant-loop-value l =
    elements chain (codes "chain") l.chains (items_view (drop l.value-index l.items))
    ≡ elements chain (codes "chain") [] (items_view l.items)
