use Rattle.std.proofs.Common.{◌≡◌, ◌++◌, take, map, string_bytes}
use Rattle.std.specs.List.{flat_map}
use Rattle.rb_import_setup.specs.HermesChains.{chain_view}
use Rattle.rb_import_setup.specs.HermesSetups.{node_line, needed}
use Rattle.rb_import_setup.proofs.hermes_setup.push_nodes.Given as goal

-- those of the chains so far
abbrev pub invariant-loop-chain : goal.invariant-loop-chain
invariant-loop-chain l = string_bytes l.text ≡ string_bytes l.fn.text ++ flat_map node_line (needed l.clients (map chain_view (take l.chain-index l.chains)))
