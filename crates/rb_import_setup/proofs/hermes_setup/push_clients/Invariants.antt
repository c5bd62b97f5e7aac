use Rattle.std.proofs.Common.{◌≡◌, ◌++◌, take, drop, map, string_bytes}
use Rattle.std.specs.List.{flat_map}
use Rattle.rb_import_setup.specs.HermesChains.{chain_view}
use Rattle.rb_import_setup.specs.HermesRefusals.{refusal}
use Rattle.rb_import_setup.specs.HermesSetups.{table_of}
use Rattle.rb_import_setup.proofs.hermes_setup.push_clients.Given as goal

-- the clients so far are written, and none of them is refused
abbrev pub invariant-loop-client : goal.invariant-loop-client
invariant-loop-client l = record {
  text : string_bytes l.text ≡ string_bytes l.fn.text ++ flat_map (table_of (map chain_view l.chains)) (take l.client-index l.clients);
  left : refusal (map chain_view l.chains) l.clients ≡ refusal (map chain_view l.chains) (drop l.client-index l.clients);
}
