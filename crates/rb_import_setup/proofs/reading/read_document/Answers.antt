use Rattle.rb_import_setup.proofs.PlacesLemmas.{places}
use Rattle.rb_import_setup.proofs.reading.read_document.Goals as goal

pub invariant_of-result : goal.invariant_of-result
invariant_of-result c = record {
  places = places c.in_ok-chains-2.chains _ c.in_ok-clients.clients _ c.in_ok-paths.paths _ c.in_ok-turns.turns.items _ _ _
      c.into_vec.ensures c.into_vec-2.ensures c.into_vec-3.ensures c.in_ok-clients.ensures c.in_ok-paths.ensures c.in_ok-turns.ensures;
}
