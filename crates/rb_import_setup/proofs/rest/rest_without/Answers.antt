use Rattle.std.proofs.Common.{of_calls}
use Rattle.rb_import_setup.proofs.RestsPlaces.{left_places}
use Rattle.rb_import_setup.proofs.rest.rest_without.Goals as goal

pub invariant_of-left : goal.invariant_of-left
invariant_of-left c = record {
  places = left_places c.args.setup.now.chains.items _ c.args.id.now c.args.setup.now.clients.items _ c.args.setup.now.paths.items _ c.args.setup.now.turns.items _ c.in_ok-clients.clients.items
      (search of_calls) (search of_calls) (search of_calls) (search of_calls) (search of_calls) c.args.setup.now.places;
}
