use Rattle.rb_import_merge.specs.Sets.{Gains}
use Rattle.rb_import_merge.proofs.Naming.{NextBefore}
use Rattle.rb_import_merge.proofs.sets.add_of_clients.Given as goal

-- the places of what the records of the clients so far name came to what was there
abbrev pub invariant-loop-number : goal.invariant-loop-number
invariant-loop-number l = Gains (NextBefore l.number l.setup l.records l.place l.sets.sets.items) l.fn.places.items l.places.items
