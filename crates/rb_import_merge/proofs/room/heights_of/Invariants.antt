use Rattle.rb_import_merge.proofs.Rooms.{AreStoredBefore}
use Rattle.rb_import_merge.proofs.room.heights_of.Given as goal

-- these are the heights that the clients so far have stored
abbrev pub invariant-loop-number : goal.invariant-loop-number
invariant-loop-number l = AreStoredBefore l.number l.setup l.clients l.place l.heights.items
