use Rattle.std.proofs.Common.{ℕ, Vec}
use Rattle.std.specs.Global.{Global}
use Rattle.rb_import_setup.specs.declared.setup.ClientSetup.{ClientSetup}
use Rattle.rb_import_check.specs.declared.client.Stored.{Stored}
use Rattle.rb_import_merge.specs.Room.{AreKeptOf}
use Rattle.rb_import_merge.proofs.Rooms.{AtEachBefore}
use Rattle.rb_import_merge.proofs.room.records_of.Given as goal

-- each of the clients so far has those that there is room for
abbrev pub invariant-loop-number : goal.invariant-loop-number
invariant-loop-number l = AtEachBefore l.number (λ (number : ℕ) (c : ClientSetup) (kept : Vec Stored Global). AreKeptOf l.chains l.clients l.books number c kept.items) l.setup.clients.items l.records.items
