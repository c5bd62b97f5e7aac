use Rattle.std.proofs.Common.{◌≡◌, None, take}
use Rattle.std.specs.List.{flat_map}
use Rattle.rb_core_model.specs.Forgetting.{needs_on}
use Rattle.rb_core_state.specs.Floors.{lowered}
use Rattle.rb_core_state.specs.Room.{ClientWithRoom, books_of}
use Rattle.rb_core_state.proofs.floors.lowest_of_clients.Given as goal

abbrev pub invariant-loop-client : goal.invariant-loop-client
invariant-loop-client g l =
    l.least ≡ lowered None (flat_map (λ (h : ClientWithRoom). needs_on l.window (books_of l.books) l.chain h.client) (take l.client-index l.clients))
