use Rattle.std.proofs.Common.{◌≡◌, drop}
use Rattle.std.specs.List.{enumerate_from, list_any}
use Rattle.rb_core_model.specs.Forgetting.{has_many_below}
use Rattle.rb_core_state.specs.Floors.{standing_at}
use Rattle.rb_core_state.specs.Room.{books_of}
use Rattle.rb_core_state.proofs.floors.has_many_low.Given as goal

abbrev pub invariant-loop-chain : goal.invariant-loop-chain
invariant-loop-chain g l =
    list_any (has_many_below l.least l.window (standing_at l.window l.books l.clients l.paths)) (enumerate_from l.chain (drop l.chain (books_of l.books)))
    ≡ list_any (has_many_below l.least l.window (standing_at l.window l.books l.clients l.paths)) (enumerate_from 0 (books_of l.books))
