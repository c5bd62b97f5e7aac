use Rattle.std.proofs.Common.{◌≡◌, take}
use Rattle.std.specs.Option.{option_map_or}
use Rattle.rb_core_model.specs.Forgetting.{floor}
use Rattle.rb_core.specs.State.{standing_view}
use Rattle.rb_core_state.specs.Room.{books_of}
use Rattle.rb_core.proofs.Anew.{numbers}
use Rattle.rb_core.proofs.copies.floors_of.Given as goal

abbrev pub invariant-loop-chain : goal.invariant-loop-chain
invariant-loop-chain g l =
    l.numbers.items ≡ numbers (λ k. option_map_or (λ w. floor w (standing_view l.state) k) l.state.window 0) 0 (take l.chain (books_of l.state.books.items))
