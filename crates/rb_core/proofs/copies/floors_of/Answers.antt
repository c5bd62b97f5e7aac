use Rattle.std.proofs.Common.{◌≡◌, ℕ, suc, ◌+◌, ◌<◌, ◌++◌, ◌∷◌, [], length, take, ap, ◌∙◌, arith}
use Rattle.std.specs.Option.{option_map_or}
use Rattle.std.proofs.lemmas.List.{length-map, take_all}
use Rattle.rb_book.specs.Shared.{Shared}
use Rattle.rb_core_model.specs.Forgetting.{floor}
use Rattle.rb_core.specs.State.{standing_view}
use Rattle.rb_core_state.specs.Room.{books_of}
use Rattle.rb_core.proofs.Anew.{numbers, numbered}
use Rattle.rb_core.proofs.copies.floors_of.Goals as goal

pub loop-chain-preserved : goal.loop-chain-preserved
loop-chain-preserved g c =
    let state = c.args.state.now in
    let at : ℕ → ℕ = λ k. option_map_or (λ w. floor w (standing_view state) k) state.window 0 in
    let long = length-map state.books.items (λ (s : Shared). s.book) in
    let within : c.loop-chain.chain < length (books_of state.books.items) = omega (arith, c.loop-chain-test.true, c.len-chains.ensures, state.books.ok.0, long) in
    let next : suc c.loop-chain.chain ≡ c.loop-chain.chain + 1 = omega arith in
    let place : c.loop-chain.chain ≡ 0 + c.loop-chain.chain = omega arith in
    c.in_ok-push.ensures.items ∙ (λ i. c.loop-chain.invariant i ++ c.floor_of.ensures i ∷ []) ∙ ap (λ k. numbers at 0 (take c.loop-chain.chain (books_of state.books.items)) ++ at k ∷ []) place
    ∙ numbered at 0 (books_of state.books.items) c.loop-chain.chain within ∙ ap (λ k. numbers at 0 (take k (books_of state.books.items))) next

pub returns : goal.returns
returns g c =
    let state = c.args.state.now in
    let at : ℕ → ℕ = λ k. option_map_or (λ w. floor w (standing_view state) k) state.window 0 in
    let long = length-map state.books.items (λ (s : Shared). s.book) in
    c.loop-chain.invariant
    ∙ ap (numbers at 0) (take_all c.loop-chain.chain (books_of state.books.items) (omega (arith, c.loop-chain-test.false, c.len-chains.ensures, state.books.ok.0, long)))
