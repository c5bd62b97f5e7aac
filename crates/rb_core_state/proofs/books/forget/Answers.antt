use Rattle.std.proofs.Common.{◌≡◌, ℕ, ◌<◌, length, refl, ap, ◌∙◌, arith}
use Rattle.std.proofs.lemmas.List.{length-map}
use Rattle.rb_book.specs.Rest.{rest_of_book}
use Rattle.rb_book.specs.Shared.{Shared}
use Rattle.rb_core_state.specs.Floors.{floor_in, floor_or_none}
use Rattle.rb_core_state.specs.Room.{books_of}
use Rattle.rb_core_state.proofs.Forgotten.{upto, seen-step, upto-all}
use Rattle.rb_core_state.proofs.books.forget.Goals as goal

pub loop-chain-preserved : goal.loop-chain-preserved
loop-chain-preserved g c =
    let initial = c.args.books.now in
    let long = length-map initial.items (λ (s : Shared). s.book) in
    let within : c.loop-chain.chain < length (books_of initial.items) = omega (arith, c.loop-chain-test.true, c.len-chain-end.ensures, initial.ok.0, long) in
    seen-step (λ (s : Shared). s.book) (λ chain. rest_of_book (floor_in c.args.floors.now chain)) c.loop-chain.chain (books_of initial.items) c.loop-chain.books.items _ c.index_mut.result.now
    c.forget_below.new.book within c.loop-chain.invariant c.index_mut.ensures.value
    (c.in_ok-forget_below.ensures ∙ ap (λ o. rest_of_book (floor_or_none o) c.index_mut.result.now.book) c.floor_at.ensures) refl

pub returns : goal.returns
returns g c =
    let initial = c.args.books.now in
    let change : ℕ → _ → _ = λ chain. rest_of_book (floor_in c.args.floors.now chain) in
    let long = length-map initial.items (λ (s : Shared). s.book) in
    let end : c.loop-chain.chain ≡ length (books_of initial.items) = omega (arith, c.loop-chain-test.false, c.loop-chain.auto.chain-end, c.len-chain-end.ensures, initial.ok.0, long) in
    c.loop-chain.invariant ∙ ap (λ k. upto change 0 k (books_of initial.items)) end ∙ upto-all change 0 (books_of initial.items)
