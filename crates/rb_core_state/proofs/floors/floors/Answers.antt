use Rattle.std.proofs.Common.{◌≡◌, ◌+◌, length, ap, ◌∙◌, arith}
use Rattle.std.proofs.lemmas.List.{length-map, length_push}
use Rattle.rb_book.specs.Shared.{Shared}
use Rattle.rb_core_model.specs.Forgetting.{floor}
use Rattle.rb_core_state.specs.Floors.{floor_in, standing_at}
use Rattle.rb_core_state.proofs.Lowest.{floor_past, floors_more, floors_all}
use Rattle.rb_core_state.proofs.floors.floors.Goals as goal

pub loop-chain-preserved : goal.loop-chain-preserved
loop-chain-preserved g c =
    let old = c.loop-chain.floors.items in
    let at = floor c.args.window.now (standing_at c.args.window.now c.args.books.now c.args.clients.now c.args.paths.now) in
    let items = c.in_ok-push.ensures.items in
    let long : length c.push.new.self.items ≡ c.loop-chain.chain + 1 = ap (λ xs. length xs) items ∙ length_push old c.floor.result ∙ ap (λ n. n + 1) c.loop-chain.invariant.0 in (
      long,
      λ chain lt. ap (λ xs. floor_in xs chain) items ∙ floors_more old c.floor.result at c.loop-chain.chain c.loop-chain.invariant.0 c.loop-chain.invariant.1 c.floor.ensures chain lt,
    )

pub returns-clause-count : goal.returns-clause-count
returns-clause-count g c = omega (arith, c.loop-chain.invariant.0, c.loop-chain-test.false, c.loop-chain.auto.chain-end)

pub returns-clause-floors : goal.returns-clause-floors
returns-clause-floors g c =
    let books = c.args.books.now in
    let at = standing_at c.args.window.now books c.args.clients.now c.args.paths.now in
    let long = length-map books (λ (s : Shared). s.book) in
    floors_all c.loop-chain.floors.items (floor c.args.window.now at) c.loop-chain.chain c.loop-chain.invariant.0 c.loop-chain.invariant.1
    (λ chain le. floor_past c.args.window.now at chain (omega (arith, le, long, c.loop-chain-test.false)))
