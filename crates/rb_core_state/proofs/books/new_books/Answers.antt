use Rattle.std.proofs.Common.{◌≡◌, ℕ, replicate, ap, ◌∙◌, arith}
use Rattle.rb_core_model.specs.Standing.{empty_book}
use Rattle.rb_core_state.proofs.books.new_books.Goals as goal

pub returns : goal.returns
returns g c =
    let all : c.loop.counter ≡ c.args.chains = omega (arith, c.loop-test.false, c.loop.auto.counter-end) in
    c.loop.invariant ∙ ap (λ (n : ℕ). replicate n (empty_book c.args.limit)) all
