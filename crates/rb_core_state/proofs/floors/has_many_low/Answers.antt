use Rattle.std.proofs.Common.{length, ap, sym, ◌∙◌, ◌<◌, arith}
use Rattle.std.specs.List.{enumerate_from, list_any}
use Rattle.std.proofs.lemmas.List.{drop_all, length-map}
use Rattle.rb_book.specs.Shared.{Shared}
use Rattle.rb_core_model.specs.Forgetting.{has_many_below}
use Rattle.rb_core_state.specs.Floors.{standing_at}
use Rattle.rb_core_state.specs.Room.{books_of}
use Rattle.rb_core_state.proofs.Lowest.{chain_here, chain_not}
use Rattle.rb_core_state.proofs.floors.has_many_low.Goals as goal

pub loop-chain-preserved : goal.loop-chain-preserved
loop-chain-preserved g c =
    let books = c.args.books.now in
    let many = has_many_below c.args.least c.args.window.now (standing_at c.args.window.now books c.args.clients.now c.args.paths.now) in
    let long = length-map books (λ (s : Shared). s.book) in
    let within : c.loop-chain.chain < length (books_of books) = omega (arith, c.loop-chain-test.true, long) in
    chain_not many (books_of books) c.loop-chain.chain c.has_many_below.result _ within c.loop-chain.invariant c.has_many_below.ensures c.if-has_many_below.false

pub returns-then-has_many_below : goal.returns-then-has_many_below
returns-then-has_many_below g c =
    let books = c.args.books.now in
    let many = has_many_below c.args.least c.args.window.now (standing_at c.args.window.now books c.args.clients.now c.args.paths.now) in
    let long = length-map books (λ (s : Shared). s.book) in
    let within : c.loop-chain.chain < length (books_of books) = omega (arith, c.loop-chain-test.true, long) in
    chain_here many (books_of books) c.loop-chain.chain c.has_many_below.result _ within c.loop-chain.invariant c.has_many_below.ensures c.if-has_many_below.true

pub returns : goal.returns
returns g c =
    let books = c.args.books.now in
    let many = has_many_below c.args.least c.args.window.now (standing_at c.args.window.now books c.args.clients.now c.args.paths.now) in
    let long = length-map books (λ (s : Shared). s.book) in
    sym (ap (λ bs. list_any many (enumerate_from c.loop-chain.chain bs)) (drop_all c.loop-chain.chain (books_of books) (omega (arith, c.loop-chain-test.false, long)))) ∙ c.loop-chain.invariant
