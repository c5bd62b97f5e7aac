use Rattle.std.proofs.Common.{All, subst, arith}
use Rattle.std.proofs.lemmas.List.{take_all}
use Rattle.rb_book.specs.Invariant.{IsBook}
use Rattle.rb_book.specs.Shared.{Shared}
use Rattle.rb_core.proofs.Restoring.{all_more}
use Rattle.rb_core.proofs.fitting.are_books.Goals as goal

pub loop-book-preserved : goal.loop-book-preserved
loop-book-preserved g c =
    all_more (λ (s : Shared). IsBook s.book) c.args.books.now c.loop-book.book-index c.book-item.result c.loop-book-test.true c.book-item.is c.loop-book.invariant
    (subst IsBook c.book.ensures c.records.ensures.book)

pub returns : goal.returns
returns g c = subst (All (λ (s : Shared). IsBook s.book)) (take_all c.loop-book.book-index c.args.books.now (omega arith)) c.loop-book.invariant
