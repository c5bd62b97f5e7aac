use Rattle.std.proofs.Common.{◌≡◌, ℕ, length, take, ap, ◌∙◌, arith}
use Rattle.std.proofs.Math.Seq.{take-length}
use Rattle.rb_book.specs.Shared.{Shared}
use Rattle.rb_core_state.specs.Room.{books_of}
use Rattle.rb_core_state.proofs.Copied.{one_more}
use Rattle.rb_core_state.proofs.books.share_books.Goals as goal

pub loop-book-preserved : goal.loop-book-preserved
loop-book-preserved g c =
    let f = λ (s : Shared). s.book in
    ap books_of c.in_ok-push.ensures.items
    ∙ one_more f c.loop-book.shared.items c.args.books.now c.loop-book.book-index c.in_ok-share.field-0 c.book-item.result c.loop-book-test.true
    (ap f c.in_ok-share.ensures ∙ ap f c.book-item.is) c.loop-book.invariant

pub returns : goal.returns
returns g c =
    let books = c.args.books.now in
    let all : c.loop-book.book-index ≡ length books = omega (arith, c.loop-book-test.false, c.loop-book.auto.book-index-end) in
    c.loop-book.invariant ∙ ap (λ (n : ℕ). books_of (take n books)) all ∙ ap books_of (take-length books)
