use Rattle.std.proofs.Common.{◌≡◌, ℕ, ◌≤◌, List, Option, IfSome, sym, ◌∙◌, subst}
use Rattle.rb_base.specs.Window.{Span}
use Rattle.rb_book.specs.Book.{Book}
use Rattle.rb_step.specs.View.{AreKnown}
use Rattle.rb_core.specs.State.{standing_view}
use Rattle.rb_core_model.specs.Fits.{FitsBatch}
use Rattle.rb_core_model.specs.Standing.{OpenBatch, book_at}
use Rattle.rb_core_state.specs.Room.{books_of}
use Rattle.rb_core.proofs.fitting.fits_client.Goals as goal

pub returns : goal.returns
returns g c h =
    let s = standing_view c.args.state.now in
    let k = c.args.client.now.client in
    let book : c.book-book.result.now ≡ book_at s.books k.config.tracks =
    c.book-book.ensures ∙ sym c.in-Some.ensures ∙ (λ i. book_at (books_of (c.as_slice.ensures.value i)) (c.config.ensures i).tracks) in
    record {
      window = subst (λ o. IfSome o (λ (w : Span). w.from ≤ w.until)) c.own_window.ensures c.in_order.ensures;
      stored = subst (λ (p : Book × List ℕ). AreKnown p.0 p.1) (λ i. (book i, c.stored.ensures.value i)) (c.are_known.ensures.0 c.if-not-are_known.false);
      batch = subst (λ (p : Option OpenBatch × Book). IfSome p.0 (FitsBatch s c.args.place p.1)) (λ i. (c.batch.ensures i, book i)) (c.fits_open.ensures h);
    }
