use Rattle.std.proofs.Common.{All, subst}
use Rattle.std.proofs.lemmas.List.Elements.{All-map}
use Rattle.rb_book.specs.Invariant.{IsBook}
use Rattle.rb_book.specs.Shared.{Shared}
use Rattle.rb_core_model.specs.Fits.{FitsPath}
use Rattle.rb_core_state.specs.Room.{PathWithRoom}
use Rattle.rb_core.proofs.fitting.is_fitting.Goals as goal

pub returns : goal.returns
returns g c h =
    let state = c.args.state.now in
    record {
      window = c.in_order.ensures;
      books = All-map IsBook (λ (s : Shared). s.book) state.books.items (subst (All (λ (s : Shared). IsBook s.book)) c.as_slice.ensures.value c.are_books.ensures);
      clients = c.fit_clients.ensures h;
      paths = All-map FitsPath (λ (x : PathWithRoom). x.path) state.paths.items (subst (All (λ (x : PathWithRoom). FitsPath x.path)) c.as_slice-2.ensures.value c.are_paths.ensures);
    }
