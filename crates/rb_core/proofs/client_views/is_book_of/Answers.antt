use Rattle.std.proofs.Common.{◌≡◌, List, ap, ◌∙◌}
use Rattle.rb_book.specs.Book.{same_book}
use Rattle.rb_book.specs.Shared.{Shared}
use Rattle.rb_script_types.specs.declared.config.ClientConfig.{ClientConfig}
use Rattle.rb_core_state.specs.Room.{books_of}
use Rattle.rb_core_model.specs.Standing.{book_at}
use Rattle.rb_core.proofs.client_views.is_book_of.Goals as goal

pub returns : goal.returns
returns g c =
    let book = c.args.book.now in
    let books = books_of c.args.state.now.books.items in
    c.is_book.ensures ∙ ap (λ (list : List Shared). same_book book (book_at (books_of list) c.config.result.now.tracks)) c.as_slice.ensures.value
    ∙ ap (λ (config : ClientConfig). same_book book (book_at books config.tracks)) c.config.ensures
