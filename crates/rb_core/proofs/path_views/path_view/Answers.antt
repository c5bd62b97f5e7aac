use Rattle.std.proofs.Common.{◌≡◌, List, Some, sym, ap, ◌∙◌}
use Rattle.std.specs.Option.{option_map}
use Rattle.rb_book.specs.Shared.{Shared}
use Rattle.rb_scan.specs.Path.{Path}
use Rattle.rb_core_state.specs.Room.{books_of}
use Rattle.rb_core_model.specs.Standing.{view_of_path}
use Rattle.rb_core.proofs.path_views.path_view.Goals as goal

pub returns-clause-view : goal.returns-clause-view
returns-clause-view g c =
    ap (option_map (view_of_path (books_of c.args.state.now.books.items))) c.in-Some.ensures
    ∙ ap (λ (books : List Shared). Some (view_of_path (books_of books) c.in-Some.path_state.now.path)) (sym c.as_slice.ensures.value)
    ∙ ap (λ (v : Path). Some v) (sym c.in_ok-view.ensures)
