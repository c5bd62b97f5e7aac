use Rattle.std.proofs.Common.{◌≡◌, List, Option, false, sym, ap, ◌∙◌}
use Rattle.std.specs.Option.{option_map, option_map_or}
use Rattle.rb_book.specs.Shared.{Shared}
use Rattle.rb_scan.specs.Same.{same_path}
use Rattle.rb_core_state.specs.Room.{books_of}
use Rattle.rb_core_model.specs.Standing.{PathState, view_of_path}
use Rattle.rb_core.proofs.path_views.is_view.Goals as goal

pub returns-in-Some : goal.returns-in-Some
returns-in-Some g c =
    let v = c.args.view.now in
    let books = books_of c.args.state.now.books.items in
    c.is_as_seen.ensures ∙ ap (λ (list : List Shared). same_path v (view_of_path (books_of list) c.in-Some.path_state.now.path)) c.as_slice.ensures.value
    ∙ sym (ap (λ (o : Option PathState). option_map_or (same_path v) (option_map (view_of_path books) o) false) c.in-Some.ensures)
