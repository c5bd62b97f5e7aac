use Rattle.std.proofs.Common.{◌≡◌, nat_le, ◌++◌, reverse, None, sym, ap, ◌∙◌}
use Rattle.std.specs.List.{find, flat_map}
use Rattle.std.specs.Option.{option_map}
use Rattle.rb_book.specs.Book.{height_of}
use Rattle.rb_core_model.specs.Forgetting.{needs_on, needs_of_path}
use Rattle.rb_core_model.specs.Standing.{book_at}
use Rattle.rb_core_state.specs.Floors.{lowered}
use Rattle.rb_core_state.specs.Room.{books_of, clients_of, paths_of}
use Rattle.rb_core_state.proofs.Lowest.{lowered-append, floor_none, floor_top}
use Rattle.rb_core_state.proofs.floors.floor.Goals as goal

pub returns-in-Some : goal.returns-in-Some
returns-in-Some g c =
    let books = books_of c.args.books.now in
    let of_clients = flat_map (needs_on c.args.window.now books c.args.chain) (clients_of c.args.clients.now) in
    let of_paths = flat_map (needs_of_path books c.args.chain) (paths_of c.args.paths.now) in
    let least : lowered None (of_clients ++ of_paths) ≡ c.lower_by_paths.result =
    lowered-append None of_clients of_paths ∙ ap (λ o. lowered o of_paths) (sym c.lowest_of_clients-lowest.ensures) ∙ sym c.lower_by_paths.ensures in
    floor_top (of_clients ++ of_paths) (book_at books c.args.chain).records c.in-Some.lowest c.top_upto.result (least ∙ c.in-Some.is)
    (c.top_upto.ensures ∙ (λ i. option_map height_of (find (λ k. nat_le (height_of k) c.in-Some.lowest) (reverse (c.book_in.ensures i).records))))

pub returns-in-None : goal.returns-in-None
returns-in-None g c =
    let books = books_of c.args.books.now in
    let of_clients = flat_map (needs_on c.args.window.now books c.args.chain) (clients_of c.args.clients.now) in
    let of_paths = flat_map (needs_of_path books c.args.chain) (paths_of c.args.paths.now) in
    let least : lowered None (of_clients ++ of_paths) ≡ c.lower_by_paths.result =
    lowered-append None of_clients of_paths ∙ ap (λ o. lowered o of_paths) (sym c.lowest_of_clients-lowest.ensures) ∙ sym c.lower_by_paths.ensures in
    floor_none (of_clients ++ of_paths) (book_at books c.args.chain).records (least ∙ c.in-None.is)
