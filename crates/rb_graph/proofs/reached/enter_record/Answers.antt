use Rattle.std.proofs.Common.{◌≡◌, false, map, is_some, rules, ap, ◌∙◌, sym}
use Rattle.std.specs.List.{position}
use Rattle.rb_book.specs.Book.{Book, record_at, has_hash}
use Rattle.rb_book.specs.Header.{Record}
use Rattle.rb_graph.specs.StoredRow.{next_places, first_naming, stored_row_of}
use Rattle.rb_graph.proofs.Entered.{record_makes_a_book, record_comes, places_with_record, rows_unnamed, rows_as_before, lowest_unnamed}
use Rattle.rb_graph.proofs.reached.enter_record.Goals as goal

pub add_cells-requires-clause-book : goal.add_cells-requires-clause-book
add_cells-requires-clause-book g c =
    let b : Book = c.args.book.now in
    let new : is_some (record_at b c.args.height) ≡ false = search rules in
    record_makes_a_book b c.args.height c.args.entry.now c.record.ensures.book c.requires.accepted new

pub name_set-requires-clause-book : goal.name_set-requires-clause-book
name_set-requires-clause-book g c =
    let b : Book = c.args.book.now in
    let new : is_some (record_at b c.args.height) ≡ false = search rules in
    record_makes_a_book b c.args.height c.args.entry.now c.record.ensures.book c.requires.accepted new

pub returns-else-name_set-clause-places : goal.returns-else-name_set-clause-places
returns-else-name_set-clause-places g c =
    let b : Book = c.args.book.now in
    let r : Record = c.args.entry.now in
    let new : is_some (record_at b c.args.height) ≡ false = search rules in
    let named = c.set_place-next.ensures.value ∙ ap (λ hash. position (has_hash hash) b.sets) c.next.ensures in
    c.in_ok-insert.ensures.items
    ∙ places_with_record b c.args.height c.lower_count.result r c.set_place-next.result c.args.places.now.items c.lower_count.ensures.value c.requires.places named
    ∙ ap next_places (record_comes b c.args.height r new)

pub returns-else-name_set-clause-rows : goal.returns-else-name_set-clause-rows
returns-else-name_set-clause-rows g c =
    let b : Book = c.args.book.now in
    let r : Record = c.args.entry.now in
    let new : is_some (record_at b c.args.height) ≡ false = search rules in
    let after = record_makes_a_book b c.args.height r c.record.ensures.book c.requires.accepted new in
    let same = sym c.requires.lowest ∙ sym (c.name_set.ensures.same c.if-name_set.false) ∙ c.name_set.ensures.lowest in
    rows_as_before b c.args.height r c.record.ensures.book after c.args.rows.now same c.requires.rows
    ∙ ap (λ (x : Book). map (stored_row_of x) b.headers) (record_comes b c.args.height r new)

pub returns-in_default-clause-lowest : goal.returns-in_default-clause-lowest
returns-in_default-clause-lowest g c =
    let b : Book = c.args.book.now in
    let r : Record = c.args.entry.now in
    let new : is_some (record_at b c.args.height) ≡ false = search rules in
    let named = c.set_place-next.ensures.value ∙ ap (λ hash. position (has_hash hash) b.sets) c.next.ensures in
    let after = record_makes_a_book b c.args.height r c.record.ensures.book c.requires.accepted new in
    lowest_unnamed b c.args.height r c.record.ensures.book after c.args.lowest.now.items (sym named ∙ c.in_default.is) c.requires.lowest
    ∙ ap (λ (x : Book). map (first_naming x) b.sets) (record_comes b c.args.height r new)

pub returns-then-name_set-clause-places : goal.returns-then-name_set-clause-places
returns-then-name_set-clause-places g c =
    let b : Book = c.args.book.now in
    let r : Record = c.args.entry.now in
    let new : is_some (record_at b c.args.height) ≡ false = search rules in
    let named = c.set_place-next.ensures.value ∙ ap (λ hash. position (has_hash hash) b.sets) c.next.ensures in
    c.in_ok-insert.ensures.items
    ∙ places_with_record b c.args.height c.lower_count.result r c.set_place-next.result c.args.places.now.items c.lower_count.ensures.value c.requires.places named
    ∙ ap next_places (record_comes b c.args.height r new)

pub returns-in_default-clause-places : goal.returns-in_default-clause-places
returns-in_default-clause-places g c =
    let b : Book = c.args.book.now in
    let r : Record = c.args.entry.now in
    let new : is_some (record_at b c.args.height) ≡ false = search rules in
    let named = c.set_place-next.ensures.value ∙ ap (λ hash. position (has_hash hash) b.sets) c.next.ensures in
    c.in_ok-insert.ensures.items
    ∙ places_with_record b c.args.height c.lower_count.result r c.set_place-next.result c.args.places.now.items c.lower_count.ensures.value c.requires.places named
    ∙ ap next_places (record_comes b c.args.height r new)

pub returns-in_default-clause-rows : goal.returns-in_default-clause-rows
returns-in_default-clause-rows g c =
    let b : Book = c.args.book.now in
    let r : Record = c.args.entry.now in
    let new : is_some (record_at b c.args.height) ≡ false = search rules in
    let named = c.set_place-next.ensures.value ∙ ap (λ hash. position (has_hash hash) b.sets) c.next.ensures in
    let after = record_makes_a_book b c.args.height r c.record.ensures.book c.requires.accepted new in
    rows_unnamed b c.args.height r c.args.rows.now c.record.ensures.book after (sym named ∙ c.in_default.is) c.requires.rows
    ∙ ap (λ (x : Book). map (stored_row_of x) b.headers) (record_comes b c.args.height r new)
