use Rattle.std.specs.Option.{IfSome}
use Rattle.rb_valset.specs.Validator.{Member}
use Rattle.std.proofs.Common.{◌≡◌, None, false, List, is_some, length, map, arith, subst, sym, ap, ◌∙◌}
use Rattle.std.specs.List.{insert, count_by}
use Rattle.std.proofs.lemmas.Result.{err_from_is_err_and}
use Rattle.std.proofs.lemmas.List.{length-map}
use Rattle.rb_book.specs.Book.{Book, header_at, header_is_below}
use Rattle.rb_book.specs.Header.{Header}
use Rattle.rb_book.specs.Intake.{header_refusal, record_refusal, after_record}
use Rattle.rb_book.proofs.Puts.{record_accepted}
use Rattle.rb_graph.specs.StoredRow.{StoredRow, next_places, first_naming, stored_row_of}
use Rattle.rb_graph.specs.Numbering.{AreLanesOf}
use Rattle.rb_graph.proofs.Inserted.{written_over}
use Rattle.rb_graph.proofs.Entered.{some_map, none_from, places_with_header, sets_with_header, lowest_with_header, rows_with_header}
use Rattle.rb_graph.proofs.graph.Graph.add_header.Goals as goal

length_of : {xs ys : List StoredRow} → xs ≡ ys → length xs ≡ length ys
length_of e = ap (λ (l : List StoredRow). length l) e

pub returns-in_err-reserve-clause-refused : goal.returns-in_err-reserve-clause-refused
returns-in_err-reserve-clause-refused g c =
    let p = err_from_is_err_and c.from_residual-in_err-reserve.result c.from_residual-in_err-reserve.ensures.1 in
    rw (p.1, p.2) (subst (λ (b : Book). header_refusal b c.args.header ≡ None) c.self.view_is c.in_ok-judge_header.ensures.accepted)

pub returns-in_err-reserve-clause-unchanged : goal.returns-in_err-reserve-clause-unchanged
returns-in_err-reserve-clause-unchanged g c =
    let p = err_from_is_err_and c.from_residual-in_err-reserve.result c.from_residual-in_err-reserve.ensures.1 in
    rw p.1 c.self.view_is

pub enter_record-requires-clause-accepted : goal.enter_record-requires-clause-accepted
enter_record-requires-clause-accepted g c =
    (λ i. record_refusal c.self.inside.book (c.height-height.ensures i) (c.record.ensures i)) ∙ record_accepted c.self.inside.book c.args.header c.headers.ensures.book c.in_ok-judge_header.ensures.accepted

pub returns-in_err-enter_record-clause-refused : goal.returns-in_err-enter_record-clause-refused
returns-in_err-enter_record-clause-refused g c =
    let p = err_from_is_err_and c.from_residual-in_err-enter_record.result c.from_residual-in_err-enter_record.ensures.1 in
    rw (p.1, p.2) (subst (λ (b : Book). header_refusal b c.args.header ≡ None) c.self.view_is c.in_ok-judge_header.ensures.accepted)

pub returns-in_err-enter_record-clause-unchanged :
    goal.returns-in_err-enter_record-clause-unchanged
returns-in_err-enter_record-clause-unchanged g c =
    let p = err_from_is_err_and c.from_residual-in_err-enter_record.result c.from_residual-in_err-enter_record.ensures.1 in
    rw p.1 c.self.view_is

pub invariant_of-self-2 : goal.invariant_of-self-2
invariant_of-self-2 g c =
    let b : Book = c.self.inside.book in
    let h : Header = c.args.header in
    let accepted = c.in_ok-judge_header.ensures.accepted in
    let new : is_some (header_at b c.height-height.result) ≡ false = ap (λ o. is_some o) (sym c.header-2.ensures.value) ∙ some_map _ c.header-2.result ∙ sym c.is_some.ensures ∙ c.if-is_some.false in
    let unknown : header_at b h.height ≡ None = none_from (header_at b h.height) (ap (λ n. is_some (header_at b n)) (sym c.height-height.ensures) ∙ new) in
    let places = c.in_ok-enter_record.ensures.places ∙ (λ i. next_places (after_record b (c.height-height.ensures i) (c.record.ensures i))) in
    let rows = c.in_ok-enter_record.ensures.rows ∙ (λ i. map (stored_row_of (after_record b (c.height-height.ensures i) (c.record.ensures i))) b.headers) in
    let place = c.lower_headers-place.ensures ∙ (λ i. count_by (header_is_below (c.height-height.ensures i)) (c.headers.ensures.value i)) in
    let inserted : c.insert.new.self.items ≡ insert c.enter_record.new.rows c.lower_headers-place.result c.in_ok-row.row =
    rw c.unwrap.ensures at c.insert.ensures.items
    ∙ ap (λ (l : List StoredRow). insert l c.lower_headers-place.result c.in_ok-row.row) (written_over c.enter_record.new.rows c.reserve.new.self.items c.reserve.new.self.len
    (omega (
      arith,
      length_of c.in_ok-enter_record.ensures.rows,
      length-map b.headers (stored_row_of (after_record b c.height-height.result c.record.result.now)),
      c.reserve.new.self.ok.0,
      length_of c.reserve.ensures.items,
      length_of c.self.invariant.1,
      length-map b.headers (stored_row_of b),
    ))) in
    let lowest = c.in_ok-enter_record.ensures.lowest ∙ (λ i. map (first_naming (after_record b (c.height-height.ensures i) (c.record.ensures i))) b.sets) in
    subst
    (λ (x : Book). (c.enter_record.new.places.items ≡ next_places x) × (c.insert.new.self.items ≡ map (stored_row_of x) x.headers) × (c.enter_record.new.lowest.items ≡ map (first_naming x) x.sets) × IfSome c.new_row.new.lanes (λ l. AreLanesOf x.sets l.columns l.tallies.items))
    (sym c.put_header.ensures) (
      places_with_header b h accepted unknown c.enter_record.new.places.items places,
      inserted ∙ rows_with_header b h accepted unknown c.enter_record.new.rows c.lower_headers-place.result c.in_ok-row.row c.headers.ensures.book rows place c.in_ok-row.ensures.row,
      lowest_with_header b h accepted unknown c.enter_record.new.lowest.items lowest,
      subst (λ (ss : List (List Member)). IfSome c.new_row.new.lanes (λ l. AreLanesOf ss l.columns l.tallies.items)) (sets_with_header b h accepted unknown) c.new_row.ensures.lanes,
    )
