use Rattle.std.proofs.Common.{◌≡◌, ◌++◌, List, length, take, drop, map, arith, subst, sym, ap, ◌∙◌}
use Rattle.std.specs.Option.{IfSome}
use Rattle.std.proofs.lemmas.List.{length-map}
use Rattle.rb_valset.specs.Validator.{Member}
use Rattle.rb_book.specs.Book.{Book}
use Rattle.rb_book.specs.Intake.{after_record}
use Rattle.rb_graph.specs.StoredRow.{StoredRow, next_places, first_naming, stored_row_of}
use Rattle.rb_graph.specs.Numbering.{AreLanesOf}
use Rattle.rb_graph.proofs.Inserted.{written_over}
use Rattle.rb_graph.proofs.Entered.{headers_stay, sets_stay}
use Rattle.rb_graph.proofs.graph.Graph.add_record.Goals as goal

length_of : {xs ys : List StoredRow} → xs ≡ ys → length xs ≡ length ys
length_of e = ap (λ (l : List StoredRow). length l) e

pub invariant_of-self-2 : goal.invariant_of-self-2
invariant_of-self-2 g c =
    let b : Book = c.self.inside.book in
    let m : Book = after_record b c.args.height c.args.entry in
    let rows = c.enter_record.new.rows in
    let whole = written_over rows c.self.inside.rows.items c.self.inside.rows.len (omega (
      arith,
      length_of c.in_ok-enter_record.ensures.rows,
      length-map b.headers (stored_row_of m),
      c.self.inside.rows.ok.0,
      length_of c.self.invariant.1,
      length-map b.headers (stored_row_of b),
    )) in
    subst
    (λ (x : Book). (c.enter_record.new.places.items ≡ next_places x) × (take c.self.inside.rows.len (rows ++ drop (length rows) c.self.inside.rows.items) ≡ map (stored_row_of x) x.headers) × (c.enter_record.new.lowest.items ≡ map (first_naming x) x.sets) × IfSome c.self.inside.lanes (λ l. AreLanesOf x.sets l.columns l.tallies.items))
    (sym c.put_record.ensures) (
      c.in_ok-enter_record.ensures.places,
      whole ∙ c.in_ok-enter_record.ensures.rows ∙ ap (map (stored_row_of m)) (sym (headers_stay b c.args.height c.args.entry)),
      c.in_ok-enter_record.ensures.lowest ∙ ap (map (first_naming m)) (sets_stay b c.args.height c.args.entry),
      subst (λ (sets : List (List Member)). IfSome c.self.inside.lanes (λ l. AreLanesOf sets l.columns l.tallies.items)) (sets_stay b c.args.height c.args.entry) c.self.invariant.3,
    )
