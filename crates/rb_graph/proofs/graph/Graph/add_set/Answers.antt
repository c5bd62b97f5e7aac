use Rattle.std.proofs.Common.{◌≡◌, ◌++◌, ℕ, Option, None, false, List, is_some, length, take, drop, map, rules, arith, subst, sym, ap, ◌∙◌}
use Rattle.std.specs.List.{insert, count_by}
use Rattle.std.specs.Option.{IfSome}
use Rattle.std.proofs.lemmas.List.{length-map}
use Rattle.rb_valset.specs.Validator.{Member}
use Rattle.rb_valset.specs.ValidatorSet.{set_hash}
use Rattle.rb_book.specs.Header.{Header}
use Rattle.rb_book.specs.Book.{Book, set_of, is_before}
use Rattle.rb_book.specs.Intake.{with_set, after_set}
use Rattle.rb_graph.specs.StoredRow.{StoredRow, next_places, first_naming, stored_power, stored_row_of}
use Rattle.rb_graph.specs.Numbering.{AreLanesOf}
use Rattle.rb_graph.proofs.Inserted.{written_over}
use Rattle.rb_graph.proofs.Entered.{none_from, set_comes, lowest_with_set}
use Rattle.rb_graph.proofs.graph.Graph.add_set.Goals as goal

length_of : {xs ys : List StoredRow} → xs ≡ ys → length xs ≡ length ys
length_of e = ap (λ (l : List StoredRow). length l) e

pub invariant_of-self-2 : goal.invariant_of-self-2
invariant_of-self-2 g c =
    let b : Book = c.self.inside.book in
    let m : Book = c.make_room.new.self in
    let set : List Member = c.args.set in
    let same : m ≡ b = c.make_room.ensures in
    let new : is_some (set_of b (set_hash set)) ≡ false = search rules in
    let unknown : set_of m (set_hash set) ≡ None = ap (λ (x : Book). set_of x (set_hash set)) same ∙ none_from (set_of b (set_hash set)) new in
    let comes : with_set m set ≡ after_set m set = set_comes m set unknown in
    let rows = c.enter_powers.new.rows in
    let whole = written_over rows c.self.inside.rows.items c.self.inside.rows.len (omega (
      arith,
      length_of c.in_ok-enter_powers.ensures.entered,
      length-map m.headers (stored_row_of (with_set m set)),
      c.self.inside.rows.ok.0,
      length_of c.self.invariant.1,
      length-map b.headers (stored_row_of b),
      ap (λ (x : Book). length x.headers) same,
    )) in
    let place = c.lower_sets-place.result in
    let there : place ≡ count_by (is_before (set_hash set)) m.sets = c.lower_sets-place.ensures ∙ ap (count_by (is_before (set_hash set))) (c.sets.ensures.value ∙ ap (λ (x : Book). x.sets) (sym same)) in
    let lowest = c.first_naming-lowest.result in
    let before = c.self.invariant.2 ∙ ap (λ (x : Book). map (first_naming x) x.sets) (sym same) in
    let inserted : c.insert.new.self.items ≡ insert c.self.inside.lowest.items place lowest =
    rw c.unwrap.ensures at c.insert.ensures.items ∙ ap (λ (l : List (Option ℕ)). insert l place lowest) c.reserve.ensures.items in
    subst
    (λ (x : Book). (c.move_places.new.places.items ≡ next_places x) × (take c.self.inside.rows.len (rows ++ drop (length rows) c.self.inside.rows.items) ≡ map (stored_row_of x) x.headers) × (c.insert.new.self.items ≡ map (first_naming x) x.sets) × IfSome c.enter_set.new.lanes (λ l. AreLanesOf x.sets l.columns l.tallies.items))
    (sym c.put_set.ensures) (
      c.move_places.ensures ∙ ap next_places comes,
      whole ∙ c.in_ok-enter_powers.ensures.entered ∙ ap (λ (x : Book). map (stored_row_of x) x.headers) comes,
      inserted ∙ lowest_with_set m set c.self.inside.lowest.items lowest place before c.first_naming-lowest.ensures there ∙ ap (λ (x : Book). map (first_naming x) x.sets) comes,
      subst (λ (x : Book). IfSome c.enter_set.new.lanes (λ l. AreLanesOf x.sets l.columns l.tallies.items)) comes c.enter_set.ensures,
    )

pub invariant_of-self-in_err-make_room : goal.invariant_of-self-in_err-make_room
invariant_of-self-in_err-make_room g c =
    subst
    (λ (x : Book). (c.self.inside.next_places.items ≡ next_places x) × (c.self.inside.rows.items ≡ map (stored_row_of x) x.headers) × (c.reserve.new.self.items ≡ map (first_naming x) x.sets) × IfSome c.self.inside.lanes (λ l. AreLanesOf x.sets l.columns l.tallies.items))
    (sym c.make_room.ensures) (
      c.self.invariant.0,
      c.self.invariant.1,
      c.reserve.ensures.items ∙ c.self.invariant.2,
      c.self.invariant.3,
    )

pub enter_powers-requires-clause-unknown : goal.enter_powers-requires-clause-unknown
enter_powers-requires-clause-unknown g c =
    let b : Book = c.self.inside.book in
    let set : List Member = c.args.set in
    let new : is_some (set_of b (set_hash set)) ≡ false = search rules in
    ap (λ (x : Book). set_of x (set_hash set)) c.make_room.ensures ∙ none_from (set_of b (set_hash set)) new

pub enter_powers-requires-clause-powers : goal.enter_powers-requires-clause-powers
enter_powers-requires-clause-powers g c =
    let set : List Member = c.args.set in
    c.as_slice.ensures.value ∙ c.in_ok-powers.ensures ∙ ap (λ (x : Book). map (λ (h : Header). stored_power x h set) x.headers) (sym c.make_room.ensures)

pub invariant_of-self-in_err-enter_powers : goal.invariant_of-self-in_err-enter_powers
invariant_of-self-in_err-enter_powers g c =
    let rows = c.enter_powers.new.rows in
    let back : rows ≡ c.self.inside.rows.items = search rules in
    let whole = written_over rows c.self.inside.rows.items c.self.inside.rows.len (omega (arith, length_of back, c.self.inside.rows.ok.0)) in
    subst
    (λ (x : Book). (c.self.inside.next_places.items ≡ next_places x) × (take c.self.inside.rows.len (rows ++ drop (length rows) c.self.inside.rows.items) ≡ map (stored_row_of x) x.headers) × (c.reserve.new.self.items ≡ map (first_naming x) x.sets) × IfSome c.self.inside.lanes (λ l. AreLanesOf x.sets l.columns l.tallies.items))
    (sym c.make_room.ensures) (
      c.self.invariant.0,
      whole ∙ back ∙ c.self.invariant.1,
      c.reserve.ensures.items ∙ c.self.invariant.2,
      c.self.invariant.3,
    )

pub enter_set-requires-clause-lanes : goal.enter_set-requires-clause-lanes
enter_set-requires-clause-lanes g c =
    subst (λ (x : Book). IfSome c.self.inside.lanes (λ l. AreLanesOf x.sets l.columns l.tallies.items)) (sym c.make_room.ensures) c.self.invariant.3
