use Rattle.std.proofs.Common.{◌≡◌, ◌==◌, ◌-◌, ◌<◌, true, false, [], length, string_bytes, le_refl, ◌∙◌, ap, sym, rules, arith, Some}
use Rattle.std.proofs.lemmas.Grind.{common_steps}
use Rattle.toml_parser.specs.Strings.{Key}
use Rattle.toml_parser.specs.Lexical.{first, skip_blank}
use Rattle.toml.specs.Data.{array, table}
use Rattle.toml.specs.Parse.{key_equals, read_map, val}
use Rattle.toml.specs.View.{view, table_view}
use Rattle.toml.proofs.Turns.{val_atom, val_open_array, val_open_table, keyval_ok, items_end, items_more, members_end, members_more}
use Rattle.toml.proofs.Views.{view-Array, view-Table, items_view-push}
use Rattle.rb_script_read.specs.Front.{values_of}
use Rattle.rb_script_read.proofs.FrontLemmas.{close-values, put-new}
use Rattle.rb_script_read.proofs.front.+value.Goals as goal

pub value-returns-in_ok-below-in-91-clause-value : goal.value-returns-in_ok-below-in-91-clause-value
value-returns-in_ok-below-in-91-clause-value t c =
    let text = c.args.text.now in
    let opens : (first text == 91) ≡ true = grind (arith, common_steps) in
    rw (val_open_array c.args.depth text c.in_ok-below-in-91.ensures.room opens, ← c.in_ok-below-in-91.ensures.inner, ← c.skip.ensures.rest)
    (c.elements.ensures.value (length text) c.skip.ensures.shorter)

pub value-returns-in_ok-below-in-123-clause-value : goal.value-returns-in_ok-below-in-123-clause-value
value-returns-in_ok-below-in-123-clause-value t c =
    let text = c.args.text.now in
    let no_array : (first text == 91) ≡ false = grind (arith, common_steps) in
    let opens : (first text == 123) ≡ true = grind (arith, common_steps) in
    rw (val_open_table c.args.depth text c.in_ok-below-in-123.ensures.room no_array opens, ← c.in_ok-below-in-123.ensures.inner, ← c.skip-in-123.ensures.rest)
    (c.pairs.ensures.value (length text) c.skip-in-123.ensures.shorter)

pub value-returns-in_default-clause-value : goal.value-returns-in_default-clause-value
value-returns-in_default-clause-value t c =
    let text = c.args.text.now in
    let no_array : (first text == 91) ≡ false = grind (arith, common_steps) in
    let no_table : (first text == 123) ≡ false = grind (arith, common_steps) in
    rw (val_atom c.args.depth text no_array no_table) c.single.ensures.value

pub elements-elements-init : goal.elements-elements-init
elements-elements-init t c = (search rules, le_refl _, λ n room. (n, room, rw c.new-array.ensures.items))

pub elements-returns-then-first-eq93-clause-value : goal.elements-returns-then-first-eq93-clause-value
elements-returns-then-first-eq93-clause-value t c n room =
    let e = c.elements in
    let (left, enough, same) = e.invariant.2 n room in
    let ends : (first (skip_blank e.behind.now) == 93) ≡ true = grind (arith, common_steps) in
    ap (read_map array) (same ∙ items_end (val c.args.depth) left _ e.behind.now (omega arith) ends)
    ∙ rw (view-Array e.array, c.skip.ensures.rest, c.skip_blank-place.ensures.rest)

pub elements-elements-preserved : goal.elements-elements-preserved
elements-elements-preserved t c =
    let e = c.elements in
    let goes_on : (first (skip_blank e.behind.now) == 93) ≡ false = grind (arith, common_steps) in
    let read = rw c.skip_blank-place.ensures.rest at c.in_ok-element.ensures.value in
    let at_place = c.skip_blank-place.ensures.within in
    let at_end = c.in_ok-element.ensures.shorter in
    let at_behind = c.in_ok-behind.ensures.within in (
      search rules,
      omega (arith, e.invariant.1),
      λ n room.
          let (left, enough, same) = e.invariant.2 n room in
          let more = items_more (val c.args.depth) left _ e.behind.now _ _ _ (omega arith) goes_on read c.in_ok-behind.ensures.value in
          (left - 1, omega arith, same ∙ more ∙ rw (c.in_ok-push.ensures.items, items_view-push e.array.items c.in_ok-element.element)),
    )

pub pairs-pairs-init : goal.pairs-pairs-init
pairs-pairs-init t c = (search rules, le_refl _, λ n room. (n, room, rw c.new-table.ensures.empty))

pub pairs-returns-then-first-eq125-clause-value : goal.pairs-returns-then-first-eq125-clause-value
pairs-returns-then-first-eq125-clause-value t c n room =
    let p = c.pairs in
    let (left, enough, same) = p.invariant.2 n room in
    let ends : (first (skip_blank p.behind.now) == 125) ≡ true = grind (arith, common_steps) in
    ap (read_map table) (same ∙ members_end (val c.args.depth) left _ p.behind.now (omega arith) ends)
    ∙ rw (close-values (table_view p.table), view-Table p.table, c.skip.ensures.rest, c.skip_blank-place.ensures.rest)

pub pairs-pairs-preserved : goal.pairs-pairs-preserved
pairs-pairs-preserved t c =
    let p = c.pairs in
    let goes_on : (first (skip_blank p.behind.now) == 125) ≡ false = grind (arith, common_steps) in
    let name : Key = ([], string_bytes c.in_ok-key.key) in
    let named : key_equals (skip_blank p.behind.now) ≡ Some (name, c.in_ok-key.at_value.now) = rw c.skip_blank-place.ensures.rest at c.in_ok-key.ensures.key in
    let pair = keyval_ok (val c.args.depth) (skip_blank p.behind.now) _ _ name _ named c.in_ok-held.ensures.value in
    let held = put-new name.1 (view c.in_ok-held.held) (values_of (table_view p.table)) c.in_ok-put.ensures.absent ∙ ap Some (sym c.in_ok-put.ensures.written) in
    let at_place = c.skip_blank-place.ensures.within in
    let past_key = c.in_ok-key.ensures.shorter in
    let at_end = c.in_ok-held.ensures.shorter in
    let at_behind = c.in_ok-behind.ensures.within in (
      search rules,
      omega (arith, p.invariant.1),
      λ n room.
          let (left, enough, same) = p.invariant.2 n room in
          (left - 1, omega arith, same ∙ members_more (val c.args.depth) left _ _ p.behind.now name _ _ _ (omega arith) goes_on pair held c.in_ok-behind.ensures.value),
    )
