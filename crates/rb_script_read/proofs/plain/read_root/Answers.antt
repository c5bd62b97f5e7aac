use Rattle.std.proofs.Common.{◌≡◌, ◌==◌, ◌-◌, ◌<◌, ◌≤◌, ℕ, List, [], ◌∷◌, None, false, length, string_bytes, sym, ap, subst, ◌∙◌, rules, arith}
use Rattle.std.proofs.lemmas.Grind.{common_steps}
use Rattle.toml_parser.specs.Lexical.{skip_blank}
use Rattle.toml.specs.Data.{Members, array, no_items}
use Rattle.toml.specs.View.{table_view}
use Rattle.toml.specs.Tables.{no_nodes, open_array, get_node, insert}
use Rattle.toml.proofs.Turns.{lines_more}
use Rattle.toml.proofs.Views.{view-Array}
use Rattle.rb_script_read.specs.Front.{values_of}
use Rattle.rb_script_read.specs.Plain.{Leaves, in_array}
use Rattle.rb_script_read.proofs.FrontLemmas.{close-values}
use Rattle.rb_script_read.proofs.PlainLemmas.{absent-close, array_first, close-new, root_pair}
use Rattle.rb_script_read.proofs.plain.read_root.Goals as goal

pub arrays-init : goal.arrays-init
arrays-init c = (search rules, c.in_ok-keys.ensures.within, λ n h. (values_of (table_view c.in_ok-keys.keys), [], c.in_ok-keys.ensures.read (λ ns. (ns, [])) n root_pair h, close-values (table_view c.in_ok-keys.keys)))

pub arrays-preserved : goal.arrays-preserved
arrays-preserved c =
    let l = c.arrays in
    let key = string_bytes c.in_ok-key.key in
    let rest = l.rest.now in
    let after = c.in_ok-key.after.now in
    let left = c.in_ok-tables.left.now in
    let start_is = c.skip_blank.ensures.rest in
    let before : length (skip_blank rest) ≤ length rest = rw start_is at c.skip_blank.ensures.within in
    let shorter : length after < length (skip_blank rest) = rw start_is at c.in_ok-key.ensures.shorter in
    let within = c.in_ok-tables.ensures.within in
    let other : (length (skip_blank rest) == 0) ≡ false = grind (arith, common_steps) in (
      search rules,
      omega (arith, l.invariant.1, before, shorter, within),
      λ n h.
          let (ns, path, leaves, same) = l.invariant.2 n h in
          let (m, room, loop) = leaves in
          let absent : get_node key ns ≡ None = absent-close key ns (ap (λ (x : Members). get_node key (values_of x)) same ∙ c.in_ok-put.ensures.absent) in
          let (done, last, inside, listed) = c.in_ok-tables.ensures.read ns (m - 1) (omega (arith, room, before, shorter)) in
          let (k, space, on) = subst (λ (x : List ℕ). Leaves (m - 1) (in_array x ns no_items no_nodes) after (in_array x ns done last) left) c.as_str-in-arrays.ensures.value inside in (
            insert key (open_array done last) ns,
            key ∷ [],
            (k, space, loop ∙ lines_more m _ _ rest _ _ (omega (arith, room)) other (rw start_is at c.in_ok-key.ensures.header) (array_first key ns path absent) ∙ on),
            close-new key (open_array done last) _ ns _ _ (ap array (sym listed) ∙ sym (view-Array c.in_ok-tables.tables)) same c.in_ok-put.ensures.written,
          ),
    )
