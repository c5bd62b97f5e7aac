use Rattle.std.proofs.Common.{◌≡◌, ◌==◌, ◌-◌, ◌<◌, ◌≤◌, true, false, length, string_bytes, le_refl, sym, ap, ◌∙◌, rules, arith}
use Rattle.std.specs.Str.{bytes_eq}
use Rattle.std.proofs.lemmas.Grind.{common_steps}
use Rattle.std.proofs.lemmas.Slice.Eq.{bytes_eq-Decides}
use Rattle.toml_parser.specs.Lexical.{skip_blank}
use Rattle.toml.specs.Data.{Members, push_item, table}
use Rattle.toml.specs.View.{array_view, items_view, table_view}
use Rattle.toml.proofs.Turns.{lines_more}
use Rattle.toml.proofs.Views.{items_view-push, view-Table}
use Rattle.rb_script_read.specs.Front.{values_of}
use Rattle.rb_script_read.specs.Plain.{in_array}
use Rattle.rb_script_read.proofs.FrontLemmas.{close-values}
use Rattle.rb_script_read.proofs.PlainLemmas.{array_next, array_pair}
use Rattle.rb_script_read.proofs.plain.read_array.Goals as goal

pub tables-init : goal.tables-init
tables-init c = (search rules, le_refl _, λ root n h. (n, h, rw c.new-tables.ensures.items))

pub tables-preserved : goal.tables-preserved
tables-preserved c =
    let l = c.tables in
    let key = c.args.key.now in
    let done = array_view l.tables in
    let ms = table_view c.in_ok-table.table in
    let after = c.in_ok-table.after.now in
    let start_is = c.skip_blank.ensures.rest in
    let within = c.in_ok-table.ensures.within in
    let before : length (skip_blank after) ≤ length after = rw start_is at c.skip_blank.ensures.within in
    let shorter : length c.in_ok-next.behind.now < length (skip_blank after) = rw start_is at c.in_ok-next.ensures.shorter in
    let other : (length (skip_blank after) == 0) ≡ false = grind (arith, common_steps) in
    let equal : bytes_eq (string_bytes c.in_ok-next.next) key ≡ true = grind (arith, common_steps) in
    let named = (bytes_eq-Decides (string_bytes c.in_ok-next.next) key).0 equal in
    let pushed : array_view c.push.new.self ≡ push_item done (table ms) =
    ap items_view c.in_ok-push.ensures.items ∙ items_view-push l.tables.items _ ∙ ap (push_item done) (view-Table c.in_ok-table.table) in (
      search rules,
      omega (arith, l.invariant.1, within, before, shorter),
      λ root n h.
          let (m, room, loop) = l.invariant.2 root n h in
          let (k, space, on) = c.in_ok-table.ensures.read (in_array key root done) m (array_pair key root done) room in (
            k - 1,
            omega (arith, space, before, shorter),
            loop ∙ on ∙ lines_more k _ _ after _ _ (omega (arith, space)) other (rw (start_is, named) at c.in_ok-next.ensures.header)
                (array_next key root done (array_view c.push.new.self) ms pushed),
          ),
    )

pub returns-then-ne-clause-read : goal.returns-then-ne-clause-read
returns-then-ne-clause-read c root n h =
    let l = c.tables in
    let key = c.args.key.now in
    let done = array_view l.tables in
    let ms = table_view c.in_ok-table.table in
    let pushed : array_view c.push.new.self ≡ push_item done (table ms) =
    ap items_view c.in_ok-push.ensures.items ∙ items_view-push l.tables.items _ ∙ ap (push_item done) (view-Table c.in_ok-table.table) in
    let (m, room, loop) = l.invariant.2 root n h in
    let (k, space, on) = c.in_ok-table.ensures.read (in_array key root done) m (array_pair key root done) room in
    (done, values_of ms, (k, space, loop ∙ on), pushed ∙ ap (λ (x : Members). push_item done (table x)) (sym (close-values ms)))
