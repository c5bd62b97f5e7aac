use Rattle.std.proofs.Common.{◌≡◌, ◌==◌, ◌-◌, false, length, codes, string_bytes, le_refl, refl, ◌∙◌, rules, arith}
use Rattle.std.proofs.lemmas.Grind.{common_steps}
use Rattle.toml_parser.specs.Lexical.{first, skip_blank}
use Rattle.toml.specs.View.{table_view}
use Rattle.toml.proofs.Turns.{lines_more}
use Rattle.rb_script_read.specs.Plain.{around}
use Rattle.rb_script_read.proofs.PlainLemmas.{array_pair, line_pair}
use Rattle.rb_script_read.proofs.plain.read_lines.Goals as goal

pub lines-init : goal.lines-init
lines-init c = (search rules, le_refl _, refl, λ root done names ds n h seen. (ds, (n, h, refl), seen))

pub lines-preserved : goal.lines-preserved
lines-preserved c =
    let l = c.lines in
    let start_is = c.skip_blank-start.ensures.rest in
    let other : (length (skip_blank l.rest.now) == 0) ≡ false = grind (arith, common_steps) in
    let no_header : (first (skip_blank l.rest.now) == 91) ≡ false = grind (arith, common_steps) in
    let shorter = c.in_ok-key.ensures.shorter in
    let before = c.skip_blank-start.ensures.within in
    let less = c.in_ok-rest.ensures.shorter in
    let key = string_bytes c.in_ok-key.key in (
      search rules,
      omega (arith, l.invariant.1),
      c.in_ok-rest.ensures.earlier ∙ l.invariant.2,
      λ root done names ds n h seen.
          let (es, leaves, now) = l.invariant.3 root done names ds n h seen in
          let (m, room, loop) = leaves in
          let (d, fs, read, ends, absent, written, next) = c.in_ok-rest.ensures.read names es now in
          let of_line = line_pair (skip_blank l.rest.now) c.in_ok-key.at_value.now c.in_ok-rest.rest.now key d no_header (rw start_is at c.in_ok-key.ensures.key) read ends in
          (fs, (m - 1, omega arith, loop ∙ lines_more m _ _ l.rest.now _ _ (omega arith) other of_line (array_pair (codes "turn") root done key d (around es (table_view l.lines.table)) _ absent written)), next),
    )
