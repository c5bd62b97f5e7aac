use Rattle.std.proofs.Common.{◌≡◌, ◌==◌, ◌-◌, false, length, string_bytes, le_refl, ◌∙◌, rules, arith}
use Rattle.std.proofs.lemmas.Grind.{common_steps}
use Rattle.toml_parser.specs.Lexical.{first, skip_blank}
use Rattle.toml.specs.View.{table_view}
use Rattle.toml.proofs.Turns.{lines_more}
use Rattle.rb_script_read.specs.Front.{values_of}
use Rattle.rb_script_read.proofs.PlainLemmas.{line_pair}
use Rattle.rb_script_read.proofs.plain.read_keys.Goals as goal

pub lines-init : goal.lines-init
lines-init c = (search rules, le_refl _, λ within n takes h. (n, h, rw c.new-table.ensures.empty))

pub lines-preserved : goal.lines-preserved
lines-preserved c =
    let l = c.lines in
    let start_is = c.skip_blank-start.ensures.rest in
    let other : (length (skip_blank l.rest.now) == 0) ≡ false = grind (arith, common_steps) in
    let no_header : (first (skip_blank l.rest.now) == 91) ≡ false = grind (arith, common_steps) in
    let shorter = c.in_ok-key.ensures.shorter in
    let before = c.skip_blank-start.ensures.within in
    let less = c.in_ok-rest.ensures.shorter in
    let key = string_bytes c.in_ok-key.key in
    let (d, read, ends, absent, written) = c.in_ok-rest.ensures.pair in
    let of_line = line_pair (skip_blank l.rest.now) c.in_ok-key.at_value.now c.in_ok-rest.rest.now key d no_header (rw start_is at c.in_ok-key.ensures.key) read ends in (
      search rules,
      omega (arith, l.invariant.1),
      λ within n takes h.
          let (m, room, loop) = l.invariant.2 within n takes h in
          (m - 1, omega arith, loop ∙ lines_more m _ _ l.rest.now _ _ (omega arith) other of_line (takes key d (values_of (table_view l.table)) _ absent written)),
    )
