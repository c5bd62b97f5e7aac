use Rattle.std.proofs.Common.{◌≡◌, ◌==◌, true, [], slice_index, sym, ◌∙◌, arith}
use Rattle.std.proofs.lemmas.Grind.{common_steps}
use Rattle.toml_parser.specs.Lexical.{first}
use Rattle.toml_parser.specs.Reading.{path_view}
use Rattle.rb_script_read.proofs.FrontLemmas.{no_path}
use Rattle.rb_script_read.proofs.PlainLemmas.{line_header}
use Rattle.rb_script_read.proofs.plain.array_header.Goals as goal

pub returns-then-ends_line-clause-header : goal.returns-then-ends_line-clause-header
returns-then-ends_line-clause-header c =
    let s = c.args.s.now in
    let a : (first s == 91) ≡ true = grind (arith, common_steps) in
    let b : (slice_index s 1 == 91) ≡ true = grind (arith, common_steps) in
    let path = c.in_ok-key.key.path.items in
    let none : path_view path ≡ [] = no_path path (grind (arith, common_steps)) in
    line_header s c.in_ok-key.rest.now c.in_ok-after_closing.field-0.now c.in_ok-rest.rest.now (path_view path) _ a b
    (rw (c.skip_ws.ensures.rest, c.skip.ensures.rest) at c.in_ok-key.ensures.value) none c.in_ok-after_closing.ensures.byte c.in_ok-rest.ensures.byte
    (sym c.ends_line.ensures ∙ c.if-ends_line.true)
