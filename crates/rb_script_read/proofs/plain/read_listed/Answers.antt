use Rattle.std.proofs.Common.{◌≡◌, ◌==◌, ◌<◌, true, length, string_bytes, sym, ◌∙◌, arith}
use Rattle.std.proofs.lemmas.Grind.{common_steps}
use Rattle.toml_parser.specs.Lexical.{first}
use Rattle.toml_parser.specs.Strings.{recursion_limit}
use Rattle.toml.proofs.Turns.{val_open_array}
use Rattle.rb_script_config.specs.Setups.{setup_view}
use Rattle.rb_script_read.proofs.PlainLemmas.{listed_read}
use Rattle.rb_script_read.proofs.plain.read_listed.Goals as goal

pub returns-clause-read : goal.returns-clause-read
returns-clause-read c names ds seen =
    let s = c.args.s.now in
    let a : (first s == 91) ≡ true = grind (arith, common_steps) in
    let (es, items, read) = c.in_ok-events.ensures.read (length s) c.skip.ensures.shorter in
    let some : 0 < recursion_limit = omega arith in
    let whole = val_open_array recursion_limit s some a ∙ rw (← c.skip.ensures.rest, items) in
    listed_read (setup_view c.args.setup.now) c.args.path.now names (string_bytes c.args.key) s c.in_ok-events.rest.now _ _ _ ds es _ _ _ _
    c.requires.key c.in_ok-put.ensures.absent c.in_ok-put.ensures.written seen whole (sym c.ends_line.ensures ∙ c.if-not-ends_line.false) read
