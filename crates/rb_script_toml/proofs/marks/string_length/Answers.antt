use Rattle.rb_script_toml.proofs.MarkLemmas.{skipped}
use Rattle.rb_script_toml.proofs.marks.string_length.Goals as goal

pub returns-in-Line-clause-none : goal.returns-in-Line-clause-none
returns-in-Line-clause-none c =
    rw (c.in-Line.is, c.unwrap_or.ensures) (skipped c.in-Line.quote c.args.bytes.now c.memchr2.result c.memchr2.ensures)
