use Rattle.std.proofs.Common.{◌≤◌, length, arith}
use Rattle.std.proofs.lemmas.Grind.{common_steps}
use Rattle.rb_script_toml.specs.Documents.{max_marks}
use Rattle.rb_script_toml.specs.Marks.{marks}
use Rattle.rb_script_toml.specs.declared.marks.Place.TheVariants.{Outside}
use Rattle.rb_script_toml.proofs.MarkLemmas.{marks_at_most}
use Rattle.rb_script_read.proofs.plain.has_few_marks.Goals as goal

pub returns-then-bytes-le-FEW_BYTES : goal.returns-then-bytes-le-FEW_BYTES
returns-then-bytes-le-FEW_BYTES c few =
    let most = marks_at_most Outside c.args.bytes.now in
    grind (arith, common_steps, most)
