use Rattle.std.proofs.Common.{◌≡◌, ◌≤◌, length, Some, Ok, arith}
use Rattle.std.proofs.lemmas.Grind.{common_steps}
use Rattle.toml.specs.Data.{Members}
use Rattle.toml.specs.Parse.{parse_document}
use Rattle.rb_script_types.specs.Script.{script_view}
use Rattle.rb_script_toml.specs.Documents.{max_bytes, max_marks, whole}
use Rattle.rb_script_toml.specs.Marks.{marks}
use Rattle.rb_script_read.specs.Scripts.{script, script_of}
use Rattle.rb_script_read.proofs.PlainLemmas.{if_ok, plain_script}
use Rattle.rb_script_read.proofs.plain.read_plain.Goals as goal

pub returns-in-Ok : goal.returns-in-Ok
returns-in-Ok c =
    let bytes = c.args.bytes.now in
    let text = c.in-Ok.text.now in
    let small : length bytes ≤ max_bytes = omega arith in
    let few : marks bytes ≤ max_marks = grind (arith, common_steps) in
    if_ok c.read_text.result (λ s. (ms : Members) × (parse_document text ≡ Some ms) × (script (whole ms) ≡ Ok (script_view s))) (λ s. script_of bytes ≡ Ok (script_view s))
    c.read_text.ensures (λ s read. plain_script bytes text (script_view s) small few c.in-Ok.ensures.cases.1 c.in-Ok.ensures.cases.0 read)
