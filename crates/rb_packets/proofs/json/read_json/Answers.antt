use Rattle.std.proofs.Common.{sym, ◌∙◌}
use Rattle.std.proofs.lemmas.Bool.{true≢false}
use Rattle.serde_json.specs.Errors.{IsMemory}
use Rattle.rb_packets.proofs.JsonText.{json-some, json-none}
use Rattle.rb_packets.proofs.json.read_json.Goals as goal

pub returns-in-Ok : goal.returns-in-Ok
returns-in-Ok c = sym (json-some c.args.bytes.now _ c.in-Ok.ensures.ok)

pub returns-in-Err-2 : goal.returns-in-Err-2
returns-in-Err-2 c =
    let other : ¬ IsMemory c.in-Err.error = λ m. true≢false (sym (c.is_memory.ensures.1 m) ∙ c.if-is_memory.false) in
    sym (json-none c.args.bytes.now (c.in-Err.ensures.err other))
