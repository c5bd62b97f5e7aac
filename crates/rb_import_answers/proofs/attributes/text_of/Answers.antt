use Rattle.std.proofs.Common.{◌∙◌, List, ℕ, Bor, option_map, ap}
use Rattle.rb_import_answers.proofs.Values.{utf8_text}
use Rattle.rb_import_answers.proofs.attributes.text_of.Goals as goal

pub returns : goal.returns
returns c =
    ap (option_map (λ (t : Bor (List ℕ)). t.now)) c.ok.ensures.value ∙ utf8_text _ c.args.bytes.now c.from_utf8.result c.from_utf8.ensures.cases
