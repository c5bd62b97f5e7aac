use Rattle.std.proofs.Common.{ap, sym, flat_map, ◌∙◌, ◌++◌, string_bytes}
use Rattle.std.proofs.lemmas.List.{map-id}
use Rattle.std.proofs.lemmas.Iterator.{YieldsList-from_chars}
use Rattle.std.proofs.lemmas.Iterator.Consumers.{YieldsList-end}
use Rattle.rb_script_text.specs.Json.{escape}
use Rattle.rb_script_text.proofs.json.push_characters.Goals as goal

pub returns : goal.returns
returns c =
    let all = YieldsList-end (YieldsList-from_chars c.args.value.now c.utf8.value cc) c.loop-character.yielded _ c.loop-character.yielded_by _ _ c.in-None.is c.next.ensures.steps in
    c.loop-character.invariant ∙ ap (λ cs. string_bytes c.args.text.now ++ flat_map escape cs) (sym (map-id c.loop-character.yielded) ∙ all.0)
