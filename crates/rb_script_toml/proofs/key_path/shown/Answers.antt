use Rattle.std.proofs.Common.{ap, sym, flat_map, ◌∙◌}
use Rattle.std.proofs.lemmas.List.{map-id}
use Rattle.std.proofs.lemmas.Iterator.{YieldsList-from_chars}
use Rattle.std.proofs.lemmas.Iterator.Consumers.{YieldsList-end}
use Rattle.rb_script_toml.specs.KeyPaths.{shown}
use Rattle.rb_script_toml.proofs.key_path.shown.Goals as goal

pub returns : goal.returns
returns c =
    let all = YieldsList-end (YieldsList-from_chars c.args.key.now c.utf8.key cc) c.loop-character.yielded _ c.loop-character.yielded_by _ _ c.in-None.is c.next.ensures.steps in
    c.loop-character.invariant ∙ ap (flat_map shown) (sym (map-id c.loop-character.yielded) ∙ all.0)
