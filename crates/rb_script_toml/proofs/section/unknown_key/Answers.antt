use Rattle.std.proofs.Common.{map, not, rules, tests, string_bytes}
use Rattle.std.specs.Str.{bytes_eq}
use Rattle.std.specs.List.{list_any}
use Rattle.std.proofs.lemmas.Iterator.Consumers.{YieldsList-from_rest}
use Rattle.std.proofs.lemmas.Iterator.Search.{find_from_yields_List}
use Rattle.std.specs.Map.{keys_of}
use Rattle.rb_script_toml.proofs.Steps.{first_unknown}
use Rattle.rb_script_toml.proofs.section.unknown_key.Goals as goal

pub returns : goal.returns
returns c =
    let ks = map (λ k. k.now) c.args.keys.now in
    let found = find_from_yields_List (λ k. not (list_any (λ known. bytes_eq known (string_bytes k)) ks)) _ _ c.find.result c.find.ensures.ran (YieldsList-from_rest (keys_of c.args.table.now.entries) cc) (λ x b q k. search (rules, tests)) in
    first_unknown ks c.args.table.now.entries c.find.result found
