use Rattle.std.proofs.Common.{◌≡◌, [], rules, arith}
use Rattle.std.proofs.lemmas.Grind.{common_steps}
use Rattle.toml_parser.specs.Reading.{path_view}
use Rattle.toml.specs.Parse.{key_equals}
use Rattle.rb_script_read.proofs.FrontLemmas.{no_path}
use Rattle.rb_script_read.proofs.front.plain_key.Goals as goal

pub returns-then-is_empty-clause-key : goal.returns-then-is_empty-clause-key
unfolding key_equals
returns-then-is_empty-clause-key c =
    let parts = c.in_ok-key.key.path.items in
    let none : path_view parts ≡ [] = no_path parts (grind (arith, common_steps)) in
    rw (c.in_ok-key.ensures.value, none) (search rules)
