use Rattle.std.proofs.Common.{◌∙◌, rules, tests}
use Rattle.std.specs.Str.{bytes_eq}
use Rattle.std.proofs.lemmas.Iterator.{YieldsList-from_slice}
use Rattle.std.proofs.lemmas.Iterator.Search.{position_from_yields_List}
use Rattle.rb_script_config.proofs.Positions.{position-map}
use Rattle.rb_script_config.proofs.named.place_of.Goals as goal

pub returns-clause-place : goal.returns-clause-place
returns-clause-place g c =
    position_from_yields_List (λ k. bytes_eq c.args.id.now (g.T.Named.name k)) _ _ c.position.result c.position.ensures.ran (YieldsList-from_slice c.args.objects.now cc) (λ x b q k. search (rules, tests))
    ∙ position-map (bytes_eq c.args.id.now) g.T.Named.name c.args.objects.now
