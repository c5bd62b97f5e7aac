use Rattle.std.proofs.Common.{◌∙◌}
use Rattle.rb_import_json.specs.Values.{number_of}
use Rattle.rb_import_json.proofs.Values.{parsed_number}
use Rattle.rb_import_json.proofs.scalar.number_of.Goals as goal

pub returns : goal.returns
unfolding number_of
returns c = c.ok.ensures.value ∙ parsed_number c.parse.result _ c.parse.ensures.value.0
