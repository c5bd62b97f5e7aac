use Rattle.std.proofs.Common.{rules, option_map}
use Rattle.serde_json.specs.View.{view}
use Rattle.rb_import_answers.proofs.PlainTexts.{no_type}
use Rattle.rb_import_answers.proofs.said.type_text.Goals as goal

pub returns-in-None-type_of : goal.returns-in-None-type_of
returns-in-None-type_of c = no_type (option_map view c.args.answer.now) (search rules)

pub returns-in-None : goal.returns-in-None
returns-in-None c = no_type (option_map view c.args.answer.now) (search rules)
