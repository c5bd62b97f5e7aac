use Rattle.rb_import_answers.proofs.PlainTexts.{type_is}
use Rattle.rb_import_answers.proofs.said.type_in.Goals as goal

pub returns-clause-text : goal.returns-clause-text
returns-clause-text c = type_is c.args.bytes.now _ _ _ c.in_ok-answer.ensures c.type_text.ensures c.in_ok-text.ensures.text
