use Rattle.rb_import_answers.specs.Said.{said}
use Rattle.rb_import_answers.proofs.PlainTexts.{are_few, are_plain, said_is}
use Rattle.rb_import_answers.proofs.said.said_in.Goals as goal

pub returns-clause-text : goal.returns-clause-text
returns-clause-text c = said_is c.args.bytes.now _ _ c.in_ok-answer.ensures c.in_ok-text.ensures

pub returns-clause-plain : goal.returns-clause-plain
returns-clause-plain c = are_plain _ (said c.args.bytes.now) (said_is c.args.bytes.now _ _ c.in_ok-answer.ensures c.in_ok-text.ensures)

pub returns-clause-short : goal.returns-clause-short
returns-clause-short c = are_few _ (said c.args.bytes.now) (said_is c.args.bytes.now _ _ c.in_ok-answer.ensures c.in_ok-text.ensures)
