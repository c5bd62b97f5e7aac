use Rattle.std.proofs.Common.{[], ◌∙◌}
use Rattle.std.specs.Str.{chars}
use Rattle.rb_import_answers.proofs.PlainTexts.{are_few, are_plain, none_yet}
use Rattle.rb_import_answers.proofs.said.plain_text.Goals as goal

pub returns-clause-text : goal.returns-clause-text
returns-clause-text c = c.in_ok-push_plain.ensures [] (c.new-plain.ensures.bytes ∙ none_yet)

pub returns-clause-plain : goal.returns-clause-plain
returns-clause-plain c = are_plain _ (chars c.args.text.now) (c.in_ok-push_plain.ensures [] (c.new-plain.ensures.bytes ∙ none_yet))

pub returns-clause-short : goal.returns-clause-short
returns-clause-short c = are_few _ (chars c.args.text.now) (c.in_ok-push_plain.ensures [] (c.new-plain.ensures.bytes ∙ none_yet))
