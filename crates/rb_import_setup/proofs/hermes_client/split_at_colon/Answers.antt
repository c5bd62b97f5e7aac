use Rattle.std.proofs.Common.{lit<}
use Rattle.std.proofs.lemmas.Str.Pattern.{split_after, split_parts}
use Rattle.rb_import_setup.proofs.WordsLemmas.{no_colon, parted, some_parts}
use Rattle.rb_import_setup.proofs.hermes_client.split_at_colon.Goals as goal

pub returns-clause-parts : goal.returns-clause-parts
returns-clause-parts c = parted c.args.word.now c.split_once.result (split_parts 58 c.args.word.now c.split_once.result c.split_once.ensures.cases (lit< tt))

pub returns-clause-first : goal.returns-clause-first
returns-clause-first c = λ front rest is all.
    some_parts front rest c.split_once.result (split_after 58 c.args.word.now front rest c.split_once.result c.split_once.ensures.cases (lit< tt) is (no_colon front all))
