use Rattle.std.proofs.Common.{ap, ◌∙◌}
use Rattle.std.specs.Str.{chars}
use Rattle.rb_import_answers.specs.Said.{plain_text}
use Rattle.rb_import.specs.Openings.{seen_commits, verifier_of, words_of}
use Rattle.rb_import.proofs.Crediting.{tallied}
use Rattle.rb_import.proofs.opening.words_of.Goals as goal

pub returns : goal.returns
unfolding words_of
returns c =
    c.in_ok-plain.ensures.text
    ∙ ap (λ l. plain_text (chars l)) (
    c.as_str.ensures.value ∙ c.in_ok-words.ensures
    ∙ tallied (seen_commits c.args.seen.now) c.tally_of-tally.result c.verifier_of-verifier.result.now (verifier_of c.args.answers.now)
    c.tally_of-tally.ensures c.verifier_of-verifier.ensures
    )
