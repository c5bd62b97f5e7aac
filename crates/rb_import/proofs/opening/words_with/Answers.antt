use Rattle.std.proofs.Common.{codes, ◌∙◌}
use Rattle.std.specs.Fmt.{decimal}
use Rattle.rb_import.proofs.Crediting.{eleven_in_a_row}
use Rattle.rb_import.proofs.opening.words_with.Goals as goal

pub returns : goal.returns
returns c =
    c.in_ok-words.ensures.ok
    ∙ eleven_in_a_row (decimal c.args.tally.verified) (codes " of ") (decimal c.args.tally.commits) (codes " commits verified: ") (decimal c.args.tally.good)
    (codes " good, ") (decimal c.args.tally.bad) (codes " bad, ") (decimal c.args.tally.unchecked) (codes " not checkable; by ") c.args.verifier.now
