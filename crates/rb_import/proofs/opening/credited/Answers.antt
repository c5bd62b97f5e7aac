use Rattle.std.proofs.Common.{ap, ◌∙◌}
use Rattle.rb_import.specs.Openings.{credit}
use Rattle.rb_import.proofs.opening.credited.Goals as goal

pub returns : goal.returns
returns c = c.in_ok-line.ensures ∙ ap credit c.in_ok-words.ensures
