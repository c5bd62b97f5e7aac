use Rattle.rb_import_answers.proofs.Durations.{stripped}
use Rattle.rb_import_answers.proofs.duration.before_s.Goals as goal

pub returns : goal.returns
returns c = stripped c.args.text.now c.strip_suffix.result c.strip_suffix.ensures.cases
