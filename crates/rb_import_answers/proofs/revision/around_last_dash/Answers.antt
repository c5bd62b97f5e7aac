use Rattle.rb_import_answers.proofs.Dashes.{dash_split}
use Rattle.rb_import_answers.proofs.revision.around_last_dash.Goals as goal

pub returns : goal.returns
returns c = dash_split c.args.chain.now c.rsplit_once.result c.rsplit_once.ensures.cases
