use Rattle.std.specs.Prelude.{codes}
use Rattle.std.proofs.lemmas.Str.Pattern.{ends_text}
use Rattle.rb_import_notices.specs.Pages.{is_of_states}
use Rattle.rb_import_notices.proofs.pages.is_of_states.Goals as goal

pub returns : goal.returns
unfolding is_of_states
returns c = ends_text c.ends_with.result (codes "consensus_states") c.args.front.now c.ends_with.ensures.cases
