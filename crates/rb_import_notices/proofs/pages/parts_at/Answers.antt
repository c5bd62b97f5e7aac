use Rattle.rb_import_notices.proofs.Lost.{mark_split}
use Rattle.rb_import_notices.proofs.pages.parts_at.Goals as goal

pub returns : goal.returns
returns c = mark_split c.args.mark c.requires c.args.text.now c.rsplit_once.result c.rsplit_once.ensures.cases
