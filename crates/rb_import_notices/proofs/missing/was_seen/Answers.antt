use Rattle.rb_import_notices.proofs.Nexts.{was_seen-is}
use Rattle.rb_import_notices.proofs.missing.was_seen.Goals as goal

pub returns : goal.returns
returns c = was_seen-is c.has_set.result c.args.seen.now c.args.chain c.args.hash.now c.has_set.ensures
