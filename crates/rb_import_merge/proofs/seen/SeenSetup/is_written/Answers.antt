use Rattle.rb_import_merge.proofs.Writing.{is_written-is}
use Rattle.rb_import_merge.proofs.seen.SeenSetup.is_written.Goals as goal

pub returns-clause-value : goal.returns-clause-value
returns-clause-value c = is_written-is c.has_written.result c.args.self.now c.args.place c.args.hash.now c.has_written.ensures
