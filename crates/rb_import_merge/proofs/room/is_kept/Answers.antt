use Rattle.rb_import_merge.proofs.Keeping.{is_kept-is}
use Rattle.rb_import_merge.proofs.room.is_kept.Goals as goal

pub returns-clause-value : goal.returns-clause-value
returns-clause-value c = is_kept-is c.has_room.result c.args.chain.now c.args.book.now c.args.height c.has_room.ensures
