use Rattle.std.proofs.Common.{subst}
use Rattle.rb_import_merge.specs.Room.{AreKept}
use Rattle.rb_import_merge.proofs.room.kept_records.Goals as goal

pub returns : goal.returns
returns c = (
  c.in_ok-books.books.items,
  c.in_ok-books.ensures,
  subst (λ b. AreKept c.args.setup.now c.args.chains.now c.args.clients.now b c.in_ok-records.records.items) c.as_slice.ensures.value c.in_ok-records.ensures,
)
