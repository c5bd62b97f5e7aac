use Rattle.std.proofs.Common.{sym, arith}
use Rattle.rb_journal.proofs.Entries.{only-other}
use Rattle.rb_journal.proofs.entry.only_table.Goals as goal

pub returns-then-values-ne1 : goal.returns-then-values-ne1
returns-then-values-ne1 c = sym (only-other c.args.values.now (λ e. omega arith))
