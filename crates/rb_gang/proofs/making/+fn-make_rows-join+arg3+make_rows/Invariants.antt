use Rattle.std.proofs.Common.{ℕ, ◌+◌, ◌*◌}
use Rattle.rb_gang.proofs.making.+fn-make_rows-join+arg3+make_rows.Given as goal

abbrev pub decreases-make_rows : goal.decreases-make_rows
decreases-make_rows g l = 2 * l.workers

abbrev pub decreases-join+arg3 : goal.decreases-join+arg3
decreases-join+arg3 g l = 2 * l.others + 1
