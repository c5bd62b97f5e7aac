use Rattle.std.proofs.Common.{length, arith}
use Rattle.rb_batch.proofs.Divisions.{first_within}
use Rattle.rb_batch.proofs.apart.append_behind.Goals as goal

pub shifted-requires : goal.shifted-requires
shifted-requires g c =
    let within = first_within 0 c.args.behind.now (length c.args.messages.now) c.requires.division.whole c.loop-transaction.transaction-index (record { first = 0; count = 0; gas = 0 }) (omega arith) in
    omega (arith, within)
