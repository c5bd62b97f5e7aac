use Rattle.std.proofs.Common.{rules}
use Rattle.rb_import_merge.proofs.Highest.{headers_rise}
use Rattle.rb_import_merge.proofs.room.with_room.Goals as goal

pub invariant_of-result : goal.invariant_of-result
invariant_of-result c = record {
  rising = headers_rise c.args.chain.commits.items c.in_ok-commits.commits.items c.surplus_of-left_out.result c.args.chain.rising (search rules);
  bare_rising = c.args.chain.bare_rising;
}
