use Rattle.std.proofs.Common.{rules}
use Rattle.rb_book.proofs.AddressCount.{one_more_address}
use Rattle.rb_book.proofs.addresses.Addresses.add_within_room.Goals as goal

pub loop-member-preserved : goal.loop-member-preserved
loop-member-preserved g c = record {
  room = search rules;
  same = λ a. one_more_address a c.args.members.now c.loop-member.member-index c.member-item.result _ c.address.result.now _ _
      c.loop-member-test.true c.member-item.is c.address.ensures (c.loop-member.invariant.same a) ((rw c.unwrap.ensures at c.insert.ensures.updates).0 a);
}
