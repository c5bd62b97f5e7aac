use Rattle.rb_book.specs.Invariant.{AreAddressesOf}
use Rattle.rb_book.proofs.Resting.{addresses_left}
use Rattle.rb_book.proofs.known_addresses.drop_unknown.Goals as goal

pub returns-in-Some : goal.returns-in-Some
returns-in-Some g c all has some =
    let are : AreAddressesOf all c.in-Some.known = rw c.in-Some.is at has in
    addresses_left c.in-Some.known c.retain_known.new.self all c.args.sets.now are some c.retain_known.ensures
