use Rattle.std.proofs.Common.{sym, ◌∙◌}
use Rattle.std.proofs.lemmas.Cmp.{nat_list_eq_equiv}
use Rattle.std.proofs.lemmas.Map.Made.{length-from_keys}
use Rattle.rb_book.specs.Book.{addresses_of}
use Rattle.rb_book.specs.Invariant.{AreAddressesOf}
use Rattle.rb_book.proofs.AddressCount.{known-addresses}
use Rattle.rb_book.proofs.known_addresses.count_addresses.Goals as goal

pub returns-in-Some : goal.returns-in-Some
returns-in-Some g c =
    let sets = c.args.sets.now in
    let are : AreAddressesOf sets c.in-Some.known = rw c.in-Some.is at c.requires.kept in
    c.len.ensures.value ∙ length-from_keys nat_list_eq_equiv c.in-Some.known (addresses_of sets) c.len.ensures.distinct (λ a. are a ∙ sym (known-addresses sets a))
