use Rattle.std.proofs.Common.{◌≡◌, None, ℕ, List, ◌∷◌, sym, subst, ap, ◌∙◌, arith}
use Rattle.std.specs.List.{insert}
use Rattle.rb_valset.specs.Validator.{Member}
use Rattle.rb_valset.specs.ValidatorSet.{set_hash}
use Rattle.rb_book.specs.Book.{Book, has_hash, is_before, address_count}
use Rattle.rb_book.specs.Invariant.{IsBook, MayHaveAddressesOf}
use Rattle.rb_book.specs.Intake.{set_refusal}
use Rattle.rb_book.specs.Search.{IsNewPlace}
use Rattle.rb_book.proofs.AddressCount.{address_count-insert}
use Rattle.rb_book.proofs.Additions.{stays_a_book}
use Rattle.rb_book.proofs.Puts.{set_put, set_room}
use Rattle.rb_book.proofs.book.ChainBook.put_set.Goals as goal

pub unwrap-requires : goal.unwrap-requires
unwrap-requires g c =
    let b : Book = record { limit = c.self.inside.limit; sets = c.self.inside.sets.items; records = c.self.inside.records.items; headers = c.self.inside.headers.items } in
    let e : c.args.self.now ≡ b = sym c.self.view_is in
    let set : List Member = c.args.set in
    let hash : c.hash.result.now ≡ set_hash set = c.hash.ensures in
    let new : IsNewPlace (has_hash (set_hash set)) (is_before (set_hash set)) b.sets c.in-Err.place = rw (c.as_slice.ensures.value, hash) at c.in-Err.ensures in
    let room = set_room b set c.in-Err.place new (subst (λ (x : Book). set_refusal x set ≡ None) e c.requires) in
    c.insert.ensures.succeeds (omega (arith, c.self.inside.sets.ok.0, room, c.self.invariant.1.0))

pub invariant_of-self : goal.invariant_of-self
invariant_of-self g c =
    let b : Book = record { limit = c.self.inside.limit; sets = c.self.inside.sets.items; records = c.self.inside.records.items; headers = c.self.inside.headers.items } in
    let e : c.args.self.now ≡ b = sym c.self.view_is in
    let set : List Member = c.args.set in
    let place : ℕ = c.in-Err.place in
    let hash : c.hash.result.now ≡ set_hash set = c.hash.ensures in
    let new : IsNewPlace (has_hash (set_hash set)) (is_before (set_hash set)) b.sets place = rw (c.as_slice.ensures.value, hash) at c.in-Err.ensures in
    let accepted = subst (λ (x : Book). set_refusal x set ≡ None) e c.requires in
    let made = set_put b set place new in
    let sets : c.insert.new.self.items ≡ insert b.sets place set = rw c.unwrap.ensures at c.insert.ensures.items in
    let count = c.addresses_with-self-inside.ensures.count ∙ ap (λ (x : Book). address_count (set ∷ x.sets)) e ∙ sym (address_count-insert b.sets place set) ∙ ap address_count (sym sets) in
    let kept = rw c.members.ensures.members at (c.keep_addresses.ensures b.sets place c.self.invariant.3) in
    let room = c.self.invariant.1 in (
      rw sets (subst IsBook (sym made) ((stays_a_book b c.self.invariant.0).0 set c.members.ensures.set accepted)),
      (omega (arith, room.0, c.insert.ensures.capacity), room.1, room.2),
      count,
      subst (λ (ss : List (List Member)). MayHaveAddressesOf ss c.keep_addresses.new.addresses) (sym sets) kept,
    )
