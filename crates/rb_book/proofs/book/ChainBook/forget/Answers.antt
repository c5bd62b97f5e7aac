use Rattle.std.proofs.Common.{rules, ◌≡◌, ℕ, List, true, sym, ap, ◌∙◌, subst, arith}
use Rattle.std.specs.List.{filter}
use Rattle.std.proofs.lemmas.Fn.{filter_same}
use Rattle.rb_book.specs.Book.{Book, address_count, is_known_address}
use Rattle.rb_book.specs.Invariant.{IsBook, MayHaveAddressesOf}
use Rattle.rb_book.specs.Rest.{is_from, header_is_from, is_left, rest_of_book}
use Rattle.rb_book.proofs.Resting.{any_fewer, fewer_addresses, rest_is_book}
use Rattle.rb_book.proofs.book.ChainBook.forget.Goals as goal

pub count_addresses-self-inside-requires-clause-few : goal.count_addresses-self-inside-requires-clause-few
count_addresses-self-inside-requires-clause-few g c =
    let inside = c.self.inside in
    let seen = is_left c.args.below c.as_slice-records.result.now c.as_slice-headers.result.now in
    let sets : c.retain.new.self.items ≡ filter seen inside.sets.items = filter_same _ seen _ (λ x b f' k. search rules) _ _ c.retain.ensures.filtered in
    let same = ap address_count (c.as_slice-2.ensures.value ∙ sets) in
    let fewer = fewer_addresses seen inside.sets.items in
    let few = c.self.invariant.0.few_addresses in
    omega (arith, same, fewer, few)

pub count_addresses-self-inside-requires-clause-kept : goal.count_addresses-self-inside-requires-clause-kept
count_addresses-self-inside-requires-clause-kept g c =
    let inside = c.self.inside in
    let seen = is_left c.args.below c.as_slice-records.result.now c.as_slice-headers.result.now in
    let sets : c.retain.new.self.items ≡ filter seen inside.sets.items = filter_same _ seen _ (λ x b f' k. search rules) _ _ c.retain.ensures.filtered in
    let some : (a : List ℕ) → is_known_address c.as_slice.result.now a ≡ true → is_known_address inside.sets.items a ≡ true =
    λ a e. any_fewer seen inside.sets.items a (ap (λ ss. is_known_address ss a) (sym (c.as_slice.ensures.value ∙ sets)) ∙ e) in
    subst (λ ss. MayHaveAddressesOf ss c.drop_unknown.new.addresses) (c.as_slice.ensures.value ∙ sym c.as_slice-2.ensures.value)
    (c.drop_unknown.ensures inside.sets.items c.self.invariant.3 some)

pub invariant_of-self : goal.invariant_of-self
invariant_of-self g c =
    let inside = c.self.inside in
    let b : Book = record { limit = inside.limit; sets = inside.sets.items; records = inside.records.items; headers = inside.headers.items } in
    let seen = is_left c.args.below c.as_slice-records.result.now c.as_slice-headers.result.now in
    let sets : c.retain.new.self.items ≡ filter (is_left c.args.below b.records b.headers) b.sets =
    filter_same _ seen _ (λ x b f' k. search rules) _ _ c.retain.ensures.filtered ∙ (λ i. filter (is_left c.args.below (c.as_slice-records.ensures.value i) (c.as_slice-headers.ensures.value i)) b.sets) in
    let records : c.retain-2.new.self.items ≡ filter (is_from c.args.below) b.records = filter_same _ (is_from c.args.below) _ (λ x b f' k. search rules) _ _ c.retain-2.ensures.filtered in
    let headers : c.retain-3.new.self.items ≡ filter (header_is_from c.args.below) b.headers = filter_same _ (header_is_from c.args.below) _ (λ x b f' k. search rules) _ _ c.retain-3.ensures.filtered in
    let some : (a : List ℕ) → is_known_address c.as_slice.result.now a ≡ true → is_known_address b.sets a ≡ true =
    λ a e. any_fewer (is_left c.args.below b.records b.headers) b.sets a (ap (λ ss. is_known_address ss a) (sym (c.as_slice.ensures.value ∙ sets)) ∙ e) in
    let room = c.self.invariant.1 in (
      subst IsBook (λ i. record { limit = inside.limit; sets = sym sets i; records = sym records i; headers = sym headers i }) (rest_is_book c.args.below b c.self.invariant.0),
      (omega (arith, room.0, c.retain.ensures.capacity), omega (arith, room.1, c.retain-2.ensures.capacity), omega (arith, room.2, c.retain-3.ensures.capacity)),
      c.count_addresses-self-inside.ensures ∙ ap address_count c.as_slice-2.ensures.value,
      subst (λ ss. MayHaveAddressesOf ss c.drop_unknown.new.addresses) c.as_slice.ensures.value (c.drop_unknown.ensures b.sets c.self.invariant.3 some),
    )

pub returns : goal.returns
returns g c =
    let inside = c.self.inside in
    let b : Book = record { limit = inside.limit; sets = inside.sets.items; records = inside.records.items; headers = inside.headers.items } in
    let seen = is_left c.args.below c.as_slice-records.result.now c.as_slice-headers.result.now in
    let sets : c.retain.new.self.items ≡ filter (is_left c.args.below b.records b.headers) b.sets =
    filter_same _ seen _ (λ x b f' k. search rules) _ _ c.retain.ensures.filtered ∙ (λ i. filter (is_left c.args.below (c.as_slice-records.ensures.value i) (c.as_slice-headers.ensures.value i)) b.sets) in
    let records : c.retain-2.new.self.items ≡ filter (is_from c.args.below) b.records = filter_same _ (is_from c.args.below) _ (λ x b f' k. search rules) _ _ c.retain-2.ensures.filtered in
    let headers : c.retain-3.new.self.items ≡ filter (header_is_from c.args.below) b.headers = filter_same _ (header_is_from c.args.below) _ (λ x b f' k. search rules) _ _ c.retain-3.ensures.filtered in
    (λ i. record { limit = inside.limit; sets = sets i; records = records i; headers = headers i }) ∙ ap (rest_of_book c.args.below) c.self.view_is
