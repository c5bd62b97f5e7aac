use Rattle.std.proofs.Common.{◌≡◌, ℕ, suc, ◌+◌, List, ◌∷◌, drop, not, count_by, sym, ap, ◌∙◌, arith}
use Rattle.std.proofs.Math.Seq.{drop-cons}
use Rattle.std.proofs.lemmas.List.{take_rest}
use Rattle.rb_valset.specs.Validator.{Member, address_of}
use Rattle.rb_book.specs.Book.{is_known_address, address_count}
use Rattle.rb_book.proofs.AddressCount.{address_count-cons}
use Rattle.rb_book.proofs.known_addresses.count_all.Goals as goal

-- one set more is counted
counted : (sets : List (List Member)) (place : ℕ) (s : List Member) (members : List Member) (count more : ℕ) → drop place sets ≡ s ∷ drop (place + 1) sets → members ≡ s
    → count_by (λ m. not (is_known_address (drop (place + 1) sets) (address_of m.key))) s + address_count (drop (place + 1) sets) ≡ address_count (s ∷ drop (place + 1) sets)
    → more ≡ count_by (λ m. not (is_known_address (drop (place + 1) sets) (address_of m.key))) members
    → count + address_count (drop place sets) ≡ address_count sets → (count + more) + address_count (drop (place + 1) sets) ≡ address_count sets
counted sets place s members count more split same one value before =
    let here : more ≡ count_by (λ m. not (is_known_address (drop (place + 1) sets) (address_of m.key))) s =
    value ∙ ap (count_by (λ m. not (is_known_address (drop (place + 1) sets) (address_of m.key)))) same in
    let all : address_count (drop place sets) ≡ address_count (s ∷ drop (place + 1) sets) = ap address_count split in
    omega (arith, here, all, one, before)

pub loop-place-preserved : goal.loop-place-preserved
loop-place-preserved g c =
    let sets = c.args.sets.now in
    let set = c.index-sets-place.result in
    let next : suc c.loop-place.place ≡ c.loop-place.place + 1 = omega arith in
    let split = drop-cons sets c.loop-place.place set c.loop-place-test.true ∙ (λ i. sym c.index-sets-place.is i ∷ drop (next i) sets) in
    counted sets c.loop-place.place set c.members.result.now c.loop-place.count c.count_unknown-count.result split c.members.ensures.members
    (sym (address_count-cons set (drop (c.loop-place.place + 1) sets) c.members.ensures.set.distinct)) (c.count_unknown-count.ensures.value ∙ ap (λ ss. count_by (λ m. not (is_known_address ss (address_of m.key))) c.members.result.now) (take_rest sets (c.loop-place.place + 1))) c.loop-place.invariant
