use Rattle.std.proofs.Common.{◌≡◌, ◌<◌, ℕ, List, [], length, get_or, take, sym, ap, subst, ◌∙◌, arith, rules}
use Rattle.std.specs.List.{range_with_len}
use Rattle.std.specs.List.Sorted.{IsPermutation}
use Rattle.std.proofs.lemmas.List.{get_or_default}
use Rattle.rb_graph.specs.Numbering.{IsNumbered, AreNumbered}
use Rattle.rb_graph.proofs.Numbering.{intern_step, intern_keeps, all-more, all-whole, all-placed, place_below}
use Rattle.rb_graph.proofs.Room.{has_room, interned-of_sets, member_known}
use Rattle.rb_graph.proofs.numbers.number_sets.Goals as goal

-- each place is that of a set
below : (n : ℕ) (order places : List ℕ) (i : ℕ) → IsPermutation (range_with_len 0 n) order → places ≡ order → i < length places → get_or places i 0 < n
below n order places i permuted is lt =
    let at : get_or order i 0 < n = place_below n order permuted i 0 (omega (arith, lt, ap (λ (l : List ℕ). length l) is)) in
    omega (arith, at, ap (λ (l : List ℕ). get_or l i 0) is)

pub offset_bounds-sets-place : goal.offset_bounds-sets-place
offset_bounds-sets-place g c =
    let within = below (length c.args.sets.now) c.in_ok-places.places.items c.as_slice-place-items.result.now c.loop-place.place-index c.in_ok-places.ensures c.as_slice-place-items.ensures.value (omega arith) in
    search (rules, within)

pub bounds-sets-place : goal.bounds-sets-place
bounds-sets-place g c = below (length c.args.sets.now) c.in_ok-places.places.items c.as_slice-place-items.result.now c.loop-place.place-index c.in_ok-places.ensures c.as_slice-place-items.ensures.value (omega arith)

pub number-requires : goal.number-requires
number-requires g c =
    let sets = c.args.sets.now in
    let places = c.as_slice-place-items.result.now in
    let i = c.loop-place.place-index in
    let within = below (length sets) c.in_ok-places.places.items places i c.in_ok-places.ensures c.as_slice-place-items.ensures.value (omega arith) in
    has_room sets c.loop-member.columns c.address.result.now c.loop-member.invariant.of_sets
    (member_known sets (get_or places i 0) c.index-sets-place.result c.members-member-items.result.now c.loop-member.member-index c.member-item.result c.address.result.now
    within c.index-sets-place.is c.members-member-items.ensures.members (omega arith) c.member-item.is c.address.ensures)
    c.requires

pub loop-member-preserved : goal.loop-member-preserved
loop-member-preserved g c =
    let sets = c.args.sets.now in
    let places = c.as_slice-place-items.result.now in
    let i = c.loop-place.place-index in
    let within = below (length sets) c.in_ok-places.places.items places i c.in_ok-places.ensures c.as_slice-place-items.ensures.value (omega arith) in
    let old = c.loop-member.columns in
    let new = c.number.new.columns in
    let a = c.address.result.now in
    let keys = c.in_ok-number.ensures.keys in
    record {
      earlier = λ k d lt j e inner. intern_keeps old new a keys (get_or (get_or sets (get_or (take i places) k d) []) j e) (c.loop-member.invariant.earlier k d lt j e inner);
      numbered = intern_step old new a c.members-member-items.result.now c.loop-member.member-index c.member-item.result keys c.address.ensures (omega arith) c.member-item.is c.loop-member.invariant.numbered;
      of_sets = interned-of_sets sets old new a keys c.in_ok-number.ensures.distinct
          (member_known sets (get_or places i 0) c.index-sets-place.result c.members-member-items.result.now c.loop-member.member-index c.member-item.result a
          within c.index-sets-place.is c.members-member-items.ensures.members (omega arith) c.member-item.is c.address.ensures)
          c.loop-member.invariant.of_sets;
    }

pub loop-place-preserved : goal.loop-place-preserved
loop-place-preserved g c =
    let sets = c.args.sets.now in
    let places = c.as_slice-place-items.result.now in
    let i = c.loop-place.place-index in
    let within = below (length sets) c.in_ok-places.places.items places i c.in_ok-places.ensures c.as_slice-place-items.ensures.value (omega arith) in
    let columns = c.loop-member.columns in
    let members = c.members-member-items.result.now in
    let all : AreNumbered columns members = all-whole (IsNumbered columns) members c.loop-member.member-index (omega arith) c.loop-member.invariant.numbered in
    let same : members ≡ get_or sets (get_or places i 0) [] = c.members-member-items.ensures.members ∙ c.index-sets-place.is ∙ get_or_default sets (get_or places i 0) c.index-sets-place.result [] within in
    record {
      numbered = all-more (λ place. AreNumbered columns (get_or sets place [])) places i 0 (omega arith) c.loop-member.invariant.earlier (subst (AreNumbered columns) same all);
      of_sets = c.loop-member.invariant.of_sets;
    }

pub returns : goal.returns
returns g c =
    let sets = c.args.sets.now in
    let places = c.as_slice-place-items.result.now in
    let columns = c.loop-place.columns in
    let order : IsPermutation (range_with_len 0 (length sets)) places =
    subst (IsPermutation (range_with_len 0 (length sets))) (sym c.as_slice-place-items.ensures.value) c.in_ok-places.ensures in
    all-placed (AreNumbered columns) sets places order (all-whole (λ place. AreNumbered columns (get_or sets place [])) places c.loop-place.place-index (omega arith) c.loop-place.invariant.numbered)
