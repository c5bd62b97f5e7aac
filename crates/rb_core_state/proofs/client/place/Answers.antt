use Rattle.std.proofs.Common.{ℕ, rules, sym, subst}
use Rattle.std.proofs.lemmas.List.{map-id}
use Rattle.std.proofs.lemmas.List.Sorted.{answers_always}
use Rattle.std.specs.List.Sorted.{IsStrictlyIncreasing}
use Rattle.rb_book.proofs.Places.{IsPlace-from_number_search}
use Rattle.rb_core_state.proofs.client.place.Goals as goal

pub returns : goal.returns
returns c =
    let key = λ (h : ℕ). h in
    IsPlace-from_number_search key c.args.height c.args.heights.now c.binary_search_by_key.result (subst IsStrictlyIncreasing (sym (map-id c.args.heights.now)) c.requires) c.binary_search_by_key.ensures.bound
    (c.binary_search_by_key.ensures.position key (answers_always _ _ _ (λ f a r q h. search rules)))
