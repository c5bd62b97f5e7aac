use Rattle.std.proofs.Common.{◌≡◌, ◌≢◌, ℕ, false, List, get_or, sym, ap, ◌∙◌, inl, inr}
use Rattle.std.specs.Str.{bytes_eq}
use Rattle.std.proofs.lemmas.Bool.{cases_Bool, ne_eqb}
use Rattle.std.proofs.lemmas.Slice.Eq.{bytes_eq-Decides}
use Rattle.rb_valset.specs.ValidatorSet.{set_hash}
use Rattle.rb_graph.proofs.build.is_of_hash.Goals as goal

-- bytes whose first ones differ
differ : (a b : List ℕ) → get_or a 0 0 ≢ get_or b 0 0 → bytes_eq a b ≡ false
differ a b apart = elim (cases_Bool (bytes_eq a b)) [
  | inl same ↦ absurd (apart (ap (λ (l : List ℕ). get_or l 0 0) ((bytes_eq-Decides a b).0 same)))
  | inr other ↦ other
]

pub returns-else-own-hash : goal.returns-else-own-hash
returns-else-own-hash g c =
    let own = c.hash-own.result.now in
    let hash = c.args.hash.now in
    let first = ap (λ (l : List ℕ). get_or l 0 0) c.hash-own.ensures in
    ne_eqb (get_or own 0 0) (get_or hash 0 0) c.if-own-hash.false
    ∙ sym (differ (set_hash c.args.set.now) hash (λ same. c.if-own-hash.false (first ∙ same)))
