-- Lists that are compared place by place.
use Rattle.std.proofs.Common.{◌≡◌, ◌≢◌, ℕ, ◌+◌, ◌<◌, ◌≤◌, Bool, true, false, List, Option, Some, None, length, take, subst, true≢false, get_or, refl, sym, ap, ◌∙◌}
use Rattle.std.specs.Prelude.{All, find}
use Rattle.std.specs.Option.{option_map}
use Rattle.std.specs.Bool.{Decides}
use Rattle.std.specs.Cmp.Lexicographic.{pointwise}
use Rattle.std.specs.Str.{bytes_eq}
use Rattle.std.proofs.lemmas.Bool.{and_parts, and_from, eqb-true, eq-eqb}
use Rattle.std.proofs.lemmas.List.{get_or_default, take_all, take_more_same}
use Rattle.std.proofs.lemmas.List.Elements.{All-get_or}
use Rattle.std.proofs.lemmas.Slice.Eq.{bytes_eq-Decides, slice_eq-Decides}
use Rattle.rb_book.specs.Header.{Header, Record, same_vote}
use Rattle.rb_book.specs.Book.{Book, RecordAt, is_at}
use Rattle.rb_book.specs.Invariant.{IsBacked}
use Rattle.rb_book.specs.Same.{same_vote-Decides}
use Rattle.rb_book.specs.Words.{same_signing}

-- one place more is equal
pub same_next : {X : Type 0} → (xs ys : List X) (i : ℕ) (x y : X) → i < length xs → i < length ys → take i xs ≡ take i ys
    → x ≡ get_or xs i x → y ≡ get_or ys i y → x ≡ y → take (i + 1) xs ≡ take (i + 1) ys
same_next xs ys i x y p q e a b f = take_more_same xs ys i x p q e (sym a ∙ f ∙ b ∙ get_or_default ys i y x q)

-- all places are equal
pub same_whole : {X : Type 0} → (xs ys : List X) (i : ℕ) → length xs ≤ i → length ys ≤ i → take i xs ≡ take i ys → xs ≡ ys
same_whole xs ys i p q e = sym (take_all i xs p) ∙ e ∙ take_all i ys q

-- two lists that differ at a place
pub other_at : {X : Type 0} → (xs ys : List X) (i : ℕ) (x y : X) → i < length ys → x ≡ get_or xs i x → y ≡ get_or ys i y → x ≢ y → xs ≢ ys
other_at xs ys i x y q a b differ e = differ (a ∙ ap (λ (zs : List _). get_or zs i x) e ∙ get_or_default ys i x y q ∙ sym b)

-- what decides that two lists are equal
pub decided : {X : Type 0} {same : X → X → Bool} → ((x y : X) → Decides (same x y) (x ≡ y)) → (xs ys : List X) → xs ≡ ys → true ≡ pointwise same xs ys
decided law xs ys e = sym ((slice_eq-Decides law xs ys (pointwise _ xs ys) refl).1 e)

pub decided_not : {X : Type 0} {same : X → X → Bool} → ((x y : X) → Decides (same x y) (x ≡ y)) → (xs ys : List X) → xs ≢ ys → false ≡ pointwise same xs ys
decided_not {X} {same} law xs ys differ = go (pointwise same xs ys) ((slice_eq-Decides law xs ys (pointwise same xs ys) refl).0) where
  go : (b : Bool) → (b ≡ true → xs ≡ ys) → false ≡ b
  go true f = absurd (differ (f refl))
  go false f = refl

-- the record at a height, of what is known
abbrev record_in : List RecordAt → ℕ → Option Record
record_in records height = option_map (λ (k : RecordAt). k.record_of) (find (is_at height) records)

abbrev record_or : Option Record → Record → Record
record_or (Some r) other = r
record_or None other = other

-- where the records are equal, headers that are equal but for their records are equal: a header's own is known
pub signing-Decides : (b c : Book) (h k : Header) → b.records ≡ c.records → IsBacked b h → IsBacked c k → Decides (same_signing h k) (h ≡ k)
signing-Decides b c h k e p q =
    let hashes = bytes_eq-Decides h.set_hash k.set_hash in
    let votes = slice_eq-Decides same_vote-Decides h.votes k.votes (pointwise same_vote h.votes k.votes) refl in (
      λ t.
          let first = and_parts _ _ t in
          let second = and_parts _ _ first.0 in
          let height = eqb-true h.height k.height second.0 in
          let hash = hashes.0 second.1 in
          let vote = votes.0 first.1 in
          let known = sym p.recorded ∙ (λ i. record_in (e i) (height i)) ∙ q.recorded in
          let entry = ap (λ o. record_or o h.record_of) known in
          λ i. record { height = height i; record_of = entry i; set_hash = hash i; votes = vote i },
      λ t. and_from _ _ (and_from _ _ (eq-eqb h.height k.height (ap (λ (x : Header). x.height) t)) (hashes.1 (ap (λ (x : Header). x.set_hash) t))) (votes.1 (ap (λ (x : Header). x.votes) t)),
    )

-- what holds of each element holds of the one at a place
pub backed_at : (b : Book) (i : ℕ) (h : Header) → All (IsBacked b) b.headers → i < length b.headers → h ≡ get_or b.headers i h → IsBacked b h
backed_at b i h all l e = subst (IsBacked b) (sym e) (All-get_or (IsBacked b) b.headers i h l all)

-- two that are found not to be the same differ
pub differs_by : {X : Type 0} {x y : X} {b : Bool} → Decides b (x ≡ y) → false ≡ b → x ≢ y
differs_by law f e = true≢false (sym (law.1 e) ∙ sym f)

pub differs : {X : Type 0} {same : X → X → Bool} → ((x y : X) → Decides (same x y) (x ≡ y)) → (x y : X) → false ≡ same x y → x ≢ y
differs law x y f = differs_by (law x y) f
