-- A search for an event of a packet, and what holds of one element more.
use Rattle.std.proofs.Common.{◌≡◌, ℕ, ◌+◌, ◌<◌, ◌≤◌, ◌==◌, ◌&&◌, List, [], ◌∷◌, Ok, Err, Result, Bool, All, length, get_or, take, inl, inr, sym, subst, ap, ◌∙◌, arith}
use Rattle.std.specs.Prelude.{is_ok}
use Rattle.std.specs.List.Sorted.{IsBinarySearchResult, IsSearchInRange, IsSorted}
use Rattle.std.specs.Cmp.{IsTotalOrder, both_tied, unsigned_ties}
use Rattle.std.specs.Ordering.{nat_cmp, ordering_then, is_eq}
use Rattle.std.specs.declared.cmp.Ordering.{Ordering}
use Rattle.std.proofs.lemmas.Bool.{cases_lt}
use Rattle.std.proofs.lemmas.Cmp.{nat_cmp_total, on_total, then_total}
use Rattle.std.proofs.lemmas.List.{take_all}
use Rattle.std.proofs.lemmas.List.Elements.{All-more}
use Rattle.std.proofs.lemmas.List.Folds.{list_any_at, list_any_none}
use Rattle.std.proofs.lemmas.List.Sorted.{searchable_from_sorted}
use Rattle.rb_import_answers.specs.declared.packets.PacketKind.{PacketKind}
use Rattle.rb_import_merge.specs.declared.packets.SeenPacket.{SeenPacket}
use Rattle.rb_import_merge.specs.Committed.{was}
use Rattle.rb_import_merge.specs.Lowest.{packet_cmp}
use Rattle.rb_import_merge.specs.Packets.{place_of}

-- ---- a search by kind and sequence

-- pairs by the first number, then by the second
abbrev pair_cmp : ℕ × ℕ → ℕ × ℕ → Ordering
pair_cmp a b = ordering_then (nat_cmp a.0 b.0) (nat_cmp a.1 b.1)

pair_total : IsTotalOrder pair_cmp
pair_total = then_total (on_total (λ (p : ℕ × ℕ). p.0) nat_cmp_total) (on_total (λ (p : ℕ × ℕ). p.1) nat_cmp_total)

abbrev pub key : SeenPacket → ℕ × ℕ
key p = (place_of p.event.now.kind, p.event.now.sequence)

abbrev is_it : PacketKind → ℕ → SeenPacket → Bool
is_it kind n p = place_of p.event.now.kind == place_of kind && p.event.now.sequence == n

tied : (kind : PacketKind) (n : ℕ) (p : SeenPacket) → is_it kind n p ≡ is_eq (pair_cmp (key p) (place_of kind, n))
tied kind n p =
    both_tied _ _ (nat_cmp (place_of p.event.now.kind) (place_of kind)) (nat_cmp p.event.now.sequence n)
    (unsigned_ties (place_of p.event.now.kind) (place_of kind)) (unsigned_ties p.event.now.sequence n)

-- it finds one where there is one
pub searched : (kind : PacketKind) (place n : ℕ) (packets : List SeenPacket) (r : Result ℕ ℕ) → place ≡ place_of kind → IsSearchInRange r (length packets)
    → IsBinarySearchResult (λ (p : SeenPacket). pair_cmp (key p) (place, n)) packets r → IsSorted packet_cmp packets → is_ok r ≡ was kind n packets
searched kind place n packets r is small at order =
    search_at packets r small (subst (λ m. IsBinarySearchResult (λ (p : SeenPacket). pair_cmp (key p) (m, n)) packets r) is at) order
  where
    search_at : (packets : List SeenPacket) (r : Result ℕ ℕ) → IsSearchInRange r (length packets)
        → IsBinarySearchResult (λ (p : SeenPacket). pair_cmp (key p) (place_of kind, n)) packets r → IsSorted packet_cmp packets → is_ok r ≡ was kind n packets
    search_at [] (Ok i) small at order = absurd (omega (arith, small))
    search_at (p ∷ packets) (Ok i) small at order =
        sym (list_any_at (is_it kind n) (p ∷ packets) i p small (tied kind n (get_or (p ∷ packets) i p) ∙ ap is_eq (at p)))
    search_at packets (Err i) small at order =
        let parts = at (searchable_from_sorted pair_total key packets (place_of kind, n) order) in
        sym
        (list_any_none (is_it kind n) packets (λ k d less.
        elim (cases_lt k i) [
          | inl before ↦ tied kind n (get_or packets k d) ∙ ap is_eq (parts.0 k d (omega arith) before)
          | inr behind ↦ tied kind n (get_or packets k d) ∙ ap is_eq (parts.1 k d behind less)
        ]))

-- ---- one more

pub one_more : {X : Type 0} (P : X → Type 0) (xs : List X) (i : ℕ) (x : X) → i < length xs → x ≡ get_or xs i x → All P (take i xs) → P x → All P (take (i + 1) xs)
one_more P xs i x small is so_far this = All-more P xs i x small so_far (subst P is this)

pub number_more : (P : ℕ → Type 0) (xs ys : List ℕ) (i : ℕ) → xs ≡ ys → i < length xs → All P (take i ys) → P (get_or xs i 0) → All P (take (i + 1) ys)
number_more P xs ys i same small so_far this = All-more P ys i 0 (subst (λ (l : List ℕ). i < length l) same small) so_far (subst (λ (l : List ℕ). P (get_or l i 0)) same this)

pub at_end : {X : Type 0} (P : X → Type 0) (xs : List X) (i : ℕ) → length xs ≤ i → All P (take i xs) → All P xs
at_end P xs i done so_far = subst (All P) (take_all i xs done) so_far
