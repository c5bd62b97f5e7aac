-- What is still to be written of a part of the pending packets.
use Rattle.std.proofs.Common.{◌≡◌, ℕ, zero, suc, ◌+◌, ◌-◌, ◌*◌, ◌<◌, ◌≤◌, List, [], ◌∷◌, ◌++◌, length, get_or, take, drop, arith, refl, sym, ap, ◌∙◌, append_assoc, append-nil}
use Rattle.std.specs.Fmt.{decimal}
use Rattle.std.proofs.lemmas.List.{drop_more, drop_all}
use Rattle.rb_want_requests.specs.declared.content.Content.{Content}
use Rattle.rb_want_requests.specs.PacketPaths.{listed, part_of, pending_in}
use Rattle.rb_want_requests.specs.Pending.{committed_in}

-- so many of these sequences, after so many that are passed over
unfoldable pub part_from : List ℕ → List ℕ → ℕ → ℕ → List ℕ → List ℕ
part_from separator next left before sequences = listed separator next (take left (drop before sequences))

-- a sequence that is passed over
pub passed : (separator next : List ℕ) (left before x : ℕ) (xs : List ℕ) → 0 < before → part_from separator next left before (x ∷ xs) ≡ part_from separator next left (before - 1) xs
unfolding part_from
passed separator next left zero x xs h = absurd (omega (arith, h))
passed separator next left (suc n) x xs h = ap (λ (k : ℕ). listed separator next (take left (drop k xs))) (omega arith)

-- one that is written
pub written : (separator next : List ℕ) (left before x : ℕ) (xs : List ℕ) → before ≤ 0 → 0 < left
    → part_from separator next left before (x ∷ xs) ≡ (separator ++ decimal x) ++ part_from next next (left - 1) before xs
unfolding part_from
written separator next zero before x xs none h = absurd (omega (arith, h))
written separator next (suc n) zero x xs none h =
    sym (append_assoc separator (decimal x) (listed next next (take n xs))) ∙ ap (λ (k : ℕ). (separator ++ decimal x) ++ listed next next (take k xs)) (omega arith)
written separator next (suc n) (suc m) x xs none h = absurd (omega (arith, none))

-- once all are written the others don't matter
pub finished : (separator next : List ℕ) (left before x : ℕ) (xs : List ℕ) → before ≤ 0 → left ≤ 0 → part_from separator next left before (x ∷ xs) ≡ part_from separator next left before xs
unfolding part_from
finished separator next zero zero x xs none h = refl
finished separator next zero (suc m) x xs none h = absurd (omega (arith, none))
finished separator next (suc n) before x xs none h = absurd (omega (arith, h))

-- at the end there are none
pub ended : (separator next : List ℕ) (left before : ℕ) → part_from separator next left before [] ≡ []
unfolding part_from
ended separator next zero zero = refl
ended separator next zero (suc m) = refl
ended separator next (suc n) zero = refl
ended separator next (suc n) (suc m) = refl

-- ---- the sequences that follow a place

-- those of a file from a place on, and of the files after it
unfoldable pub rest_of : List ℕ → ℕ → List Content → ℕ → List ℕ
rest_of sequences i there k = drop i sequences ++ pending_in (drop k there)

pub next_sequence : (sequences : List ℕ) (i d : ℕ) (there : List Content) (k : ℕ) → i < length sequences
    → rest_of sequences i there k ≡ get_or sequences i d ∷ rest_of sequences (i + 1) there k
unfolding rest_of
next_sequence sequences i d there k h = ap (λ (xs : List ℕ). xs ++ pending_in (drop k there)) (drop_more sequences i d h)

pub next_file : (there : List Content) (k : ℕ) (d : Content) → k < length there
    → pending_in (drop k there) ≡ rest_of (committed_in (get_or there k d)) 0 there (k + 1)
unfolding rest_of
next_file there k d h = ap pending_in (drop_more there k d h)

pub file_ended : (sequences : List ℕ) (i : ℕ) (there : List Content) (k : ℕ) → length sequences ≤ i → rest_of sequences i there k ≡ pending_in (drop k there)
unfolding rest_of
file_ended sequences i there k h = ap (λ (xs : List ℕ). xs ++ pending_in (drop k there)) (drop_all i sequences h)

pub all_ended : (there : List Content) (k : ℕ) → length there ≤ k → pending_in (drop k there) ≡ []
all_ended there k h = rw (drop_all k there h) refl

-- ---- what was written, and what is left, is the part

pub whole : (first next : List ℕ) (part : ℕ) (sequences : List ℕ) (a b c before : ℕ) → a ≡ part → b ≡ 100 → c ≡ 100 → before ≡ a * b - c
    → part_from first next (a * b - before) before sequences ≡ listed first next (part_of part sequences)
unfolding part_from
whole first next part sequences a b c before ea eb ec e = rw (e, ea, eb, ec) refl

module _ (separator next : List ℕ) (left before : ℕ) (done all : List ℕ) where
  pub passed_on : (xs : List ℕ) (i d : ℕ) (there : List Content) (k : ℕ) → i < length xs → 0 < before
      → done ++ part_from separator next left before (rest_of xs i there k) ≡ all
      → done ++ part_from separator next left (before - 1) (rest_of xs (i + 1) there k) ≡ all
  passed_on xs i d there k small h e =
      ap (λ (ys : List ℕ). done ++ ys)
      (sym (ap (part_from separator next left before) (next_sequence xs i d there k small) ∙ passed separator next left before (get_or xs i d) (rest_of xs (i + 1) there k) h)) ∙ e

  pub finished_on : (xs : List ℕ) (i d : ℕ) (there : List Content) (k : ℕ) → i < length xs → before ≤ 0 → left ≤ 0
      → done ++ part_from separator next left before (rest_of xs i there k) ≡ all
      → done ++ part_from separator next left before (rest_of xs (i + 1) there k) ≡ all
  finished_on xs i d there k small none h e =
      ap (λ (ys : List ℕ). done ++ ys)
      (sym (ap (part_from separator next left before) (next_sequence xs i d there k small) ∙ finished separator next left before (get_or xs i d) (rest_of xs (i + 1) there k) none h)) ∙ e

  pub written_on : (xs : List ℕ) (i d : ℕ) (there : List Content) (k : ℕ) → i < length xs → before ≤ 0 → 0 < left
      → done ++ part_from separator next left before (rest_of xs i there k) ≡ all
      → (done ++ (separator ++ decimal (get_or xs i d))) ++ part_from next next (left - 1) before (rest_of xs (i + 1) there k) ≡ all
  written_on xs i d there k small none h e =
      append_assoc done (separator ++ decimal (get_or xs i d)) (part_from next next (left - 1) before (rest_of xs (i + 1) there k))
      ∙ ap (λ (ys : List ℕ). done ++ ys)
      (sym (ap (part_from separator next left before) (next_sequence xs i d there k small) ∙ written separator next left before (get_or xs i d) (rest_of xs (i + 1) there k) none h)) ∙ e

  pub file_begins : (xs : List ℕ) (there : List Content) (k : ℕ) (c : Content) → k < length there → xs ≡ committed_in c → c ≡ get_or there k c
      → done ++ part_from separator next left before (pending_in (drop k there)) ≡ all
      → done ++ part_from separator next left before (rest_of xs 0 there (k + 1)) ≡ all
  file_begins xs there k c small held is e =
      ap (λ (ys : List ℕ). done ++ part_from separator next left before ys)
      (ap (λ (ys : List ℕ). rest_of ys 0 there (k + 1)) (held ∙ ap committed_in is) ∙ sym (next_file there k c small)) ∙ e

  pub file_ends : (xs : List ℕ) (i : ℕ) (there : List Content) (k : ℕ) → length xs ≤ i
      → done ++ part_from separator next left before (rest_of xs i there k) ≡ all
      → done ++ part_from separator next left before (pending_in (drop k there)) ≡ all
  file_ends xs i there k h e = ap (λ (ys : List ℕ). done ++ part_from separator next left before ys) (sym (file_ended xs i there k h)) ∙ e

  pub all_written : (there : List Content) (k : ℕ) → length there ≤ k → done ++ part_from separator next left before (pending_in (drop k there)) ≡ all → done ≡ all
  all_written there k h e =
      sym (append-nil done)
      ∙ ap (λ (ys : List ℕ). done ++ ys) (sym (ap (part_from separator next left before) (all_ended there k h) ∙ ended separator next left before)) ∙ e
