-- The end of a rising list.
use Rattle.std.proofs.Common.{◌≡◌, ℕ, ◌<◌, ◌≤◌, ◌+◌, ◌-◌, ◌==◌, ◌⊎◌, List, length, get_or, drop, map, inl, inr, ap, sym, subst, ◌∙◌, arith, All}
use Rattle.std.specs.Prelude.{Contains}
use Rattle.std.specs.List.Sorted.{IsStrictlyIncreasing, IsPermutation}
use Rattle.std.specs.List.{dedup}
use Rattle.std.proofs.lemmas.Bool.{cases_lt}
use Rattle.std.proofs.lemmas.Grind.{common_steps}
use Rattle.std.proofs.lemmas.List.{drop-map, get_or-drop, length-drop}
use Rattle.std.proofs.lemmas.List.Elements.{All-from_get_or, All-drop, All-weaker, All-contains, All-contains_itself, All-push, Contains-get_or}
use Rattle.std.proofs.lemmas.List.Kept.{AllPairs-from_increasing, Contains-dedup_nat, Contains-from_dedup}
use Rattle.std.proofs.lemmas.List.Sorted.{Contains-permutation, IsPermutation-sym}
use Rattle.rb_import_check.specs.declared.chain.Commit.{Commit}
use Rattle.rb_import_merge.specs.Room.{FitsHeaders, HasNoRoom}

pub end_rises : (n : ℕ) (xs : List ℕ) → IsStrictlyIncreasing xs → IsStrictlyIncreasing (drop n xs)
end_rises n xs rises k small = grind (arith, common_steps, rises (n + k), get_or-drop, length-drop)

below_end : (n i : ℕ) (xs : List ℕ) → IsStrictlyIncreasing xs → i < n → All (λ k. get_or xs i 0 < k) (drop n xs)
below_end n i xs rises small = All-from_get_or (λ k. get_or xs i 0 < k) (drop n xs) 0 (λ j within.
    let long : length (drop n xs) ≡ length xs - n = length-drop n xs in
    let high : n + j < length xs = omega (arith, long, within) in
    subst (λ k. get_or xs i 0 < k) (sym (get_or-drop n xs j 0)) (AllPairs-from_increasing xs rises i (n + j) 0 (omega (arith, small)) high))

at_end : (n room i : ℕ) (xs : List ℕ) → IsStrictlyIncreasing xs → n ≡ length xs - room → i < length xs → (i < n) ⊎ (n ≤ i)
    → Contains (drop n xs) (get_or xs i 0) ⊎ HasNoRoom room (drop n xs) (get_or xs i 0)
at_end n room i xs rises is small (inl before) =
    let long : length (drop n xs) ≡ length xs - n = length-drop n xs in
    inr (omega (arith, long, is, small, before), below_end n i xs rises before)
at_end n room i xs rises is small (inr behind) =
    let long : length (drop n xs) ≡ length xs - n = length-drop n xs in
    let at : i - n < length (drop n xs) = omega (arith, long, small, behind) in
    let same : n + (i - n) ≡ i = omega (arith, behind) in
    inl (subst (λ k. Contains (drop n xs) (get_or xs k 0)) same (subst (Contains (drop n xs)) (get_or-drop n xs (i - n) 0) (Contains-get_or (drop n xs) (i - n) 0 at)))

pub end_highest : (n room : ℕ) (xs : List ℕ) → IsStrictlyIncreasing xs → n ≡ length xs - room → All (λ h. Contains (drop n xs) h ⊎ HasNoRoom room (drop n xs) h) xs
end_highest n room xs rises is = All-from_get_or (λ h. Contains (drop n xs) h ⊎ HasNoRoom room (drop n xs) h) xs 0 (λ i small. at_end n room i xs rises is small (cases_lt i n))

-- the same of a list from which it came by sorting and leaving out what stands twice
pub end_highest_of : (P : ℕ → Type 0) (given sorted : List ℕ) → IsPermutation given sorted → All P (dedup (λ (x y : ℕ). x == y) sorted) → All P given
end_highest_of P given sorted moved all = All-weaker (Contains given) P (λ h there. All-contains P (dedup (λ (x y : ℕ). x == y) sorted) h all (Contains-dedup_nat sorted h (Contains-permutation given sorted h moved there))) given (All-contains_itself given)

pub end_given : (n : ℕ) (given sorted : List ℕ) → IsPermutation given sorted → All (Contains given) (drop n (dedup (λ (x y : ℕ). x == y) sorted))
end_given n given sorted moved =
    All-weaker (Contains (dedup (λ (x y : ℕ). x == y) sorted)) (Contains given) (λ h there. Contains-permutation sorted given h (IsPermutation-sym given sorted moved) (Contains-from_dedup (λ (x y : ℕ). x == y) sorted h there))
    (drop n (dedup (λ (x y : ℕ). x == y) sorted)) (All-drop (Contains (dedup (λ (x y : ℕ). x == y) sorted)) n (dedup (λ (x y : ℕ). x == y) sorted) (All-contains_itself (dedup (λ (x y : ℕ). x == y) sorted)))

-- ---- headers

abbrev header_height : Commit → ℕ
header_height c = c.header.now.height

pub headers_fit : (seen kept : List Commit) (n : ℕ) → n ≡ length seen - 4096 → kept ≡ drop n seen → FitsHeaders seen kept
headers_fit seen kept n is end =
    let long : length (drop n seen) ≡ length seen - n = length-drop n seen in
    let same : length kept ≡ length (drop n seen) = ap length end in
    (omega (arith, long, same, is), end ∙ ap (λ m. drop m seen) is)

pub headers_rise : (seen kept : List Commit) (n : ℕ) → IsStrictlyIncreasing (map header_height seen) → kept ≡ drop n seen → IsStrictlyIncreasing (map header_height kept)
headers_rise seen kept n rises end =
    subst IsStrictlyIncreasing (drop-map header_height n seen ∙ ap (map header_height) (sym end)) (end_rises n (map header_height seen) rises)

pub ruleset fitting = (headers_fit, headers_rise, All-push)
