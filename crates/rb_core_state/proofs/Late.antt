-- The lowest height whose record is at a limit or past it: there is none where the last record is before the limit.
use Rattle.std.proofs.Common.{◌≡◌, ℕ, suc, ◌<◌, ◌-◌, Bool, true, false, cond, List, [], ◌∷◌, length, map, slice_get, Some, None, refl, sym, ap, ◌∙◌, subst, arith}
use Rattle.std.specs.List.{AllByRecursion, find}
use Rattle.std.specs.Option.{option_map}
use Rattle.std.specs.List.Sorted.{IsStrictlyIncreasing}
use Rattle.std.proofs.lemmas.Bool.{leb-false, lt-leb, true≢false}
use Rattle.std.proofs.lemmas.Option.{same_Some}
use Rattle.rb_book.specs.Book.{Book, RecordAt, height_of, time_of}
use Rattle.rb_book.specs.Invariant.{IsBook}
use Rattle.rb_book.proofs.Rising.{Up, Up-from_increasing}
use Rattle.rb_scan.specs.Expiry.{has_come}
use Rattle.rb_core_model.specs.Forgetting.{lowest_late}

abbrev is_late : ℕ → RecordAt → Bool
is_late limit k = has_come (Some limit) (Some (time_of k))

none_late : (limit : ℕ) (rs : List RecordAt) → AllByRecursion (λ r. time_of r < limit) rs → find (is_late limit) rs ≡ None
none_late limit [] early = refl
none_late limit (r ∷ rs) early = ap (λ b. cond b (Some r) (find (is_late limit) rs)) (lt-leb limit (time_of r) early.0) ∙ none_late limit rs early.1

-- no time is above the last one
upto_last : (rs : List RecordAt) (k : RecordAt) → Up (λ a b. time_of a < time_of b) rs → slice_get rs (length rs - 1) ≡ Some k → (limit : ℕ) → time_of k < limit → AllByRecursion (λ r. time_of r < limit) rs
upto_last [] k up at limit lt = tt
upto_last (r ∷ []) k up at limit lt = (let same = ap time_of (same_Some r k at) in omega (arith, same, lt), tt)
upto_last (r ∷ q ∷ rs) k up at limit lt =
    let place : length (r ∷ q ∷ rs) - 1 ≡ suc (length (q ∷ rs) - 1) = omega arith in
    let rest = upto_last (q ∷ rs) k up.1 (subst (λ n. slice_get (r ∷ q ∷ rs) n ≡ Some k) place at) limit lt in
    let first = up.0.0 in
    (omega (arith, first, rest.0), rest)

none_after_last : (b : Book) (limit : ℕ) (k : RecordAt) → IsStrictlyIncreasing (map time_of b.records) → slice_get b.records (length b.records - 1) ≡ Some k → is_late limit k ≡ false → lowest_late b (Some limit) ≡ None
none_after_last b limit k rising at early =
    let lt : time_of k < limit = (let low = leb-false limit (time_of k) early in omega (arith, low)) in
    ap (option_map height_of) (none_late limit b.records (upto_last b.records k (Up-from_increasing time_of b.records rising) at limit lt))

pub none_seen : (b : Book) (records : List RecordAt) (limit : ℕ) (k : RecordAt) (come : Bool) → records ≡ b.records → IsBook b → Some k ≡ slice_get records (length records - 1) → come ≡ has_come (Some limit) (Some (time_of k)) → come ≡ false
    → None ≡ lowest_late b (Some limit)
none_seen b records limit k true same book at come early = absurd (true≢false early)
none_seen b records limit k false same book at come early = sym (none_after_last b limit k book.records.times (sym (at ∙ ap (λ rs. slice_get rs (length rs - 1)) same)) (sym come))

-- and where there is no limit
none_given : (rs : List RecordAt) → find (λ k. has_come None (Some (time_of k))) rs ≡ None
none_given [] = refl
none_given (r ∷ rs) = none_given rs

pub none_without : (b : Book) → lowest_late b None ≡ None
none_without b = ap (option_map height_of) (none_given b.records)
