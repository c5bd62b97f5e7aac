-- A cut apart is a division of all messages.
use Rattle.std.proofs.Common.{◌≡◌, ℕ, ◌+◌, ◌-◌, ◌<◌, ◌≤◌, List, [], ◌∷◌, ◌++◌, length, map, take, drop, sum, All, get_or, slice_index, zero, suc, refl, sym, ap, subst, ◌∙◌, length-append, arith}
use Rattle.std.proofs.Math.Seq.{drop-append-add}
use Rattle.std.proofs.lemmas.List.{drop-append-le, take-append-le, length-drop}
use Rattle.std.proofs.lemmas.List.Elements.{All-head, All-tail, All-cons, All-nil}
use Rattle.rb_batch.specs.declared.transaction.Transaction.{Transaction}
use Rattle.rb_batch.specs.Limits.{TransactionLimits}
use Rattle.rb_batch.specs.Cut.{run_of, IsTransaction, FollowOn, IsDivision, IsLeastCut, IsCutApart, shifted}
use Rattle.rb_batch.proofs.Runs.{FollowOn-le}
use Rattle.rb_batch.proofs.Existence.{least_is_one}

-- each run begins by the end
pub first_within : (f : ℕ) (ts : List Transaction) (end : ℕ) → FollowOn f ts end → (k : ℕ) (d : Transaction) → k < length ts → (get_or ts k d).first ≤ end
first_within f [] end h k d inside = absurd (omega (arith, inside))
first_within f (t ∷ ts) end h zero d inside = omega (arith, h.0, FollowOn-le (f + t.count) ts end h.1)
first_within f (t ∷ ts) end h (suc k) d inside = first_within (f + t.count) ts end h.1 k d (omega (arith, inside))

module _ (limits : TransactionLimits) (us ms : List ℕ) where
  run_in_front : (t : Transaction) → t.first + t.count ≤ length us → run_of (us ++ ms) t ≡ run_of us t
  run_in_front t within =
      ap (take t.count) (drop-append-le t.first us ms (omega (arith, within)))
      ∙ take-append-le t.count (drop t.first us) ms (omega (arith, within, length-drop t.first us))

  in_front : (f : ℕ) (ts : List Transaction) → FollowOn f ts (length us) → All (IsTransaction limits us) ts → All (IsTransaction limits (us ++ ms)) ts
  in_front f [] h all = All-nil (IsTransaction limits (us ++ ms))
  in_front f (t ∷ ts) h all =
      let w = All-head (IsTransaction limits us) t ts all in
      let within : t.first + t.count ≤ length us = omega (arith, h.0, FollowOn-le (f + t.count) ts (length us) h.1) in
      All-cons (IsTransaction limits (us ++ ms)) t ts (record { some = w.some; few = w.few; gas = w.gas ∙ ap (λ (r : List ℕ). sum r + limits.transaction_gas) (sym (run_in_front t within)); light = w.light })
      (in_front (f + t.count) ts h.1 (All-tail (IsTransaction limits us) t ts all))

  behind : (ts : List Transaction) → All (IsTransaction limits ms) ts → All (IsTransaction limits (us ++ ms)) (map (shifted (length us)) ts)
  behind [] all = All-nil (IsTransaction limits (us ++ ms))
  behind (t ∷ ts) all =
      let w = All-head (IsTransaction limits ms) t ts all in
      All-cons (IsTransaction limits (us ++ ms)) (shifted (length us) t) (map (shifted (length us)) ts) (record { some = w.some; few = w.few; gas = w.gas ∙ ap (λ (r : List ℕ). sum (take t.count r) + limits.transaction_gas) (sym (drop-append-add us ms t.first)); light = w.light })
      (behind ts (All-tail (IsTransaction limits ms) t ts all))

  follows_behind : (f : ℕ) (ts : List Transaction) → FollowOn f ts (length ms) → FollowOn (length us + f) (map (shifted (length us)) ts) (length us + length ms)
  follows_behind f [] h = ap (λ n. length us + n) h
  follows_behind f (t ∷ ts) h =
      let e : length us + (f + t.count) ≡ length us + f + t.count = omega arith in
      (ap (λ n. length us + n) h.0, subst (λ n. FollowOn n (map (shifted (length us)) ts) (length us + length ms)) e (follows_behind (f + t.count) ts h.1))

  follows : (f : ℕ) (ts rest : List Transaction) (mid end : ℕ) → FollowOn f ts mid → FollowOn mid rest end → FollowOn f (ts ++ rest) end
  follows f [] rest mid end h k = subst (λ n. FollowOn n rest end) (sym h) k
  follows f (t ∷ ts) rest mid end h k = (h.0, follows (f + t.count) ts rest mid end h.1 k)

  all_append : (P : Transaction → Type 0) (xs ys : List Transaction) → All P xs → All P ys → All P (xs ++ ys)
  all_append P [] ys a b = b
  all_append P (x ∷ xs) ys a b = All-cons P x (xs ++ ys) (All-head P x xs a) (all_append P xs ys (All-tail P x xs a) b)

  pub apart_is_division : (cut : List Transaction) → IsCutApart limits us ms cut → IsDivision limits (us ++ ms) cut
  apart_is_division cut c =
      let e : length us + 0 ≡ length us = omega arith in
      let back = subst (λ n. FollowOn n (map (shifted (length us)) c.back) (length us + length ms)) e (follows_behind 0 c.back c.least_back.division.whole) in
      let whole = follows 0 c.front (map (shifted (length us)) c.back) (length us) (length us + length ms) c.least_front.division.whole back in
      let all = all_append (IsTransaction limits (us ++ ms)) c.front (map (shifted (length us)) c.back)
      (in_front 0 c.front c.least_front.division.whole c.least_front.division.transactions) (behind c.back c.least_back.division.transactions) in
      subst (IsDivision limits (us ++ ms)) (sym c.joined)
      (record { whole = subst (FollowOn 0 (c.front ++ map (shifted (length us)) c.back)) (sym (length-append us ms)) whole; transactions = all })

  pub apart_is_one : (cut other : List Transaction) → IsCutApart limits us ms cut → IsCutApart limits us ms other → cut ≡ other
  apart_is_one cut other a b =
      let front = least_is_one limits us a.front b.front a.least_front b.least_front in
      let back = least_is_one limits ms a.back b.back a.least_back b.least_back in
      cc (a.joined, b.joined, front, back)
