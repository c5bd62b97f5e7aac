-- Messages have a least cut exactly where none of them is too big, and only one.
use Rattle.std.proofs.Common.{◌≡◌, ℕ, ◌+◌, ◌<◌, ◌≤◌, ◌⊎◌, zero, suc, List, [], ◌∷◌, ◌++◌, length, All, slice_index, inl, inr, refl, sym, ap, subst, ◌∙◌, add-one, arith}
use Rattle.std.proofs.lemmas.Bool.{cases_lt, cases_order}
use Rattle.std.proofs.lemmas.List.Elements.{All-head, All-tail, All-get_or, All-from_get_or}
use Rattle.rb_batch.specs.declared.transaction.Transaction.{Transaction}
use Rattle.rb_batch.specs.Limits.{TransactionLimits, IsLimits, IsTooBig}
use Rattle.rb_batch.specs.Cut.{IsTransaction, FollowOn, IsDivision, IsLongerFirst, IsLeastCut, NoneIsTooBig}
use Rattle.rb_batch.proofs.Runs.{sum-run_past}
use Rattle.rb_batch.proofs.Greedy.{IsGreedy, least_from_greedy}
use Rattle.rb_batch.proofs.UnderWay.{IsUnderWay, HasRoom, empty_at, with_message, before_all, takes, closes, greedy_with_last, greedy_without_last}

same_transaction : (t u : Transaction) → t.first ≡ u.first → t.count ≡ u.count → t.gas ≡ u.gas → t ≡ u
same_transaction t u p q r = λ i. record { first = p i; count = q i; gas = r i }

module _ (limits : TransactionLimits) (messages : List ℕ) where
  -- two divisions of as many runs, none of which is longer first, are one
  same_runs : (ts us : List Transaction) (f : ℕ) → length ts ≡ length us
      → FollowOn f ts (length messages) → All (IsTransaction limits messages) ts
      → FollowOn f us (length messages) → All (IsTransaction limits messages) us
      → (IsLongerFirst ts us → ⊥) → (IsLongerFirst us ts → ⊥) → ts ≡ us
  same_runs [] [] f e whole within whole' within' not_here not_there = refl
  same_runs [] (u ∷ us) f e whole within whole' within' not_here not_there = absurd (omega (arith, e))
  same_runs (t ∷ ts) [] f e whole within whole' within' not_here not_there = absurd (omega (arith, e))
  same_runs (t ∷ ts) (u ∷ us) f e whole within whole' within' not_here not_there =
      go (cases_order t.count u.count)
      (λ same.
      same_runs ts us (f + t.count) (omega (arith, e))
      whole.1 (All-tail (IsTransaction limits messages) t ts within)
      (subst (λ n. FollowOn (f + n) us (length messages)) (sym same) whole'.1) (All-tail (IsTransaction limits messages) u us within')
      (λ l. not_here (inr (same, l))) (λ l. not_there (inr (sym same, l))))
    where
      first : t.first ≡ u.first
      first = whole.0 ∙ sym whole'.0

      one : t.count ≡ u.count → t ≡ u
      one same =
          let w = All-head (IsTransaction limits messages) t ts within in
          let v = All-head (IsTransaction limits messages) u us within' in
          let gas : t.gas ≡ u.gas = cc (w.gas, v.gas, first, same) in
          same_transaction t u first same gas

      go : (t.count ≡ u.count) ⊎ ((t.count < u.count) ⊎ (u.count < t.count)) → (t.count ≡ u.count → ts ≡ us) → (t ∷ ts) ≡ (u ∷ us)
      go (inl same) rest = cc (one same, rest same)
      go (inr (inl shorter)) rest = absurd (not_there (inl shorter))
      go (inr (inr longer)) rest = absurd (not_here (inl longer))

  pub least_is_one : (ts us : List Transaction) → IsLeastCut limits messages ts → IsLeastCut limits messages us → ts ≡ us
  least_is_one ts us p q = go (cases_order (length ts) (length us))
    where
      go : (length ts ≡ length us) ⊎ ((length ts < length us) ⊎ (length us < length ts)) → ts ≡ us
      go (inl same) = same_runs ts us 0 same p.division.whole p.division.transactions q.division.whole q.division.transactions
          (λ l. q.least ts p.division (inr (same, l))) (λ l. p.least us q.division (inr (sym same, l)))
      go (inr (inl fewer)) = absurd (q.least ts p.division (inl fewer))
      go (inr (inr more)) = absurd (p.least us q.division (inl more))

  -- a message within a run of a division is not too big
  carried : (ts : List Transaction) (f : ℕ) → FollowOn f ts (length messages) → All (IsTransaction limits messages) ts
      → (k : ℕ) → f ≤ k → k < length messages → IsTooBig limits (slice_index messages k) → ⊥
  carried [] f whole within k low high big = omega (arith, whole)
  carried (t ∷ ts) f whole within k low high big =
      go (cases_lt k (f + t.count))
      (λ past. carried ts (f + t.count) whole.1 (All-tail (IsTransaction limits messages) t ts within) k past high big)
    where
      w : IsTransaction limits messages t
      w = All-head (IsTransaction limits messages) t ts within

      here : slice_index messages (k + 0) ≡ slice_index messages k
      here = ap (slice_index messages) (omega arith)

      go : (k < f + t.count) ⊎ (f + t.count ≤ k) → (f + t.count ≤ k → ⊥) → ⊥
      go (inl inside) later =
          omega (
            arith,
            w.gas,
            w.light,
            big,
            here,
            sum-run_past messages k 0 t.first t.count (omega (arith, whole.0)) (omega (arith, whole.0)) (omega arith),
          )
      go (inr past) later = later past

  pub none_from_division : (ts : List Transaction) → IsDivision limits messages ts → NoneIsTooBig limits messages
  none_from_division ts d =
      All-from_get_or (λ gas. IsTooBig limits gas → ⊥) messages 0 (λ k h. carried ts 0 d.whole d.transactions k (omega arith) h)

  -- a cut that has come so far
  abbrev UnderWayAt : ℕ → Type 0
  UnderWayAt index = (ts : List Transaction) × (t : Transaction) × IsUnderWay limits messages ts t index

  module _ (ok : IsLimits limits) (none : NoneIsTooBig limits messages) where
    -- one message more
    goes_on : (n : ℕ) → n < length messages → UnderWayAt n → UnderWayAt (suc n)
    goes_on n h (ts, t, u) = pick (cases_lt t.count limits.count) (cases_lt limits.gas (t.gas + slice_index messages n))
      where
        ready : (ts : List Transaction) (t : Transaction) → IsUnderWay limits messages ts t n → HasRoom limits t (slice_index messages n) → UnderWayAt (suc n)
        ready ts t u room = (
          ts,
          with_message t (slice_index messages n),
          subst (IsUnderWay limits messages ts (with_message t (slice_index messages n))) (add-one n)
              (takes limits messages ts t n (slice_index messages n) h refl u room),
        )

        close : (HasRoom limits t (slice_index messages n) → ⊥) → UnderWayAt (suc n)
        close no_room =
            let small = All-get_or (λ gas. IsTooBig limits gas → ⊥) messages n 0 h none in
            let next = closes limits messages ts t n (slice_index messages n) refl ok u small no_room in
            ready (ts ++ t ∷ []) (empty_at limits n) next.0 next.1

        pick : (t.count < limits.count) ⊎ (limits.count ≤ t.count)
            → (limits.gas < t.gas + slice_index messages n) ⊎ (t.gas + slice_index messages n ≤ limits.gas) → UnderWayAt (suc n)
        pick (inl few) (inr light) = ready ts t u (few, light)
        pick (inl few) (inl heavy) = close (λ room. omega (arith, room.1, heavy))
        pick (inr many) q = close (λ room. omega (arith, room.0, many))

    under_way : (n : ℕ) → n ≤ length messages → UnderWayAt n
    under_way zero h = ([], empty_at limits 0, before_all limits messages)
    under_way (suc n) h = goes_on n (omega arith) (under_way n (omega arith))

    pub least_exists : (ts : List Transaction) × IsLeastCut limits messages ts
    least_exists = least (under_way (length messages) (omega arith))
      where
        greedy : (ts : List Transaction) (t : Transaction) → IsUnderWay limits messages ts t (length messages) → (n : ℕ) → t.count ≡ n
            → (ts : List Transaction) × IsGreedy limits messages ts
        greedy ts t u zero e = (ts, greedy_without_last limits messages ts t (length messages) refl u e)
        greedy ts t u (suc n) e = (ts ++ t ∷ [], greedy_with_last limits messages ts t (length messages) refl u (omega (arith, e)))

        least : UnderWayAt (length messages) → (ts : List Transaction) × IsLeastCut limits messages ts
        least (ts, t, u) =
            let cut = greedy ts t u t.count refl in
            (cut.0, least_from_greedy limits messages cut.0 cut.1)
