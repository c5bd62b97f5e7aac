-- A cut that closes a transaction only where the next message does not fit is the least cut.
use Rattle.std.proofs.Common.{ℕ, ◌+◌, ◌<◌, ◌≤◌, ◌⊎◌, List, [], ◌∷◌, length, All, slice_index, inl, inr, subst, arith}
use Rattle.std.proofs.lemmas.Bool.{cases_lt}
use Rattle.std.proofs.lemmas.List.Elements.{All-head, All-tail}
use Rattle.rb_batch.specs.declared.transaction.Transaction.{Transaction}
use Rattle.rb_batch.specs.Limits.{TransactionLimits}
use Rattle.rb_batch.specs.Cut.{IsTransaction, FollowOn, IsDivision, IsLongerFirst, PrecedesCut, IsLeastCut}
use Rattle.rb_batch.proofs.Runs.{sum-run_past, FollowOn-le}

-- no room for the message after a transaction, if there is one
abbrev pub IsFull : TransactionLimits → List ℕ → Transaction → Type 0
IsFull limits messages t =
    t.first + t.count < length messages
    → (limits.count ≤ t.count) ⊎ (limits.gas < t.gas + slice_index messages (t.first + t.count))

pub record IsGreedy (limits : TransactionLimits) (messages : List ℕ) (ts : List Transaction) : Type 0 where
  pub division : IsDivision limits messages ts
  pub full : All (IsFull limits messages) ts

module _ (limits : TransactionLimits) (messages : List ℕ) where
  -- a full transaction goes at least as far as one that starts no later
  full_reaches : (t u : Transaction) → IsTransaction limits messages t → IsFull limits messages t → IsTransaction limits messages u
      → u.first ≤ t.first → u.first + u.count ≤ length messages → u.first + u.count ≤ t.first + t.count
  full_reaches t u w full v before inside = go (cases_lt (t.first + t.count) (u.first + u.count))
    where
      over : t.first + t.count < u.first + u.count → (limits.count ≤ t.count) ⊎ (limits.gas < t.gas + slice_index messages (t.first + t.count)) → u.first + u.count ≤ t.first + t.count
      over past (inl many) = omega (arith, v.few)
      over past (inr heavy) =
          absurd (omega (arith, w.gas, v.gas, v.light, sum-run_past messages t.first t.count u.first u.count before past (omega arith)))

      go : (t.first + t.count < u.first + u.count) ⊎ (u.first + u.count ≤ t.first + t.count) → u.first + u.count ≤ t.first + t.count
      go (inl past) = over past (full (omega arith))
      go (inr h) = h

  -- no division that starts no later has fewer transactions
  no_fewer : (ts us : List Transaction) (f g : ℕ) → g ≤ f
      → FollowOn f ts (length messages) → All (IsTransaction limits messages) ts → All (IsFull limits messages) ts
      → FollowOn g us (length messages) → All (IsTransaction limits messages) us → length ts ≤ length us
  no_fewer [] us f g before whole within full whole' within' = omega arith
  no_fewer (t ∷ ts) [] f g before whole within full whole' within' =
      let w = All-head (IsTransaction limits messages) t ts within in
      absurd (omega (arith, w.some, whole', FollowOn-le (f + t.count) ts (length messages) whole.1))
  no_fewer (t ∷ ts) (u ∷ us) f g before whole within full whole' within' =
      let w = All-head (IsTransaction limits messages) t ts within in
      let v = All-head (IsTransaction limits messages) u us within' in
      let inside : u.first + u.count ≤ length messages =
      omega (arith, whole'.0, FollowOn-le (g + u.count) us (length messages) whole'.1) in
      let far : u.first + u.count ≤ t.first + t.count =
      full_reaches t u w (All-head (IsFull limits messages) t ts full) v (omega (arith, whole.0, whole'.0)) inside in
      let rest =
      no_fewer ts us (f + t.count) (g + u.count) (omega (arith, far, whole.0, whole'.0))
      whole.1 (All-tail (IsTransaction limits messages) t ts within) (All-tail (IsFull limits messages) t ts full)
      whole'.1 (All-tail (IsTransaction limits messages) u us within') in
      omega (arith, rest)

  -- no division that starts at the same message has a longer first transaction, or then a longer second one
  not_longer : (ts us : List Transaction) (f : ℕ)
      → FollowOn f ts (length messages) → All (IsTransaction limits messages) ts → All (IsFull limits messages) ts
      → FollowOn f us (length messages) → All (IsTransaction limits messages) us → IsLongerFirst us ts → ⊥
  not_longer ts [] f whole within full whole' within' longer = longer
  not_longer [] (u ∷ us) f whole within full whole' within' longer = longer
  not_longer (t ∷ ts) (u ∷ us) f whole within full whole' within' (inl longer) =
      let w = All-head (IsTransaction limits messages) t ts within in
      let v = All-head (IsTransaction limits messages) u us within' in
      let inside : u.first + u.count ≤ length messages =
      omega (arith, whole'.0, FollowOn-le (f + u.count) us (length messages) whole'.1) in
      let far : u.first + u.count ≤ t.first + t.count =
      full_reaches t u w (All-head (IsFull limits messages) t ts full) v (omega (arith, whole.0, whole'.0)) inside in
      omega (arith, far, longer, whole.0, whole'.0)
  not_longer (t ∷ ts) (u ∷ us) f whole within full whole' within' (inr (same, longer)) =
      let whole_us : FollowOn (f + t.count) us (length messages) =
      subst (λ n. FollowOn (f + n) us (length messages)) same whole'.1 in
      not_longer ts us (f + t.count)
      whole.1 (All-tail (IsTransaction limits messages) t ts within) (All-tail (IsFull limits messages) t ts full)
      whole_us (All-tail (IsTransaction limits messages) u us within') longer

  pub least_from_greedy : (ts : List Transaction) → IsGreedy limits messages ts → IsLeastCut limits messages ts
  least_from_greedy ts greedy = record { division = greedy.division; least = least }
    where
      least : (us : List Transaction) → IsDivision limits messages us → PrecedesCut us ts → ⊥
      least us d (inl fewer) =
          let no : length ts ≤ length us =
          no_fewer ts us 0 0 (omega arith) greedy.division.whole greedy.division.transactions greedy.full d.whole d.transactions in
          omega (arith, fewer, no)
      least us d (inr (same, longer)) =
          not_longer ts us 0 greedy.division.whole greedy.division.transactions greedy.full d.whole d.transactions longer
