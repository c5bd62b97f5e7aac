-- How far a cut has come after some messages: the transactions that are closed, and the last one, which takes
-- messages while there is room.
use Rattle.std.proofs.Common.{◌≡◌, ℕ, ◌+◌, ◌<◌, ◌≤◌, ◌⊎◌, zero, suc, List, [], ◌∷◌, ◌++◌, length, take, drop, sum, All, slice_index, inl, inr, refl, sym, ap, subst, ◌∙◌, arith}
use Rattle.std.proofs.lemmas.Bool.{cases_lt}
use Rattle.std.proofs.lemmas.List.Elements.{All-nil, All-push}
use Rattle.rb_batch.specs.declared.transaction.Transaction.{Transaction}
use Rattle.rb_batch.specs.Limits.{TransactionLimits, IsLimits, IsTooBig}
use Rattle.rb_batch.specs.Cut.{run_of, IsTransaction, FollowOn}
use Rattle.rb_batch.proofs.Runs.{sum-run_more, FollowOn-push}
use Rattle.rb_batch.proofs.Greedy.{IsFull, IsGreedy}

-- after `index` messages
pub record IsUnderWay (limits : TransactionLimits) (messages : List ℕ) (closed : List Transaction) (last : Transaction) (index : ℕ) : Type 0 where
  pub whole : FollowOn 0 closed last.first
  pub transactions : All (IsTransaction limits messages) closed
  pub full : All (IsFull limits messages) closed
  pub place : last.first + last.count ≡ index
  pub few : last.count ≤ limits.count
  pub gas : last.gas ≡ sum (run_of messages last) + limits.transaction_gas
  pub light : 0 < last.count → last.gas ≤ limits.gas

-- a transaction that carries nothing yet
abbrev pub empty_at : TransactionLimits → ℕ → Transaction
empty_at limits index = record { first = index; count = 0; gas = limits.transaction_gas }

abbrev pub with_message : Transaction → ℕ → Transaction
with_message t gas = record { first = t.first; count = t.count + 1; gas = t.gas + gas }

abbrev pub HasRoom : TransactionLimits → Transaction → ℕ → Type 0
HasRoom limits t gas = (t.count < limits.count) × (t.gas + gas ≤ limits.gas)

module _ (limits : TransactionLimits) (messages : List ℕ) where
  pub before_all : IsUnderWay limits messages [] (empty_at limits 0) 0
  before_all = record {
    whole = refl;
    transactions = All-nil (IsTransaction limits messages);
    full = All-nil (IsFull limits messages);
    place = refl;
    few = omega arith;
    gas = omega arith;
    light = λ h. absurd (omega (arith, h));
  }

  -- the gas of a last transaction that carries nothing is its own alone
  gas_of_none : (ts : List Transaction) (t : Transaction) (index : ℕ) → IsUnderWay limits messages ts t index → t.count ≡ 0 → t.gas ≡ limits.transaction_gas
  gas_of_none ts t index u e =
      let none : sum (run_of messages t) ≡ 0 = ap (λ n. sum (take n (drop t.first messages))) e in
      omega (arith, u.gas, none)

  -- a message more, for which there is room
  pub takes : (ts : List Transaction) (t : Transaction) (index gas : ℕ) → index < length messages → gas ≡ slice_index messages index
      → IsUnderWay limits messages ts t index → HasRoom limits t gas → IsUnderWay limits messages ts (with_message t gas) (index + 1)
  takes ts t index gas h is u room =
      let here : slice_index messages (t.first + t.count) ≡ gas = ap (slice_index messages) u.place ∙ sym is in
      record {
        whole = u.whole;
        transactions = u.transactions;
        full = u.full;
        place = omega (arith, u.place);
        few = omega (arith, room.0);
        gas = omega (arith, u.gas, here, sum-run_more messages t.first t.count (omega (arith, u.place)));
        light = λ _. room.1;
      }

  -- no room for a message that is not too big: the last transaction is closed, and an empty one has room
  pub closes : (ts : List Transaction) (t : Transaction) (index gas : ℕ) → gas ≡ slice_index messages index → IsLimits limits
      → IsUnderWay limits messages ts t index → (IsTooBig limits gas → ⊥) → (HasRoom limits t gas → ⊥)
      → IsUnderWay limits messages (ts ++ t ∷ []) (empty_at limits index) index × HasRoom limits (empty_at limits index) gas
  closes ts t index gas is l u small no_room = (
    record {
      whole = subst (FollowOn 0 (ts ++ t ∷ [])) u.place (FollowOn-push 0 ts t u.whole);
      transactions = All-push (IsTransaction limits messages) ts t u.transactions (record { some = some t.count refl; few = u.few; gas = u.gas; light = u.light (some t.count refl) });
      full = All-push (IsFull limits messages) ts t u.full (λ _. full (cases_lt t.count limits.count) (cases_lt limits.gas (t.gas + gas)));
      place = omega arith;
      few = omega arith;
      gas = omega arith;
      light = λ h. absurd (omega (arith, h));
    },
    (omega (arith, l.some), omega (arith, small)),
  )
    where
      some : (n : ℕ) → t.count ≡ n → 0 < t.count
      some zero e = absurd (no_room (omega (arith, e, l.some), omega (arith, small, gas_of_none ts t index u e)))
      some (suc n) e = omega (arith, e)

      here : slice_index messages (t.first + t.count) ≡ gas
      here = ap (slice_index messages) u.place ∙ sym is

      full : (t.count < limits.count) ⊎ (limits.count ≤ t.count) → (limits.gas < t.gas + gas) ⊎ (t.gas + gas ≤ limits.gas)
          → (limits.count ≤ t.count) ⊎ (limits.gas < t.gas + slice_index messages (t.first + t.count))
      full (inr many) q = inl many
      full (inl few) (inl heavy) = inr (omega (arith, heavy, here))
      full (inl few) (inr light) = absurd (no_room (few, light))

  -- after all messages, where the last transaction carries some of them
  pub greedy_with_last : (ts : List Transaction) (t : Transaction) (index : ℕ) → index ≡ length messages
      → IsUnderWay limits messages ts t index → 0 < t.count → IsGreedy limits messages (ts ++ t ∷ [])
  greedy_with_last ts t index all u some = record {
    division = record {
      whole = subst (FollowOn 0 (ts ++ t ∷ [])) (u.place ∙ all) (FollowOn-push 0 ts t u.whole);
      transactions = All-push (IsTransaction limits messages) ts t u.transactions (record { some = some; few = u.few; gas = u.gas; light = u.light some });
    };
    full = All-push (IsFull limits messages) ts t u.full (λ more. absurd (omega (arith, more, u.place)));
  }

  -- after all messages, where it carries none
  pub greedy_without_last : (ts : List Transaction) (t : Transaction) (index : ℕ) → index ≡ length messages
      → IsUnderWay limits messages ts t index → t.count ≡ 0 → IsGreedy limits messages ts
  greedy_without_last ts t index all u none = record {
    division = record { whole = subst (FollowOn 0 ts) (omega (arith, u.place, none)) u.whole; transactions = u.transactions };
    full = u.full;
  }
