-- The least cut of messages into transactions (own choice). A message is its gas alone, and messages are
-- numbered from 0.
use Rattle.std.specs.Prelude.{◌≡◌, ℕ, ◌+◌, ◌<◌, ◌≤◌, ◌⊎◌, List, [], ◌∷◌, ◌++◌, length, map, take, drop, sum, All, slice_index}
use Rattle.rb_batch.specs.declared.transaction.Transaction.{Transaction}
use Rattle.rb_batch.specs.Limits.{TransactionLimits, IsTooBig}

-- the run of messages that a transaction carries
abbrev pub run_of : List ℕ → Transaction → List ℕ
run_of messages t = take t.count (drop t.first messages)

-- a transaction carries some messages, its gas is theirs and its own, and it is within both limits
pub record IsTransaction (limits : TransactionLimits) (messages : List ℕ) (t : Transaction) : Type 0 where
  pub some : 0 < t.count
  pub few : t.count ≤ limits.count
  pub gas : t.gas ≡ sum (run_of messages t) + limits.transaction_gas
  pub light : t.gas ≤ limits.gas

-- the runs follow one another from the message with number `first` up to number `end`, which is left out
abbrev pub FollowOn : ℕ → List Transaction → ℕ → Type 0
FollowOn first [] end = first ≡ end
FollowOn first (t ∷ ts) end = (t.first ≡ first) × FollowOn (first + t.count) ts end

-- a division of all messages into consecutive nonempty runs within the limits
pub record IsDivision (limits : TransactionLimits) (messages : List ℕ) (cut : List Transaction) : Type 0 where
  pub whole : FollowOn 0 cut (length messages)
  pub transactions : All (IsTransaction limits messages) cut

-- the first run that is not as long as the one beside it is longer
abbrev pub IsLongerFirst : List Transaction → List Transaction → Type 0
IsLongerFirst [] us = ⊥
IsLongerFirst (t ∷ ts) [] = ⊥
IsLongerFirst (t ∷ ts) (u ∷ us) = (u.count < t.count) ⊎ ((t.count ≡ u.count) × IsLongerFirst ts us)

-- fewer runs; or as many, and the first run is longer, or where they are as long the second, and so on
abbrev pub PrecedesCut : List Transaction → List Transaction → Type 0
PrecedesCut cut other = (length cut < length other) ⊎ ((length cut ≡ length other) × IsLongerFirst cut other)

-- the division that no other one precedes
pub record IsLeastCut (limits : TransactionLimits) (messages : List ℕ) (cut : List Transaction) : Type 0 where
  pub division : IsDivision limits messages cut
  pub least : (other : List Transaction) → IsDivision limits messages other → ¬ PrecedesCut other cut

-- no message is over the gas limit alone
abbrev pub NoneIsTooBig : TransactionLimits → List ℕ → Type 0
NoneIsTooBig limits messages = All (λ gas. ¬ IsTooBig limits gas) messages

-- the message with this number is over the gas limit alone, and none before it is
pub record IsFirstTooBig (limits : TransactionLimits) (messages : List ℕ) (index : ℕ) : Type 0 where
  pub place : index < length messages
  pub too_big : IsTooBig limits (slice_index messages index)
  pub first : (k : ℕ) → k < index → ¬ IsTooBig limits (slice_index messages k)

-- a transaction that stands so many messages further on
abbrev pub shifted : ℕ → Transaction → Transaction
shifted count t = record t { first = count + t.first }

-- the least cut of some messages, then that of others: no transaction carries messages of both
pub record IsCutApart (limits : TransactionLimits) (us ms : List ℕ) (cut : List Transaction) : Type 0 where
  pub front : List Transaction
  pub back : List Transaction
  pub least_front : IsLeastCut limits us front
  pub least_back : IsLeastCut limits ms back
  pub joined : cut ≡ front ++ map (shifted (length us)) back
