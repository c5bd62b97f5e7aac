-- laws of cuts into transactions
use Rattle.std.specs.Prelude.{◌≡◌, ◌↔◌, ℕ, List, ◌++◌}
use Rattle.rb_batch.specs.declared.transaction.Transaction.{Transaction}
use Rattle.rb_batch.specs.Limits.{TransactionLimits, IsLimits}
use Rattle.rb_batch.specs.Cut.{IsDivision, IsLeastCut, IsCutApart, NoneIsTooBig}

-- two least cuts of the same messages are one
abbrev pub LeastCutIsOne : Type 0
LeastCutIsOne =
    (limits : TransactionLimits) (messages : List ℕ) (ts us : List Transaction)
    → IsLeastCut limits messages ts → IsLeastCut limits messages us → ts ≡ us

-- messages have a least cut exactly where none of them is over the gas limit alone
abbrev pub LeastCutExists : Type 0
LeastCutExists =
    (limits : TransactionLimits) (messages : List ℕ) → IsLimits limits
    → ((ts : List Transaction) × IsLeastCut limits messages ts) ↔ NoneIsTooBig limits messages

-- a cut apart is a division of all messages, one after another
abbrev pub CutApartIsDivision : Type 0
CutApartIsDivision = (limits : TransactionLimits) (us ms : List ℕ) (cut : List Transaction) → IsCutApart limits us ms cut → IsDivision limits (us ++ ms) cut

-- there is one such cut at most
abbrev pub CutApartIsOne : Type 0
CutApartIsOne =
    (limits : TransactionLimits) (us ms : List ℕ) (cut other : List Transaction) → IsCutApart limits us ms cut → IsCutApart limits us ms other → cut ≡ other
