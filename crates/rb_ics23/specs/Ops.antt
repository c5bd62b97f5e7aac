-- Operations (ICS 23, `proofs.proto`): the fields in their order, and nothing behind them.
use Rattle.std.specs.Prelude.{ℕ, ◌==◌, if◌then◌else◌, List, length, Option, Some, None}
use Rattle.rb_ics23.specs.declared.proof.HashOp.{HashOp}
use Rattle.rb_ics23.specs.declared.proof.HashOp.TheVariants.{NoHash, Sha256, Other}
use Rattle.rb_ics23.specs.declared.proof.LengthOp.{LengthOp}
use Rattle.rb_ics23.specs.declared.proof.LengthOp.TheVariants.{NoPrefix, VarProto, Other as OtherLength}
use Rattle.rb_ics23.specs.Proof.{Leaf, Inner}
use Rattle.rb_ics23.specs.Fields.{field, number}

infixl 10 ◌>>=◌
abbrev pub ◌>>=◌ : {A B : Type 0} → Option A → (A → Option B) → Option B
None >>= f = None
(Some x) >>= f = f x

-- the value, if nothing is left
abbrev pub ends : {A : Type 0} → List ℕ → A → Option A
ends rest x = if length rest == 0 then Some x else None

abbrev pub hash_op : ℕ → HashOp
hash_op n = if n == 0 then NoHash else (if n == 1 then Sha256 else Other)

abbrev pub length_op : ℕ → LengthOp
length_op n = if n == 0 then NoPrefix else (if n == 1 then VarProto else OtherLength)

unfoldable pub leaf_in : List ℕ → Option Leaf
leaf_in bytes = do
  hash ← number 0x08 bytes
  key ← number 0x10 hash.1
  value ← number 0x18 key.1
  size ← number 0x20 value.1
  front ← field 0x2a size.1
  ends front.1 (record { hash = hash_op hash.0; prehash_key = hash_op key.0; prehash_value = hash_op value.0; length = length_op size.0; prefix = front.0 })

unfoldable pub inner_in : List ℕ → Option Inner
inner_in bytes = do
  hash ← number 0x08 bytes
  front ← field 0x12 hash.1
  back ← field 0x1a front.1
  ends back.1 (record { hash = hash_op hash.0; prefix = front.0; suffix = back.0 })
