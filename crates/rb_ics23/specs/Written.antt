-- A commitment proof as a node writes it (ICS 23, `proofs.proto`; Protocol Buffers, encoding): the fields in their order, no empty one.
use Rattle.std.specs.Prelude.{◌≡◌, ℕ, ◌^◌, ◌<◌, ◌≤◌, List, [], ◌∷◌, ◌++◌, length, Option, Some, None}
use Rattle.rb_ics23.specs.declared.proof.HashOp.TheVariants.{NoHash, Sha256}
use Rattle.rb_ics23.specs.declared.proof.LengthOp.TheVariants.{VarProto}
use Rattle.rb_ics23.specs.Proof.{Inner, Existence, NonExistence}
use Rattle.rb_ics23.specs.Varint.{varint}
use Rattle.rb_ics23.specs.Read.{existence, non_existence}

unfoldable pub field_text : ℕ → List ℕ → List ℕ
field_text tag [] = []
field_text tag (b ∷ bytes) = tag ∷ varint (length (b ∷ bytes)) ++ b ∷ bytes

-- SHA-256, the value hashed by it, varint lengths
unfoldable pub leaf_text : List ℕ → List ℕ
leaf_text prefix = 0x08 ∷ 1 ∷ 0x18 ∷ 1 ∷ 0x20 ∷ 1 ∷ field_text 0x2a prefix

unfoldable pub inner_text : List ℕ → List ℕ → List ℕ
inner_text prefix suffix = 0x08 ∷ 1 ∷ (field_text 0x12 prefix ++ field_text 0x1a suffix)

unfoldable pub path_text : List Inner → List ℕ
path_text [] = []
path_text (step ∷ steps) = field_text 0x22 (inner_text step.prefix step.suffix) ++ path_text steps

unfoldable pub existence_text : Existence → List ℕ
existence_text p =
    field_text 0x0a p.key ++ (field_text 0x12 p.value ++ (field_text 0x1a (leaf_text p.leaf.prefix) ++ path_text p.path))

-- fields of lengths that have a varint
abbrev pub IsShort : List ℕ → Type 0
IsShort bytes = length bytes < 2 ^ 64

abbrev pub AreShort : List Inner → Type 0
AreShort [] = Unit {0}
AreShort (step ∷ steps) =
    (step.hash ≡ Sha256) × IsShort step.prefix × IsShort step.suffix × IsShort (inner_text step.prefix step.suffix) × AreShort steps

-- a proof by the operations of the specs
pub record IsPlain (p : Existence) : Type 0 where
  pub leaf : p.leaf ≡ record { hash = Sha256; prehash_key = NoHash; prehash_value = Sha256; length = VarProto; prefix = p.leaf.prefix }
  pub key : IsShort p.key
  pub value : IsShort p.value
  pub prefix : IsShort p.leaf.prefix
  pub leaf_short : IsShort (leaf_text p.leaf.prefix)
  pub path : AreShort p.path
  pub steps : length p.path ≤ 128
  pub whole : IsShort (existence_text p)

abbrev pub IsExistenceReadAgain : Type 0
IsExistenceReadAgain = (p : Existence) → IsPlain p → existence (field_text 0x0a (existence_text p)) ≡ Some p

abbrev pub side_text : Option Existence → List ℕ
side_text None = []
side_text (Some p) = existence_text p

unfoldable pub absence_text : List ℕ → NonExistence → List ℕ
absence_text key p = field_text 0x0a key ++ (field_text 0x12 (side_text p.left) ++ field_text 0x1a (side_text p.right))

abbrev pub IsPlainSide : Option Existence → Type 0
IsPlainSide None = Unit {0}
IsPlainSide (Some p) = IsPlain p

abbrev pub IsAbsenceReadAgain : Type 0
IsAbsenceReadAgain =
    (key : List ℕ) (p : NonExistence) → IsShort key → IsPlainSide p.left → IsPlainSide p.right
    → IsShort (absence_text key p) → non_existence (field_text 0x12 (absence_text key p)) ≡ Some p
