-- What a proof is made of (ICS 23, `proofs.proto`), without where it lies in memory.
use Rattle.std.specs.Prelude.{ℕ, List, map, Option, option_map}
use Rattle.rb_ics23.specs.declared.proof.HashOp.{HashOp}
use Rattle.rb_ics23.specs.declared.proof.LengthOp.{LengthOp}
use Rattle.rb_ics23.specs.declared.proof.LeafOp.{LeafOp as CodeLeaf}
use Rattle.rb_ics23.specs.declared.proof.InnerOp.{InnerOp as CodeInner}
use Rattle.rb_ics23.specs.declared.proof.ExistenceProof.{ExistenceProof as CodeExistence}
use Rattle.rb_ics23.specs.declared.proof.NonExistenceProof.{NonExistenceProof as CodeNonExistence}

pub record Leaf : Type 0 where
  pub hash : HashOp
  pub prehash_key : HashOp
  pub prehash_value : HashOp
  pub length : LengthOp
  pub prefix : List ℕ

pub record Inner : Type 0 where
  pub hash : HashOp
  pub prefix : List ℕ
  pub suffix : List ℕ

-- the path goes from the leaf to the root
pub record Existence : Type 0 where
  pub key : List ℕ
  pub value : List ℕ
  pub leaf : Leaf
  pub path : List Inner

-- the neighbours of the place where the key would stand
pub record NonExistence : Type 0 where
  pub left : Option Existence
  pub right : Option Existence

abbrev pub leaf_view : CodeLeaf → Leaf
leaf_view l = record {
  hash = l.hash;
  prehash_key = l.prehash_key;
  prehash_value = l.prehash_value;
  length = l.length;
  prefix = l.prefix.now;
}

abbrev pub inner_view : CodeInner → Inner
inner_view s = record { hash = s.hash; prefix = s.prefix.now; suffix = s.suffix.now }

abbrev pub existence_view : CodeExistence → Existence
existence_view p = record { key = p.key.now; value = p.value.now; leaf = leaf_view p.leaf; path = map inner_view p.path.now }

abbrev pub non_existence_view : CodeNonExistence → NonExistence
non_existence_view p = record { left = option_map existence_view p.left; right = option_map existence_view p.right }
