-- Proofs from their bytes (ICS 23, `proofs.proto`).
use Rattle.std.specs.Prelude.{ℕ, zero, suc, ◌==◌, if◌then◌else◌, List, [], ◌∷◌, length, map, Option, Some, None, option_map}
use Rattle.rb_ics23.specs.Proof.{Inner, Existence, NonExistence, leaf_view, inner_view}
use Rattle.rb_ics23.specs.declared.read.Existence.{Existence as ReadExistence}
use Rattle.rb_ics23.specs.declared.read.NonExistence.{NonExistence as ReadNonExistence}
use Rattle.rb_ics23.specs.Fields.{field}
use Rattle.rb_ics23.specs.Ops.{◌>>=◌, ends, leaf_in, inner_in}

abbrev pub existence_of : ReadExistence → Existence
existence_of p = record { key = p.key.now; value = p.value.now; leaf = leaf_view p.leaf; path = map inner_view p.path.items }

abbrev pub non_existence_of : ReadNonExistence → NonExistence
non_existence_of p = record { left = option_map existence_of p.left; right = option_map existence_of p.right }

abbrev pub step_in : List ℕ → Option Inner
step_in bytes = if length bytes == 0 then None else inner_in bytes

-- the step whose field begins here, and what is behind it
unfoldable pub step_at : List ℕ → Option (Inner × List ℕ)
step_at bytes = do
  text ← field 0x22 bytes
  step ← step_in text.0
  Some (step, text.1)

-- at most so many steps, up to the end
unfoldable pub path_in : ℕ → List ℕ → Option (List Inner)
path_in most [] = Some []
path_in zero (b ∷ bytes) = None
path_in (suc most) (b ∷ bytes) = do
  step ← step_at (b ∷ bytes)
  steps ← path_in most step.1
  Some (step.0 ∷ steps)

unfoldable pub existence_in : List ℕ → Option Existence
existence_in bytes = do
  key ← field 0x0a bytes
  value ← field 0x12 key.1
  text ← field 0x1a value.1
  leaf ← leaf_in text.0
  path ← path_in 128 text.1
  Some (record { key = key.0; value = value.0; leaf = leaf; path = path })

-- no bytes are no neighbour
unfoldable pub side_in : List ℕ → Option (Option Existence)
side_in bytes = if length bytes == 0 then Some None else option_map (λ p. Some p) (existence_in bytes)

-- the key that stands before them is not read, as the client does not read it
unfoldable pub sides_in : List ℕ → Option NonExistence
sides_in bytes = do
  key ← field 0x0a bytes
  left ← field 0x12 key.1
  right ← field 0x1a left.1
  last ← ends right.1 right.0
  l ← side_in left.0
  r ← side_in last
  Some (record { left = l; right = r })

-- a commitment proof is one field: neither a batch nor a compressed one is read
unfoldable pub existence : List ℕ → Option Existence
existence bytes = do
  text ← field 0x0a bytes
  proof ← ends text.1 text.0
  existence_in proof

unfoldable pub non_existence : List ℕ → Option NonExistence
non_existence bytes = do
  text ← field 0x12 bytes
  proof ← ends text.1 text.0
  sides_in proof
