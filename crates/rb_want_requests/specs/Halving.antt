-- Laws of searches by halves.
use Rattle.std.specs.Prelude.{◌-◌, ◌/◌, ◌^◌, ◌≤◌, ◌⊎◌, ℕ, zero, suc}

-- A gap of this width between a height from which a search goes up and one to which it doesn't is closed by so many halvings, whichever
-- half is left by each: the middle, where there is one, stands half of the width above the floor.
abbrev pub IsClosedBy : ℕ → ℕ → Type 0
IsClosedBy zero width = width ≤ 1
IsClosedBy (suc k) width = (width ≤ 1) ⊎ (IsClosedBy k (width / 2) × IsClosedBy k (width - width / 2))

-- a gap of at most 2^k heights is closed by k halvings
abbrev pub HalvingIsShort : Type 0
HalvingIsShort = (k width : ℕ) → width ≤ 2 ^ k → IsClosedBy k width
