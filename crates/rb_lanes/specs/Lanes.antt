-- Powers by column, bits by column, and sums of the powers whose bit is set.
use Rattle.std.specs.Prelude.{◌≡◌, ◌++◌, [], ◌∷◌, drop, ℕ, ◌==◌, Bool, false, List, map, sum_by, slice_index_or, if◌then◌else◌}
use Rattle.std.specs.List.{zip, list_any}
use Rattle.std.specs.Str.{bytes_eq}

-- the most columns (own choice: as many as a book has different addresses), and the most that powers add up to (own
-- choice; CometBFT's `MaxTotalVotingPower`)
abbrev pub max_columns : ℕ
max_columns = 65536

abbrev pub max_total : ℕ
max_total = 1152921504606846975

-- the bits that bytes stand for: one that is 1 is set
abbrev pub bits_of : List ℕ → List Bool
bits_of bytes = map (λ byte. byte == 1) bytes

-- the sum of the powers in the columns that are below both lengths and whose bit is set
unfoldable pub masked_total : List ℕ → List Bool → ℕ
masked_total powers bits = sum_by (λ (p : ℕ × Bool). if p.1 then p.0 else 0) (zip powers bits)

-- the sum of the powers, each beside its column, whose column's bit is set; past the last column none is
unfoldable pub member_total : List (ℕ × ℕ) → List Bool → ℕ
member_total members bits = sum_by (λ (m : ℕ × ℕ). if slice_index_or bits m.0 false then m.1 else 0) members

-- powers by column, from a first column on, whose total is the members' under every plane
abbrev pub IsSpread : List ℕ → ℕ → List (ℕ × ℕ) → Type 0
IsSpread powers first members = (bits : List Bool) → masked_total powers (drop first bits) ≡ member_total members bits

-- the numbered addresses and one more, unless it is among them
abbrev pub with_address : List (List ℕ) → List ℕ → List (List ℕ)
with_address known address = if list_any (bytes_eq address) known then known else known ++ address ∷ []
