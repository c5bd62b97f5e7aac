-- The revision number in a chain's identifier (ICS 2; ibc-go, `ParseChainID`): NAME-NUMBER.
use Rattle.std.specs.Prelude.{◌≡◌, ◌≢◌, ◌⊎◌, ℕ, ◌-◌, ◌^◌, ◌<◌, ◌≤◌, ◌==◌, List, [], ◌∷◌, length, slice_index, Option, Some, None, MatchOption, if◌then◌else◌}
use Rattle.std.specs.Str.Parse.{IsNumeral, digits_value}

abbrev pub after_byte : ℕ → List ℕ → Option (List ℕ × List ℕ) → Option (List ℕ × List ℕ)
after_byte b rest (Some p) = Some (b ∷ p.0, p.1)
after_byte b rest None = if b == 45 then Some ([], rest) else None

-- what stands before the last dash, and after it
abbrev pub at_last_dash : List ℕ → Option (List ℕ × List ℕ)
at_last_dash [] = None
at_last_dash (b ∷ bs) = after_byte b bs (at_last_dash bs)

-- not empty, and without a dash at its end
abbrev pub IsName : List ℕ → Type 0
IsName name = (0 < length name) × (slice_index name (length name - 1) ≢ 45)

-- decimal digits of a number below 2^64, the first of them from 1 to 9
abbrev pub IsNumber : List ℕ → Type 0
IsNumber digits = (49 ≤ slice_index digits 0) × (slice_index digits 0 ≤ 57) × IsNumeral 10 digits × (digits_value 10 digits < 2 ^ 64)

abbrev pub IsNumbered : List ℕ × List ℕ → Type 0
IsNumbered parts = IsName parts.0 × IsNumber parts.1

-- the number, or 0 where the identifier has none
abbrev pub IsRevision : List ℕ → ℕ → Type 0
IsRevision id n =
    MatchOption (at_last_dash id) (n ≡ 0)
    (λ parts. (IsNumbered parts × (n ≡ digits_value 10 parts.1)) ⊎ ((¬ IsNumbered parts) × (n ≡ 0)))
