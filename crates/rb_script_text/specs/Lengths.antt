-- Lengths of time as texts, by the units of the SI and those that it accepts beside them (The SI Brochure, 9th edition: ns, s, min, h, d).
use Rattle.std.specs.Prelude.{ℕ, ◌/◌, ◌%◌, nat_le, nat_eq, List, ◌++◌, codes, if◌then◌else◌}
use Rattle.std.specs.Fmt.{decimal}

-- a number of one unit, and of a smaller one where that isn't 0
abbrev pub two_units : ℕ → List ℕ → ℕ → List ℕ → List ℕ
two_units first unit second smaller =
    if nat_eq second 0
    then decimal first ++ codes " " ++ unit
    else decimal first ++ codes " " ++ unit ++ codes " " ++ decimal second ++ codes " " ++ smaller

-- so many nanoseconds, by the two greatest units, or by the nanoseconds below a second
unfoldable pub length_text : ℕ → List ℕ
length_text n =
    let seconds = n / 1000000000 in
    if nat_le 86400 seconds
    then two_units (seconds / 86400) (codes "d") (seconds % 86400 / 3600) (codes "h")
    else if nat_le 3600 seconds
    then two_units (seconds / 3600) (codes "h") (seconds % 3600 / 60) (codes "min")
    else if nat_le 60 seconds
    then two_units (seconds / 60) (codes "min") (seconds % 60) (codes "s")
    else if nat_le 1 seconds
    then decimal seconds ++ codes " s"
    else decimal n ++ codes " ns"
