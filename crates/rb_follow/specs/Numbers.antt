-- Numbers of documents (own choice): the first line of one may be `turn = 17`, where 17 is the number of the turn that it is to be.
use Rattle.std.specs.Prelude.{ℕ, Bool, true, false, ◌&&◌, ◌||◌, ◌==◌, nat_le, List, [], ◌∷◌, ◌++◌, codes, take, drop, length, Option, Some, None, if◌then◌else◌}
use Rattle.std.specs.Fmt.{decimal}
use Rattle.std.specs.Str.{bytes_eq}

-- what a document with this number begins with
abbrev pub number_text : ℕ → List ℕ
number_text n = codes "turn = " ++ decimal n

abbrev pub begins_with : List ℕ → List ℕ → Bool
begins_with beginning bytes = bytes_eq beginning (take (length beginning) bytes)

abbrev pub is_digit_first : List ℕ → Bool
is_digit_first [] = false
is_digit_first (b ∷ bs) = nat_le 48 b && nat_le b 57

-- behind a number the line ends, or a blank stands
abbrev pub is_number_over : List ℕ → Bool
is_number_over [] = true
is_number_over (b ∷ bs) = (b == 10) || (b == 13) || (b == 32)

-- whether a document begins with a number, whichever it is
abbrev pub has_number : List ℕ → Bool
has_number bytes = begins_with (codes "turn = ") bytes && is_digit_first (drop 7 bytes)

-- whether a document begins with a number, and what stands behind it, where the document is to begin so; none where it begins with another
abbrev pub numbered : List ℕ → List ℕ → Option (Bool × List ℕ)
numbered due bytes =
    if has_number bytes
    then (if begins_with due bytes && is_number_over (drop (length due) bytes) then Some (true, drop (length due) bytes) else None)
    else Some (false, bytes)
