-- Durations, as protocol buffers stand in JSON: decimal seconds with up to nine digits of a fraction, and an s.
use Rattle.std.specs.Prelude.{ℕ, ◌+◌, ◌-◌, ◌*◌, ◌^◌, ◌&&◌, ◌==◌, nat_le, nat_lt, if◌then◌else◌, Bool, List, [], ◌∷◌, length, Option, Some, None, option_map, option_and_then}
use Rattle.std.specs.List.{list_all, position_or_len, before_first, after_first}
use Rattle.rb_import_json.specs.Values.{number_of}

abbrev pub is_point : ℕ → Bool
is_point b = b == 46

-- what is below 2 ^ 64
abbrev pub fitting : ℕ → Option ℕ
fitting n = if nat_lt n (2 ^ 64) then Some n else None

-- the nanoseconds of whole seconds
unfoldable pub whole : List ℕ → Option ℕ
whole digits = option_and_then (λ seconds. fitting (seconds * 10 ^ 9)) (number_of digits)

abbrev pub is_decimal : ℕ → Bool
is_decimal c = nat_le 48 c && nat_le c 57

-- the nanoseconds of one in the last of so many places behind a point, which are nine at most
unfoldable pub unit_of : ℕ → Option ℕ
unit_of places = if nat_le places 9 then Some (10 ^ (9 - places)) else None

abbrev pub times : Option ℕ → Option ℕ → Option ℕ
times count unit = option_and_then (λ n. option_and_then (λ u. fitting (n * u)) unit) count

-- the nanoseconds of the digits behind a point, of which there may be none
unfoldable pub part : List ℕ → Option ℕ
part digits =
    if length digits == 0 then Some 0
    else if list_all is_decimal digits then times (number_of digits) (unit_of (length digits))
    else None

abbrev pub both : Option ℕ → Option ℕ → Option ℕ
both seconds fraction = option_and_then (λ s. option_and_then (λ f. fitting (s + f)) fraction) seconds

-- the nanoseconds of decimal seconds
unfoldable pub seconds_of : List ℕ → Option ℕ
seconds_of number = if nat_lt (position_or_len is_point number) (length number) then both (whole (before_first is_point number)) (part (after_first is_point number)) else whole number

-- the text before a last s
abbrev pub before_s : List ℕ → Option (List ℕ)
before_s [] = None
before_s (b ∷ []) = if b == 115 then Some [] else None
before_s (b ∷ c ∷ bs) = option_map (λ front. b ∷ front) (before_s (c ∷ bs))

-- the nanoseconds of a duration, where they are below 2 ^ 64
unfoldable pub nanoseconds_of : List ℕ → Option ℕ
nanoseconds_of text = option_and_then seconds_of (before_s text)
