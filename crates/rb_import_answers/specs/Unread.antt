-- What is wrong with bytes that are no JSON, as they begin and end (own choice; gzip: RFC 1952).
use Rattle.std.specs.Prelude.{ℕ, List, [], ◌∷◌, Bool, true, false, not, ◌==◌, ◌&&◌, if◌then◌else◌, Option, Some, None}
use Rattle.std.specs.Char.{is_ascii_whitespace}
use Rattle.rb_import_json.specs.declared.error.FieldErrorName.{FieldErrorName}
use Rattle.rb_import_json.specs.declared.error.FieldErrorName.TheVariants.{NotJson, Empty, ErrorPage, Compressed, CutShort}

-- the first byte that isn't white space
abbrev pub first_of : List ℕ → Option ℕ
first_of [] = None
first_of (b ∷ bs) = if is_ascii_whitespace b then first_of bs else Some b

-- the last byte that isn't white space, or what was before
abbrev pub last_of : Option ℕ → List ℕ → Option ℕ
last_of before [] = before
last_of before (b ∷ bs) = last_of (if is_ascii_whitespace b then before else Some b) bs

-- a byte that isn't this one, or none
abbrev pub is_other : ℕ → Option ℕ → Bool
is_other b (Some other) = not (other == b)
is_other b None = true

-- the end isn't that of an object, `}`
abbrev pub is_cut : List ℕ → Bool
is_cut bytes = is_other 125 (last_of None bytes)

-- gzip begins with 1f 8b
abbrev pub is_gzip : List ℕ → Bool
is_gzip [] = false
is_gzip (a ∷ []) = false
is_gzip (a ∷ b ∷ rest) = a == 31 && b == 139

-- `<` is 60 and begins a page in HTML, `{` is 123 and begins an object
abbrev pub by_first : Option ℕ → List ℕ → FieldErrorName
by_first None bytes = Empty
by_first (Some b) bytes =
    if b == 60 then ErrorPage
    else if b == 123 && is_cut bytes then CutShort
    else if is_gzip bytes then Compressed
    else NotJson

unfoldable pub unread : List ℕ → FieldErrorName
unread bytes = by_first (first_of bytes) bytes
