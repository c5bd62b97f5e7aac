-- Paths: keys joined by points, an element of an array as its number from 0 in brackets.
use Rattle.std.specs.Prelude.{ℕ, Bool, false, ◌==◌, ◌||◌, ◌&&◌, List, [], ◌∷◌, ◌++◌, if◌then◌else◌, encode_utf8, flat_map, length, nat_le, nat_lt, codes}
use Rattle.std.specs.Char.{is_control}
use Rattle.std.specs.Str.{chars}
use Rattle.std.specs.Fmt.{decimal, digits}
use Rattle.rb_script_toml.specs.declared.key_path.KeyPath.{KeyPath}

-- a key below a table
abbrev pub child : List ℕ → List ℕ → List ℕ
child [] key = key
child (b ∷ bs) key = (b ∷ bs) ++ 46 ∷ key

-- an element of an array
abbrev pub element : List ℕ → ℕ → List ℕ
element path i = path ++ 91 ∷ decimal i ++ 93 ∷ []

-- the element that some indices lead to
abbrev pub below : List ℕ → List ℕ → List ℕ
below path [] = path
below path (i ∷ is) = below (element path i) is

abbrev pub place_path : KeyPath → List ℕ
place_path p = child p.table.now p.key.now

abbrev pub is_in : ℕ → ℕ → ℕ → Bool
is_in first last c = nat_le first c && nat_le c last

-- a character that does something to a terminal: a control character, one that ends a line or a paragraph, or one that turns the direction of a
-- text (Unicode: Cc, Zl, Zp, Bidi_Control)
abbrev pub is_active : ℕ → Bool
is_active c = is_control c || (c == 1564) || is_in 8206 8207 c || is_in 8232 8238 c || is_in 8294 8297 c

-- a character as a message shows it: an active one as `\u{..}`, its number in hexadecimal digits
abbrev pub shown : ℕ → List ℕ
shown c = if is_active c then 92 ∷ 117 ∷ 123 ∷ digits 16 false c ++ 125 ∷ [] else encode_utf8 c

-- a key as a path shows it: quotes for an empty one, and of a key of more than 64 bytes its length
abbrev pub shown_key : List ℕ → List ℕ
shown_key [] = codes "\"\""
shown_key (b ∷ bs) =
    if nat_lt 64 (length (b ∷ bs)) then codes "<" ++ decimal (length (b ∷ bs)) ++ codes " bytes>"
    else flat_map shown (chars (b ∷ bs))
