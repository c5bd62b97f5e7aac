-- The parts of a journal (own choice): each ends by a line with its digest and a line `# ---`. In journals of the first form no part has a digest.
use Rattle.std.specs.Prelude.{◌≡◌, ℕ, ◌+◌, ◌-◌, ◌==◌, Bool, true, false, ◌&&◌, nat_le, List, [], ◌∷◌, ◌++◌, codes, length, take, drop, All, Option, Some, None, if◌then◌else◌}
use Rattle.std.specs.List.{concat}
use Rattle.std.specs.Str.{bytes_eq}
use Rattle.hex.specs.Hex.{encode_lower}
use Rattle.sha2.specs.Sha256.{sha256}

-- the line that a journal begins with, with digests and without: a comment of TOML
abbrev pub heading : Bool → List ℕ
heading true = codes "# ibcplan journal 2\n"
heading false = codes "# ibcplan journal\n"

-- the line that a turn begins with, which is empty, and the line that ends each part

abbrev pub gap : List ℕ
gap = codes "\n"

abbrev pub mark : List ℕ
mark = codes "# ---\n"

-- what stands behind a part's table, after these bytes of the part: their digest (FIPS 180-4) and the mark, or the mark alone
abbrev pub closing : Bool → List ℕ → List ℕ
closing true bytes = codes "# " ++ encode_lower (sha256 bytes) ++ codes "\n# ---\n"
closing false bytes = mark

abbrev pub closing_length : Bool → ℕ
closing_length true = 73
closing_length false = 6

-- the digest that a part ends with is that of the bytes before
abbrev pub digest_holds : List ℕ → Bool
digest_holds part =
    bytes_eq (drop (length part - closing_length true) part) (closing true (take (length part - closing_length true) part))

-- all of a part but the mark and the end of the line before, in place of which so many other bytes stand
abbrev pub lost_mark : List ℕ → Bool
lost_mark bytes = nat_le 7 (length bytes) && digest_holds (take (length bytes - 7) bytes ++ codes "\n# ---\n")

-- how many bytes were read when the first line ends that is the mark, after so many bytes of which these are in the last line
abbrev pub end_from : ℕ → List ℕ → List ℕ → Option ℕ
end_from count line [] = None
end_from count line (b ∷ bs) =
    if b == 10 then (if bytes_eq (line ++ b ∷ []) mark then Some (count + 1) else end_from (count + 1) [] bs)
    else end_from (count + 1) (line ++ b ∷ []) bs

-- how many bytes the first part has, with the line that ends it, if it is whole
unfoldable pub part_end : List ℕ → Option ℕ
part_end bytes = end_from 0 [] bytes

-- these bytes are one part, with the line that ends it
abbrev pub IsWhole : List ℕ → Type 0
IsWhole part = part_end part ≡ Some (length part)

-- these are the parts that are whole, and this stands behind the last of them
pub record HasParts (bytes : List ℕ) (parts : List (List ℕ)) (rest : List ℕ) : Type 0 where
  pub split : bytes ≡ concat parts ++ rest
  pub whole : All IsWhole parts
  pub cut : part_end rest ≡ None

-- the part before the setup in a journal that was begun anew: the state that it goes on from, for which TOML has one string
abbrev pub state_lines : List ℕ → List ℕ
state_lines state = codes "# ibcplan journal 3\nstate = '''\n" ++ (state ++ codes "'''\n")

abbrev pub state_part : List ℕ → List ℕ
state_part state = state_lines state ++ closing true (state_lines state)

-- a text whose last line has ended
abbrev pub EndsLine : List ℕ → Type 0
EndsLine bytes = (before : List ℕ) × (bytes ≡ before ++ codes "\n")
