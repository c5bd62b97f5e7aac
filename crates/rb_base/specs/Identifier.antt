-- identifiers of chains, clients and paths (ICS 24, host requirements, for the characters; the lengths are our own: ICS 24 has 9 to 64 for clients)
use Rattle.std.specs.Prelude.{◌≡◌, ℕ, ◌-◌, ◌≤◌, ◌||◌, ◌==◌, IsTrue, List, ◌++◌, length, take, drop, replicate, All, codes}
use Rattle.std.specs.List.{list_any}
use Rattle.std.specs.Char.{is_ascii_alphanumeric}
use Rattle.std.proofs.Common.{arith, take-append-drop, length-take-le}

-- a letter, a digit, or one of . _ + - # [ ] < >
abbrev pub IsIdentifierByte : ℕ → Type 0
IsIdentifierByte b = IsTrue (is_ascii_alphanumeric b || list_any (λ c. c == b) (codes "._+-#[]<>"))

-- 1 to 64 such characters
abbrev pub IsIdentifier : List ℕ → Type 0
IsIdentifier text = (1 ≤ length text) × (length text ≤ 64) × All IsIdentifierByte text

-- an identifier is kept in 64 bytes, zeros after it: they are the text that they begin with, padded again
pub padded_back : (n : ℕ) (bytes : List ℕ) → n ≤ 64 → length bytes ≡ 64 → drop n bytes ≡ replicate (64 - n) 0
    → take n bytes ++ replicate (64 - length (take n bytes)) 0 ≡ bytes
padded_back n bytes h l e = rw (length-take-le n bytes (omega arith), ← e) (take-append-drop n bytes)
