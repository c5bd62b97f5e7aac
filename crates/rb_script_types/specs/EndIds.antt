-- The identifiers of ports and channels (ICS 24, host requirements: 2 to 128 characters of a port's and 8 to 64 of a channel's; own choice of 1 to
-- 128 for both).
use Rattle.std.specs.Prelude.{◌≡◌, ℕ, ◌-◌, ◌≤◌, List, ◌++◌, length, take, drop, replicate, All}
use Rattle.std.proofs.Common.{arith, take-append-drop, length-take-le}
use Rattle.rb_base.specs.Identifier.{IsIdentifierByte}

-- 1 to 128 characters of identifiers
abbrev pub IsEndId : List ℕ → Type 0
IsEndId text = (1 ≤ length text) × (length text ≤ 128) × All IsIdentifierByte text

-- an identifier is kept in 128 bytes, zeros after it: they are the text that they begin with, padded again
pub padded_back : (n : ℕ) (bytes : List ℕ) → n ≤ 128 → length bytes ≡ 128 → drop n bytes ≡ replicate (128 - n) 0
    → take n bytes ++ replicate (128 - length (take n bytes)) 0 ≡ bytes
padded_back n bytes h l e = rw (length-take-le n bytes (omega arith), ← e) (take-append-drop n bytes)
