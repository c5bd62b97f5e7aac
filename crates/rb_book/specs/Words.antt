-- (internal) How hashes, records and headers are compared.
use Rattle.std.specs.Prelude.{ℕ, ◌+◌, ◌==◌, ◌&&◌, Bool, List, [], ◌∷◌, get_or}
use Rattle.std.specs.Cmp.Lexicographic.{pointwise}
use Rattle.std.specs.Int.{w64, from_le_bytes}
use Rattle.std.specs.Str.{bytes_eq}
use Rattle.rb_book.specs.Header.{Header, same_vote}

-- the eight bytes from a place on
abbrev pub eight_from : List ℕ → ℕ → List ℕ
eight_from bytes place =
    get_or bytes place 0 ∷ get_or bytes (place + 1) 0 ∷ get_or bytes (place + 2) 0 ∷ get_or bytes (place + 3) 0
    ∷ get_or bytes (place + 4) 0 ∷ get_or bytes (place + 5) 0 ∷ get_or bytes (place + 6) 0 ∷ get_or bytes (place + 7) 0 ∷ []

abbrev pub word_at : List ℕ → ℕ → ℕ
word_at bytes place = from_le_bytes w64 (eight_from bytes place)

-- whether two headers are equal but for their records
abbrev pub same_signing : Header → Header → Bool
same_signing h k = (h.height == k.height) && bytes_eq h.set_hash k.set_hash && pointwise same_vote h.votes k.votes
