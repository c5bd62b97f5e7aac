-- Fields of protocol buffers (Protocol Buffers, encoding), each with the byte that stands before it; empty ones are left out.
use Rattle.std.specs.Prelude.{◌≡◌, ℕ, ◌+◌, ◌/◌, ◌%◌, ◌^◌, ◌<◌, ◌≤◌, ◌==◌, if◌then◌else◌, List, [], ◌∷◌, ◌++◌, length}
use Rattle.rb_valset.specs.Validator.{varint_within}

-- the base-128 varint of a number below 2 ^ 64
unfoldable pub varint : ℕ → List ℕ
varint n = varint_within 9 n

-- varints as the standard states them: seven bits a byte, the low ones first, and 128 added to each but the last
pub record IsVarint (text : ℕ → List ℕ) : Type 0 where
  pub last : (n : ℕ) → n < 128 → text n ≡ n ∷ []
  pub more : (n : ℕ) → 128 ≤ n → n < 2 ^ 64 → text n ≡ (n % 128 + 128) ∷ text (n / 128)

unfoldable pub number_field : ℕ → ℕ → List ℕ
number_field tag n = if n == 0 then [] else tag ∷ varint n

-- bytes behind their count
unfoldable pub counted : ℕ → List ℕ → List ℕ
counted tag bytes = tag ∷ varint (length bytes) ++ bytes

unfoldable pub bytes_field : ℕ → List ℕ → List ℕ
bytes_field tag bytes = if length bytes == 0 then [] else counted tag bytes
