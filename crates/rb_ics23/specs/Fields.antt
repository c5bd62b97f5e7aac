-- Fields of protocol buffers (Protocol Buffers, encoding) in the order of their tags, each at most once. An empty one is left out, as
-- nodes leave it out: what is read is then what each decoder reads.
use Rattle.std.specs.Prelude.{ℕ, ◌||◌, ◌==◌, nat_lt, if◌then◌else◌, List, [], ◌∷◌, length, take, drop, Option, Some, None, option_and_then}
use Rattle.rb_ics23.specs.Varint.{varint_at}

-- as many bytes as the number says, and what is behind them
abbrev pub split_by : ℕ × List ℕ → Option (List ℕ × List ℕ)
split_by read =
    if read.0 == 0 || nat_lt (length read.1) read.0 then None else Some (take read.0 read.1, drop read.0 read.1)

-- bytes behind their count
unfoldable pub part : List ℕ → Option (List ℕ × List ℕ)
part bytes = option_and_then split_by (varint_at 10 bytes)

-- the bytes of the field of this tag, none where it does not stand here, and what is behind it
unfoldable pub field : ℕ → List ℕ → Option (List ℕ × List ℕ)
field tag [] = Some ([], [])
field tag (b ∷ bytes) = if b == tag then part bytes else Some ([], b ∷ bytes)

abbrev pub not_zero : ℕ × List ℕ → Option (ℕ × List ℕ)
not_zero read = if read.0 == 0 then None else Some read

-- the same of a number, which is 0 where the field does not stand here
unfoldable pub number : ℕ → List ℕ → Option (ℕ × List ℕ)
number tag [] = Some (0, [])
number tag (b ∷ bytes) = if b == tag then option_and_then not_zero (varint_at 10 bytes) else Some (0, b ∷ bytes)
