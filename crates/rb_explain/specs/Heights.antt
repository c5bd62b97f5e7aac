-- The known heights of a chain.
use Rattle.std.specs.Prelude.{ℕ, Bool, true, false, List, [], map, position, Option}
use Rattle.std.specs.Option.{option_and_then}
use Rattle.rb_book.specs.Book.{Book, RecordAt, has_hash, header_at}
use Rattle.rb_book.specs.Header.{Header}
use Rattle.rb_explain.specs.declared.heights.KnownHeight.{KnownHeight}

-- the place of the set that signed the header of a height, where the book knows both
abbrev pub signed_by : Book → ℕ → Option ℕ
signed_by b height = option_and_then (λ (h : Header). position (has_hash h.set_hash) b.sets) (header_at b height)

abbrev pub known_height : Book → RecordAt → KnownHeight
known_height b k = record { height = k.height; set = signed_by b k.height }

-- each height of which the book has a record, rising; none where they aren't wanted
abbrev pub known_heights : Book → Bool → List KnownHeight
known_heights b true = map (known_height b) b.records
known_heights b false = []
