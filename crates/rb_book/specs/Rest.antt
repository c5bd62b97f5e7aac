-- What is left of a light store where all below a height is forgotten.
use Rattle.std.specs.Prelude.{ℕ, nat_le, Bool, not, ◌||◌, List, filter}
use Rattle.std.specs.List.{list_any}
use Rattle.std.specs.Str.{bytes_eq}
use Rattle.rb_valset.specs.Validator.{Member}
use Rattle.rb_valset.specs.ValidatorSet.{set_hash}
use Rattle.rb_book.specs.Header.{Header}
use Rattle.rb_book.specs.Book.{Book, RecordAt, height_of, header_height}

-- whether a record, or a header, is at a height or above it
abbrev pub is_from : ℕ → RecordAt → Bool
is_from m k = nat_le m (height_of k)

abbrev pub header_is_from : ℕ → Header → Bool
header_is_from m h = nat_le m (header_height h)

-- whether a record names the hash as that of the next set, or a header as that of its own
abbrev pub is_in_records : List RecordAt → List ℕ → Bool
is_in_records records hash = list_any (λ (k : RecordAt). bytes_eq k.record_of.next hash) records

abbrev pub is_in_headers : List Header → List ℕ → Bool
is_in_headers headers hash = list_any (λ (h : Header). bytes_eq h.set_hash hash) headers

abbrev pub is_named : List RecordAt → List Header → List ℕ → Bool
is_named records headers hash = is_in_records records hash || is_in_headers headers hash

-- whether one at the height or above it does, or one below
abbrev pub is_named_from : ℕ → List RecordAt → List Header → List ℕ → Bool
is_named_from m records headers hash = is_named (filter (is_from m) records) (filter (header_is_from m) headers) hash

abbrev pub is_named_below : ℕ → List RecordAt → List Header → List ℕ → Bool
is_named_below m records headers hash = is_named (filter (λ k. not (is_from m k)) records) (filter (λ h. not (header_is_from m h)) headers) hash

-- a set goes if something that goes names it, and nothing that is left does: one that nothing names yet stays
abbrev pub is_left : ℕ → List RecordAt → List Header → List Member → Bool
is_left m records headers set = is_named_from m records headers (set_hash set) || not (is_named_below m records headers (set_hash set))

abbrev pub rest_of_book : ℕ → Book → Book
rest_of_book m b = record b {
  sets = filter (is_left m b.records b.headers) b.sets;
  records = filter (is_from m) b.records;
  headers = filter (header_is_from m) b.headers;
}
