-- What a step table keeps of its book, from which rows and cells are read (own choice of form).
use Rattle.std.specs.Prelude.{ℕ, Bool, false, nat_lt, List, length, map, find, position, Option, Some, None, unwrap_or, [], if◌then◌else◌}
use Rattle.std.specs.Option.{option_map}
use Rattle.rb_base.specs.Fraction.{two_thirds}
use Rattle.rb_valset.specs.Validator.{Member}
use Rattle.rb_valset.specs.ValidatorSet.{total_of}
use Rattle.rb_book.specs.Header.{Header}
use Rattle.rb_book.specs.Book.{Book, RecordAt, height_of, has_hash, set_of}
use Rattle.rb_step.specs.SignedPower.{signed_power}
use Rattle.rb_step.specs.Answer.{exceeds}

-- the header's own set, which every book knows
abbrev pub own_set : Book → Header → List Member
own_set b h = unwrap_or (set_of b h.set_hash) []

-- the place of a record's next set among the book's sets
abbrev pub next_place : Book → RecordAt → Option ℕ
next_place b k = position (has_hash k.record_of.next) b.sets

abbrev pub next_places : Book → List (Option ℕ)
next_places b = map (next_place b) b.records

-- the height of the lowest known record that names a set as its next
abbrev pub first_naming : Book → List Member → Option ℕ
first_naming b set = option_map height_of (find (λ (k : RecordAt). has_hash k.record_of.next set) b.records)

-- whether there is such a height, and it is below another
abbrev pub is_lower : Option ℕ → ℕ → Bool
is_lower None height = false
is_lower (Some low) height = nat_lt low height

-- the signed power of a header in a set, where a lower record names the set
unfoldable pub stored_power : Book → Header → List Member → Option ℕ
stored_power b h set = if is_lower (first_naming b set) h.height then Some (signed_power set (own_set b h) h) else None

-- what is kept of a header: the number of members of its own set, whether that set signed, a signed power for each set
pub record StoredRow : Type 0 where
  pub size : ℕ
  pub is_signed : Bool
  pub signed : List (Option ℕ)

unfoldable pub stored_row_of : Book → Header → StoredRow
stored_row_of b h = record {
  size = length (own_set b h);
  is_signed = exceeds (signed_power (own_set b h) (own_set b h) h) (total_of (own_set b h)) two_thirds;
  signed = map (stored_power b h) b.sets;
}
