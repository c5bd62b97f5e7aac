-- What a book accepts: its definition never names want of memory.
use Rattle.std.proofs.Common.{◌≡◌, ℕ, Bool, true, false, ◌&&◌, List, ◌∷◌, length, Option, Some, None, eqb, ltb, leb, refl, sym, ◌∙◌}
use Rattle.std.specs.List.{position}
use Rattle.std.specs.Option.{option_and_then}
use Rattle.std.proofs.lemmas.Option.{none-some}
use Rattle.rb_valset.specs.Validator.{Member}
use Rattle.rb_valset.specs.ValidatorSet.{set_hash, same_set}
use Rattle.rb_book.specs.Book.{Book, set_of, record_at, header_at, address_count, max_sets, max_addresses}
use Rattle.rb_book.specs.Header.{Record, Header, is_bad, same_record, same_header}
use Rattle.rb_book.specs.Intake.{unless, unless_none, breaker, set_refusal_beside, set_refusal, record_refusal_beside, record_refusal, header_refusal_beside, header_refusal_under, header_refusal}
use Rattle.rb_book.specs.declared.error.BookError.{BookError}
use Rattle.rb_book.specs.declared.error.BookError.TheVariants.{UnknownSet, WrongVerdictCount, BadVote, Conflict, TimeOrder, Full, HashClash, NoMemory}
use Rattle.rb_script_types.specs.Refusal.{of_book}

-- the refusal of a book is one of the relayer's
Named : Option BookError → Type 0
Named o = option_and_then of_book o ≡ None → o ≡ None

accepted_named : Named None
unfolding Named
accepted_named e = refl

named_unless : (passes : Bool) (r : BookError) (next : Option BookError) → Named (Some r) → Named next → Named (unless passes r next)
unfolding Named
named_unless true r next a b = b
named_unless false r next a b = a

named_unless_none : (o : Option ℕ) (f : ℕ → BookError) (next : Option BookError) → ((n : ℕ) → Named (Some (f n))) → Named next → Named (unless_none o f next)
unfolding Named
named_unless_none None f next a b = b
named_unless_none (Some n) f next a b = a n

unknown_set : Named (Some UnknownSet)
unfolding Named
unknown_set e = cc

wrong_count : Named (Some WrongVerdictCount)
unfolding Named
wrong_count e = cc

bad_vote : (n : ℕ) → Named (Some (BadVote n))
unfolding Named
bad_vote n e = cc

conflict : (n : ℕ) → Named (Some (Conflict n))
unfolding Named
conflict n e = cc

time_order : (n : ℕ) → Named (Some (TimeOrder n))
unfolding Named
time_order n e = cc

full : Named (Some Full)
unfolding Named
full e = cc

hash_clash : Named (Some HashClash)
unfolding Named
hash_clash e = cc

-- ---- sets, records and headers

set_beside : (o : Option (List Member)) (b : Book) (set : List Member) → Named (set_refusal_beside o b set)
set_beside (Some known) b set = named_unless (same_set known set) HashClash None hash_clash accepted_named
set_beside None b set = named_unless (ltb (length b.sets) max_sets && leb (address_count (set ∷ b.sets)) max_addresses) Full None full accepted_named

record_beside : (o : Option Record) (b : Book) (height : ℕ) (r : Record) → Named (record_refusal_beside o b height r)
record_beside (Some known) b height r = named_unless (same_record known r) (Conflict height) None (conflict height) accepted_named
record_beside None b height r =
    named_unless_none (breaker b.records height r.time) TimeOrder _ time_order (named_unless (ltb (length b.records) b.limit) Full None full accepted_named)

header_beside : (o : Option Header) (b : Book) (h : Header) → Named (header_refusal_beside o b h)
header_beside (Some known) b h = named_unless (same_header known h) (Conflict h.height) None (conflict h.height) accepted_named
header_beside None b h = record_beside (record_at b h.height) b h.height h.record_of

header_under : (o : Option (List Member)) (b : Book) (h : Header) → Named (header_refusal_under o b h)
header_under None b h = unknown_set
header_under (Some own) b h =
    named_unless (eqb (length h.votes) (length own)) WrongVerdictCount _ wrong_count
    (named_unless_none (position is_bad h.votes) BadVote _ bad_vote (header_beside (header_at b h.height) b h))

pub set_accepted : (b : Book) (set : List Member) → option_and_then of_book (set_refusal b set) ≡ None → set_refusal b set ≡ None
unfolding Named
set_accepted b set = set_beside (set_of b (set_hash set)) b set

pub record_accepted : (b : Book) (height : ℕ) (r : Record) → option_and_then of_book (record_refusal b height r) ≡ None → record_refusal b height r ≡ None
unfolding Named
record_accepted b height r = record_beside (record_at b height) b height r

pub header_accepted : (b : Book) (h : Header) → option_and_then of_book (header_refusal b h) ≡ None → header_refusal b h ≡ None
unfolding Named
header_accepted b h = header_under (set_of b h.set_hash) b h
