-- A light store's refusals are never for want of memory.
use Rattle.std.proofs.Common.{ℕ, ◌==◌, ◌&&◌, nat_lt, nat_le, Bool, true, false, List, ◌∷◌, length, Option, Some, None}
use Rattle.std.specs.List.{position}
use Rattle.rb_valset.specs.Validator.{Member}
use Rattle.rb_valset.specs.ValidatorSet.{set_hash, same_set}
use Rattle.rb_book.specs.declared.error.BookError.{BookError}
use Rattle.rb_book.specs.declared.error.BookError.TheVariants.{UnknownSet, WrongVerdictCount, BadVote, Conflict, TimeOrder, Full, HashClash, NoMemory}
use Rattle.rb_book.specs.Header.{Record, Header, is_bad, same_record, same_header}
use Rattle.rb_book.specs.Book.{Book, set_of, record_at, header_at, address_count, max_sets, max_addresses}
use Rattle.rb_book.specs.Intake.{unless, unless_none, breaker, set_refusal_beside, set_refusal, record_refusal_beside, record_refusal, header_refusal_beside, header_refusal_under, header_refusal}

abbrev pub IsNamed : Option BookError → Type 0
IsNamed None = Unit {0}
IsNamed (Some UnknownSet) = Unit {0}
IsNamed (Some WrongVerdictCount) = Unit {0}
IsNamed (Some (BadVote index)) = Unit {0}
IsNamed (Some (Conflict height)) = Unit {0}
IsNamed (Some (TimeOrder height)) = Unit {0}
IsNamed (Some Full) = Unit {0}
IsNamed (Some HashClash) = Unit {0}
IsNamed (Some NoMemory) = ⊥

by_test : (p : Bool) (e : BookError) (next : Option BookError) → IsNamed (Some e) → IsNamed next → IsNamed (unless p e next)
by_test true e next a b = b
by_test false e next a b = a

by_number : (o : Option ℕ) (f : ℕ → BookError) (next : Option BookError) → ((n : ℕ) → IsNamed (Some (f n))) → IsNamed next → IsNamed (unless_none o f next)
by_number None f next a b = b
by_number (Some n) f next a b = a n

set_beside : (o : Option (List Member)) (b : Book) (set : List Member) → IsNamed (set_refusal_beside o b set)
set_beside (Some known) b set = by_test (same_set known set) HashClash None tt tt
set_beside None b set = by_test (nat_lt (length b.sets) max_sets && nat_le (address_count (set ∷ b.sets)) max_addresses) Full None tt tt

pub set_named : (b : Book) (set : List Member) → IsNamed (set_refusal b set)
set_named b set = set_beside (set_of b (set_hash set)) b set

record_beside : (o : Option Record) (b : Book) (height : ℕ) (r : Record) → IsNamed (record_refusal_beside o b height r)
record_beside (Some known) b height r = by_test (same_record known r) (Conflict height) None tt tt
record_beside None b height r =
    by_number (breaker b.records height r.time) TimeOrder (unless (nat_lt (length b.records) b.limit) Full None) (λ n. tt) (by_test (nat_lt (length b.records) b.limit) Full None tt tt)

pub record_named : (b : Book) (height : ℕ) (r : Record) → IsNamed (record_refusal b height r)
record_named b height r = record_beside (record_at b height) b height r

header_beside : (o : Option Header) (b : Book) (h : Header) → IsNamed (header_refusal_beside o b h)
header_beside (Some known) b h = by_test (same_header known h) (Conflict h.height) None tt tt
header_beside None b h = record_named b h.height h.record_of

header_under : (o : Option (List Member)) (b : Book) (h : Header) → IsNamed (header_refusal_under o b h)
header_under None b h = tt
header_under (Some own) b h =
    by_test (length h.votes == length own) WrongVerdictCount (unless_none (position is_bad h.votes) BadVote (header_refusal_beside (header_at b h.height) b h)) tt
    (by_number (position is_bad h.votes) BadVote (header_refusal_beside (header_at b h.height) b h) (λ n. tt) (header_beside (header_at b h.height) b h))

pub header_named : (b : Book) (h : Header) → IsNamed (header_refusal b h)
header_named b h = header_under (set_of b h.set_hash) b h
