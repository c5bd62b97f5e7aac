-- (internal) Marks of a header's commit voters, a bit each.
use Rattle.std.specs.Prelude.{◌≡◌, ℕ, ◌+◌, ◌*◌, true, List, slice_index}
use Rattle.rb_base.specs.Fraction.{Ratio, Exceeds}
use Rattle.rb_valset.specs.Validator.{Member, address_of}
use Rattle.rb_valset.specs.ValidatorSet.{total_of}
use Rattle.rb_book.specs.Header.{Header}
use Rattle.rb_step.specs.SignedPower.{commit_voters, is_among, signed_power}
use Rattle.rb_cert.specs.Places.{IsMarked}

-- the mark of an address, by its first two bytes
abbrev pub mark_of : List ℕ → ℕ
mark_of address = slice_index address 0 + 256 * slice_index address 1

-- a member whose address is that of a commit voter has a mark that is set
abbrev pub AreVoterMarks : List ℕ → List Member → Header → Type 0
AreVoterMarks words own h = (m : Member) → is_among (commit_voters own h) m ≡ true → IsMarked words (mark_of (address_of m.key))

-- the commit voters of each header that has these marks hold no more than this part of the set
abbrev pub RulesOut : List ℕ → Ratio → List Member → Type 0
RulesOut words trust set = (own : List Member) (h : Header) → AreVoterMarks words own h → ¬ Exceeds (signed_power set own h) (total_of set) trust
