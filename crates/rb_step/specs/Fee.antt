-- What a step costs, in fees or in gas (own choice).
use Rattle.std.specs.Prelude.{ℕ, ◌+◌, ◌^◌, List, Option, length}
use Rattle.std.specs.Option.{option_map_or}
use Rattle.rb_base.specs.Fee.{Fees, charge_of}
use Rattle.rb_base.specs.Options.{ClientOptions}
use Rattle.rb_valset.specs.Validator.{Member}
use Rattle.rb_book.specs.Book.{Book}
use Rattle.rb_step.specs.Carried.{carried_votes, least_votes}
use Rattle.rb_step.specs.KnownStep.{step_at}
use Rattle.rb_step.specs.StepRule.{Step}

-- the number of members, 0 where the set isn't known
abbrev pub size_of : Option (List Member) → ℕ
size_of set = option_map_or (λ s. length s) set 0

-- the charge for the votes that an update of the client carries, over the members of the header's own set and of the set
-- that the trusted record names
abbrev pub fee_of : ClientOptions → Fees → Step → ℕ
fee_of o fees s = charge_of fees (carried_votes o s.trusted_height s.next s.header s.own) (length s.own + size_of s.next)

-- the charge for the fewest votes that any update to the header carries
abbrev pub least_fee_of : ClientOptions → Fees → Step → ℕ
least_fee_of o fees s = charge_of fees (least_votes o s.header s.own) (length s.own + size_of s.next)

-- the fee for the step that a book knows, 0 where it knows none
abbrev pub fee_at : ClientOptions → Fees → Book → ℕ → ℕ → ℕ
fee_at o fees book trusted_height height = option_map_or (fee_of o fees) (step_at book trusted_height height) 0

-- every step costs less than this: what the limits of tables and of sets allow
abbrev pub fee_limit : ℕ
fee_limit = 2 ^ 45
