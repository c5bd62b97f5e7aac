-- When a client accepts a header on the word of a record that it trusts (ICS 7, update validity; CometBFT light client).
use Rattle.std.specs.Prelude.{◌≡◌, ℕ, ◌+◌, ◌<◌, List, Option, IsSome, IfSome}
use Rattle.rb_base.specs.Fraction.{Exceeds, two_thirds}
use Rattle.rb_base.specs.Options.{ClientOptions}
use Rattle.rb_base.specs.Window.{Span, IsWithin}
use Rattle.rb_valset.specs.Validator.{Member}
use Rattle.rb_valset.specs.ValidatorSet.{total_of}
use Rattle.rb_book.specs.Header.{Record, Header}
use Rattle.rb_step.specs.SignedPower.{signed_power}

-- From the record that is trusted, at its height, to a header: next is the set whose hash the record gives for
-- the next block, where it is known, and own is the header's own set.
pub record Step : Type 0 where
  pub trusted_height : ℕ
  pub trusted : Record
  pub next : Option (List Member)
  pub header : Header
  pub own : List Member

abbrev pub step_of : ℕ → Record → Option (List Member) → Header → List Member → Step
step_of trusted_height trusted next header own =
    record { trusted_height = trusted_height; trusted = trusted; next = next; header = header; own = own }

abbrev pub IsAdjacent : Step → Type 0
IsAdjacent s = s.header.height ≡ s.trusted_height + 1

-- the step is accepted at a moment
pub record Accepts (o : ClientOptions) (moment : ℕ) (s : Step) : Type 0 where
  pub higher : s.trusted_height < s.header.height
  pub not_expired : moment < s.trusted.time + o.period
  pub later : s.trusted.time < s.header.record_of.time
  pub not_from_future : s.header.record_of.time < moment + o.drift
  -- own: an update carries this set (ibc-go, TrustedValidators)
  pub next_known : IsSome s.next
  pub follows : IsAdjacent s → s.header.set_hash ≡ s.trusted.next
  pub trusted_signed : ¬ IsAdjacent s → IfSome s.next (λ n. Exceeds (signed_power n s.own s.header) (total_of n) o.trust)
  pub own_signed : Exceeds (signed_power s.own s.own s.header) (total_of s.own) two_thirds

-- at every moment of a window
abbrev pub AcceptsWithin : ClientOptions → Span → Step → Type 0
AcceptsWithin o w s = (moment : ℕ) → IsWithin w moment → Accepts o moment s
