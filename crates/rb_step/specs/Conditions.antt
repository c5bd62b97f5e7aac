-- When a verifier gives each of its answers, in the words of each rule (ICS 7, update validity; CometBFT light client).
use Rattle.std.specs.Prelude.{◌≡◌, ◌≢◌, ℕ, ◌+◌, ◌<◌, ◌≤◌, None, IsSomeAnd}
use Rattle.rb_base.specs.Fraction.{Exceeds, two_thirds}
use Rattle.rb_base.specs.Options.{ClientOptions}
use Rattle.rb_base.specs.Window.{Span}
use Rattle.rb_valset.specs.ValidatorSet.{total_of}
use Rattle.rb_step.specs.Reasons.{number_of}
use Rattle.rb_step.specs.SignedPower.{signed_power}
use Rattle.rb_step.specs.StepRule.{Step, IsAdjacent}
use Rattle.rb_step.specs.declared.verdict.Verdict.{Verdict}
use Rattle.rb_step.specs.declared.verdict.Verdict.TheVariants.{Success, NotEnoughTrust, Invalid}
use Rattle.rb_step.specs.declared.verdict.Reason.TheVariants.{HeightOrder, Expired, TimeNotLater, FromFuture, TrustedSetUnknown, WrongNextSet, NotTwoThirds}

-- what an answer says of the step, in a window
abbrev pub Condition : Verdict → ClientOptions → Span → Step → Type 0
-- the header isn't higher than the trusted record (ICS 7)
Condition (Invalid HeightOrder) o w s = s.header.height ≤ s.trusted_height
-- the trusting period is over at the window's last moment (ICS 7; CometBFT light client, HeaderExpired)
Condition (Invalid Expired) o w s = s.trusted.time + o.period ≤ w.until
-- the header isn't later than the trusted record (ICS 7)
Condition (Invalid TimeNotLater) o w s = s.header.record_of.time ≤ s.trusted.time
-- the header is ahead of the window's first moment by the clock drift or more (ICS 7)
Condition (Invalid FromFuture) o w s = w.from + o.drift ≤ s.header.record_of.time
-- the set that the trusted record names isn't known (own choice)
Condition (Invalid TrustedSetUnknown) o w s = s.next ≡ None
-- the header is adjacent, and its own set has another hash than the trusted record gives (CometBFT, VerifyAdjacent)
Condition (Invalid WrongNextSet) o w s = IsAdjacent s × (s.header.set_hash ≢ s.trusted.next)
-- the header isn't adjacent, and its commit voters hold that much of the set that the trusted record names, which isn't
-- more than the trust level of that total (CometBFT, VerifyCommitLightTrusting)
Condition (NotEnoughTrust signed total) o w s =
    (¬ IsAdjacent s)
    × IsSomeAnd s.next (λ n. (signed ≡ signed_power n s.own s.header) × (total ≡ total_of n) × (¬ Exceeds signed total o.trust))
-- the commit voters hold no more than two thirds of the header's own set (CometBFT, VerifyCommitLight)
Condition (Invalid NotTwoThirds) o w s = ¬ Exceeds (signed_power s.own s.own s.header) (total_of s.own) two_thirds
-- success says nothing of its own: it comes last
Condition Success o w s = Unit {0}

-- When an answer's turn comes (own choice): the reasons' in the order of their numbers, and then that of success. Too
-- little trust has the turn of a wrong next set: of a header that isn't adjacent it is asked in its place.
abbrev pub turn_of : Verdict → ℕ
turn_of (Invalid reason) = number_of reason
turn_of (NotEnoughTrust signed total) = number_of WrongNextSet
turn_of Success = number_of NotTwoThirds + 1

-- the answer's condition holds, and that of no answer whose turn comes earlier does
abbrev pub Applies : Verdict → ClientOptions → Span → Step → Type 0
Applies answer o w s =
    Condition answer o w s × ((earlier : Verdict) → turn_of earlier < turn_of answer → ¬ Condition earlier o w s)
