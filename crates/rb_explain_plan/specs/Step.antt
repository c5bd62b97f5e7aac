-- What is told of a step: the step rule's answer over the whole window, and what it goes by.
use Rattle.std.specs.Prelude.{◌≡◌, ℕ, ◌+◌, List, length, None, Option, MatchOption, IsSomeAnd}
use Rattle.rb_base.specs.Fraction.{two_thirds}
use Rattle.rb_base.specs.Options.{ClientOptions}
use Rattle.rb_base.specs.Window.{Span}
use Rattle.rb_valset.specs.Validator.{Member}
use Rattle.rb_valset.specs.ValidatorSet.{total_of}
use Rattle.rb_step.specs.Answer.{answer_within}
use Rattle.rb_step.specs.Carried.{carried_votes}
use Rattle.rb_step.specs.Fee.{fee_of, size_of}
use Rattle.rb_step.specs.KnownStep.{step_at}
use Rattle.rb_step.specs.SignedPower.{signed_power}
use Rattle.rb_step.specs.StepRule.{Step}
use Rattle.rb_step.specs.View.{View}
use Rattle.rb_explain_plan.specs.Power.{IsPower}
use Rattle.rb_explain_plan.specs.declared.power.Power.{Power}
use Rattle.rb_explain_plan.specs.declared.step.StepExplanation.{StepExplanation}

-- the power of the header's commit voters in the set that the trusted record names, which has to be more than the trust level
abbrev pub IsTrustedPower : ClientOptions → Step → List Member → Power → Type 0
IsTrustedPower o s named = IsPower (signed_power named s.own s.header) (total_of named) o.trust

-- their power in the header's own set, which has to be more than two thirds
abbrev pub IsOwnPower : Step → Power → Type 0
IsOwnPower s = IsPower (signed_power s.own s.own s.header) (total_of s.own) two_thirds

-- by a client's options, for a window, with what the step costs: the heights, the answer that the step rule gives for the whole
-- window, when the trusted record expires, the header's time, the powers, and what the fee is charged for
pub record IsToldBy (o : ClientOptions) (w : Span) (cost : ℕ) (s : Step) (x : StepExplanation) : Type 0 where
  pub trusted : x.trusted ≡ s.trusted_height
  pub height : x.height ≡ s.header.height
  pub answer : x.answer ≡ answer_within o w s
  pub expiry : x.expiry ≡ s.trusted.time + o.period
  pub time : x.time ≡ s.header.record_of.time
  pub trusted_power : MatchOption s.next (x.trusted_power ≡ None) (λ named. IsSomeAnd x.trusted_power (IsTrustedPower o s named))
  pub own_power : IsOwnPower s x.own_power
  pub fee : x.fee ≡ cost
  pub votes : x.votes ≡ carried_votes o s.trusted_height s.next s.header s.own
  pub validators : x.validators ≡ length s.own + size_of s.next

-- the same by what a client is
abbrev pub IsToldOf : View → Step → StepExplanation → Type 0
IsToldOf v s = IsToldBy v.options v.window (fee_of v.options v.fees s) s

-- a step is explained, where the book knows it
abbrev pub IsExplained : View → ℕ → ℕ → Option StepExplanation → Type 0
IsExplained v trusted height o = MatchOption o (step_at v.book trusted height ≡ None) (λ x. IsSomeAnd (step_at v.book trusted height) (λ s. IsToldOf v s x))
