-- Laws of the step rule and of the light client.
use Rattle.std.specs.Prelude.{◌≡◌, ◌↔◌, ℕ, ◌*◌, ◌≤◌, List, IfSome, length}
use Rattle.rb_base.specs.Fee.{Fees}
use Rattle.rb_base.specs.Options.{ClientOptions}
use Rattle.rb_base.specs.Window.{Span}
use Rattle.rb_valset.specs.ValidatorSet.{IsValidatorSet}
use Rattle.rb_step.specs.Answer.{answer_within}
use Rattle.rb_votes.specs.declared.voter.Voter.{Voter}
use Rattle.rb_votes.specs.Votes.{IsPart}
use Rattle.rb_votes.specs.Laws.{OneDecides}
use Rattle.rb_step.specs.Carried.{voters_of, needed_of, needed_voters, only_votes}
use Rattle.rb_step.specs.Conditions.{Applies}
use Rattle.rb_step.specs.Fee.{fee_of, least_fee_of}
use Rattle.rb_step.specs.LightClient.{Update, IsAcceptable, IsOrderly}
use Rattle.rb_step.specs.Machine.{IsAllowedThroughout}
use Rattle.rb_step.specs.StepRule.{Step, Accepts, AcceptsWithin}
use Rattle.rb_step.specs.View.{View, IsView, client_of}
use Rattle.rb_step.specs.declared.verdict.Verdict.{Verdict}
use Rattle.rb_step.specs.declared.verdict.Verdict.TheVariants.{Success}

-- a step is accepted at every moment of a window exactly where it is accepted at the first and at the last
abbrev pub WindowIsByEnds : Type 0
WindowIsByEnds =
    (o : ClientOptions) (w : Span) (s : Step) → w.from ≤ w.until → AcceptsWithin o w s ↔ (Accepts o w.from s × Accepts o w.until s)

-- the answer for a window is success exactly where the step is accepted at every moment of it
abbrev pub SuccessIsAcceptance : Type 0
SuccessIsAcceptance =
    (o : ClientOptions) (w : Span) (s : Step) → w.from ≤ w.until → (answer_within o w s ≡ Success) ↔ AcceptsWithin o w s

-- the answer for a window is the one that applies: the first in turn whose condition holds
abbrev pub AnswerApplies : Type 0
AnswerApplies =
    (o : ClientOptions) (w : Span) (s : Step) (answer : Verdict) → (answer_within o w s ≡ answer) ↔ Applies answer o w s

-- updates are allowed whatever moments of the window they come at exactly where each in turn trusts a stored height
-- and its step is accepted at every moment of the window
abbrev pub WindowIsByStep : Type 0
WindowIsByStep = (v : View) → IsView v → (us : List Update) → IsAllowedThroughout v us ↔ IsAcceptable (client_of v) us

-- steps rise, only live heights are trusted, a stored step is live, and fees are small
abbrev pub ViewsAreOrderly : Type 0
ViewsAreOrderly = (v : View) → IsView v → IsOrderly (client_of v)

-- with the needed votes alone a header is accepted wherever it is with all of them
abbrev pub NeededIsAccepted : Type 0
NeededIsAccepted =
    (o : ClientOptions) (moment : ℕ) (s : Step) → IsValidatorSet s.own → IfSome s.next IsValidatorSet
    → Accepts o moment s → Accepts o moment (record s { header = only_votes (needed_voters o s.trusted_height s.next s.header s.own) s.header })

-- of the votes with which it is accepted they are the fewest where one test decides alone, and at most twice as many as any
abbrev pub NeededAreFewest : Type 0
NeededAreFewest =
    (o : ClientOptions) (moment : ℕ) (s : Step) (voters : List Voter) → IsValidatorSet s.own → IfSome s.next IsValidatorSet
    → IsPart voters (voters_of s.next s.header s.own) → Accepts o moment (record s { header = only_votes voters s.header })
    → (length (needed_voters o s.trusted_height s.next s.header s.own) ≤ 2 * length voters)
    × (OneDecides (needed_of o s.trusted_height s.next s.header s.own) (voters_of s.next s.header s.own)
    → length (needed_voters o s.trusted_height s.next s.header s.own) ≤ length voters)

-- no step to a header costs less than the fewest votes that any update to it carries
abbrev pub LeastFeeIsLeast : Type 0
LeastFeeIsLeast = (o : ClientOptions) (fees : Fees) (s : Step) → IsValidatorSet s.own → least_fee_of o fees s ≤ fee_of o fees s
