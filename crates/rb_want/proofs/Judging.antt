-- What is judged of a step by a verdict on it.
use Rattle.std.proofs.Common.{◌≡◌, ◌≢◌, ℕ, ◌+◌, ◌≤◌, ◌⊎◌, List, Some, None, inl, inr, refl, sym, subst, ◌∙◌, arith}
use Rattle.std.proofs.lemmas.Option.{none-some}
use Rattle.rb_base.specs.Options.{ClientOptions}
use Rattle.rb_base.specs.Window.{Span, IsWithin}
use Rattle.std.specs.Prelude.{◌↔◌, false}
use Rattle.std.specs.List.{list_any}
use Rattle.rb_valset.specs.ValidatorSet.{set_hash}
use Rattle.rb_want_requests.specs.Answered.{is_commit_of}
use Rattle.rb_book.specs.Header.{Record, Header, IsSignedBy, Names}
use Rattle.rb_valset.specs.Validator.{Member}
use Rattle.rb_step.specs.Answer.{answer_at}
use Rattle.rb_step.specs.Conditions.{Condition}
use Rattle.rb_step.specs.Laws.{AnswerApplies}
use Rattle.rb_step.specs.StepRule.{AcceptsWithin, Step, step_of}
use Rattle.rb_step.specs.declared.verdict.Reason.TheVariants.{Expired, TrustedSetUnknown}
use Rattle.rb_step.specs.declared.verdict.Verdict.{Verdict}
use Rattle.rb_step.specs.declared.verdict.Verdict.TheVariants.{Invalid, Success}
use Rattle.rb_import_answers.specs.declared.commit.SignedHeader.{SignedHeader}
use Rattle.rb_want_requests.specs.declared.judge.StepJudgement.{StepJudgement}
use Rattle.rb_want_requests.specs.declared.judge.StepJudgement.TheVariants.{Accepted, Refused, Never, Gone, Unknown}
use Rattle.rb_want.specs.declared.judged.Steps.{Steps}
use Rattle.rb_want.specs.Clients.{IsHeaderAt}
use Rattle.rb_want.specs.Judgements.{AreByRule, IsExpiring, IsRefusal, LacksStep, LacksTrust}
use Rattle.rb_want.specs.Waiting.{HasNoRecord, HasSet}
use Rattle.rb_want.specs.Steps.{HoldsWithin, IsRecordAt, IsVerdictOn, header_of, record_of}

-- the record of a header that is there
pub storing : (s : Steps) (height : ℕ) (h : SignedHeader) (r : Record)
    → IsHeaderAt s.chain.now.folder.now.contents.items height h → r ≡ record_of h → IsRecordAt s height r
storing s height h r there is = inr (h, there, is)

-- what a verifier answers at a moment of a window holds at one of them
pub holding : (law : AnswerApplies) (o : ClientOptions) (w : Span) (step : Step) (moment : ℕ) (v : Verdict)
    → IsWithin w moment → v ≡ answer_at o moment step → HoldsWithin o w step v
holding law o w step moment v inside is =
    let applies = (law o (record { from = moment; until = moment }) step v).0 (sym is) in
    (moment, inside, applies.0)

-- a verdict on the step between a record and a header that are there
pub verdict : (s : Steps) (trusted height : ℕ) (r : Record) (h : SignedHeader) (header : Header) (next own : List Member) (v : Verdict)
    → IsRecordAt s trusted r → Names r next → IsHeaderAt s.chain.now.folder.now.contents.items height h → header ≡ header_of h → IsSignedBy header own
    → ((v ≡ Success) ↔ AcceptsWithin s.options s.window (step_of trusted r (Some next) header own))
    → HoldsWithin s.options s.window (step_of trusted r (Some next) header own) v → IsVerdictOn s trusted height v
verdict s trusted height r h header next own v stored named there is signed rule holds =
    (step_of trusted r (Some next) header own, (refl, stored, (next, refl, named), (h, there, is), signed), rule, holds)

-- a verdict that no step from the trusted height is accepted: the record expires within the window
never : (s : Steps) (trusted height : ℕ) (v : Verdict) → IsVerdictOn s trusted height v → (v ≡ Invalid Expired) ⊎ (v ≡ Invalid TrustedSetUnknown)
    → IsExpiring s trusted ⊎ LacksTrust s trusted
never s trusted height v (step, at, rule, (moment, inside, holds)) (inl expired) =
    let over : step.trusted.time + s.options.period ≤ moment =
    subst (λ w. Condition w s.options (record { from = moment; until = moment }) step) expired holds in
    inl (step.trusted, at.1, omega (arith, over, inside.1))
never s trusted height v (step, at, rule, (moment, inside, holds)) (inr unknown) =
    let none : step.next ≡ None = subst (λ w. Condition w s.options (record { from = moment; until = moment }) step) unknown holds in
    absurd (none-some at.2.0 (sym none ∙ at.2.1))

-- a judgement that calls a step accepted only where the verdict is success, and refused only where it isn't
pub by_rule : (s : Steps) (trusted height : ℕ) (v : Verdict) (j : StepJudgement)
    → IsVerdictOn s trusted height v → (j ≡ Accepted → v ≡ Success) → (j ≡ Refused → IsRefusal v)
    → (j ≡ Never → (v ≡ Invalid Expired) ⊎ (v ≡ Invalid TrustedSetUnknown)) → (j ≢ Gone) × (j ≢ Unknown) → AreByRule s trusted height j
by_rule s trusted height v Accepted is accepted refused last decided = (is.0, is.1, is.2.0 (accepted refl))
by_rule s trusted height v Refused is accepted refused last decided = (v, is, refused refl)
by_rule s trusted height v Never is accepted refused last decided = never s trusted height v is (last refl)
by_rule s trusted height v Gone is accepted refused last decided = absurd (decided.0 refl)
by_rule s trusted height v Unknown is accepted refused last decided = absurd (decided.1 refl)

-- ---- what it takes to judge a step isn't there

pub no_record : (s : Steps) (trusted height : ℕ) → HasNoRecord s trusted → LacksStep s trusted height
unfolding LacksStep
no_record s trusted height none = inl none

pub no_next : (s : Steps) (trusted height : ℕ) (r : Record) (hash : List ℕ) → IsRecordAt s trusted r → hash ≡ r.next → (HasSet s hash → ⊥) → LacksStep s trusted height
unfolding LacksStep
no_next s trusted height r hash stored named denied = inr (inl (r, stored, subst (λ h. HasSet s h → ⊥) named denied))

pub no_header : (s : Steps) (trusted height : ℕ) → list_any (is_commit_of height) s.chain.now.folder.now.contents.items ≡ false → LacksStep s trusted height
unfolding LacksStep
no_header s trusted height none = inr (inr (inl none))

pub no_own : (s : Steps) (trusted height : ℕ) (h : SignedHeader) → IsHeaderAt s.chain.now.folder.now.contents.items height h → (HasSet s h.set → ⊥)
    → LacksStep s trusted height
unfolding LacksStep
no_own s trusted height h there denied = inr (inr (inr (h, there, inl denied)))

pub no_votes : (s : Steps) (trusted height : ℕ) (h : SignedHeader) (header : Header) (own : List Member)
    → IsHeaderAt s.chain.now.folder.now.contents.items height h → header ≡ header_of h → set_hash own ≡ h.set → (IsSignedBy header own → ⊥)
    → LacksStep s trusted height
unfolding LacksStep
no_votes s trusted height h header own there is named denied =
    inr (inr (inr (h, there, inr (own, named, subst (λ x. IsSignedBy x own → ⊥) is denied))))

pub ruleset lacking = (no_record, no_next, no_header, no_own, no_votes)
