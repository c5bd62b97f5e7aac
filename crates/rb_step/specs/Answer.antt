-- What a verifier answers to a step: success, or the first check that fails (own choice: the order).
use Rattle.std.specs.Prelude.{ℕ, ◌+◌, ◌*◌, ◌==◌, Bool, nat_lt, List, Option, Some, None, if◌then◌else◌}
use Rattle.std.specs.Str.{bytes_eq}
use Rattle.rb_base.specs.Fraction.{Ratio, two_thirds}
use Rattle.rb_base.specs.Options.{ClientOptions}
use Rattle.rb_base.specs.Window.{Span}
use Rattle.rb_valset.specs.Validator.{Member}
use Rattle.rb_valset.specs.ValidatorSet.{total_of}
use Rattle.rb_book.specs.Header.{Record, Header}
use Rattle.rb_step.specs.SignedPower.{signed_power}
use Rattle.rb_step.specs.StepRule.{Step}
use Rattle.rb_step.specs.declared.verdict.Verdict.{Verdict}
use Rattle.rb_step.specs.declared.verdict.Verdict.TheVariants.{Success, NotEnoughTrust, Invalid}
use Rattle.rb_step.specs.declared.verdict.Reason.{Reason}
use Rattle.rb_step.specs.declared.verdict.Reason.TheVariants.{HeightOrder, Expired, TimeNotLater, FromFuture, TrustedSetUnknown, WrongNextSet, NotTwoThirds}

abbrev pub exceeds : ℕ → ℕ → Ratio → Bool
exceeds power total r = nat_lt (total * r.numerator) (power * r.denominator)

-- the failure where the check doesn't pass, else what the rest answers
abbrev pub check : Bool → Verdict → Verdict → Verdict
check passes failure rest = if passes then rest else failure

-- 505 to 507: what the votes say, by the set that the trusted record names
abbrev pub votes_answer : ClientOptions → Step → Option (List Member) → Verdict
votes_answer o s None = Invalid TrustedSetUnknown
votes_answer o s (Some n) =
    let own = check (exceeds (signed_power s.own s.own s.header) (total_of s.own) two_thirds) (Invalid NotTwoThirds) Success in
    let signed = signed_power n s.own s.header in
    if s.header.height == s.trusted_height + 1
    then check (bytes_eq s.header.set_hash s.trusted.next) (Invalid WrongNextSet) own
    else check (exceeds signed (total_of n) o.trust) (NotEnoughTrust signed (total_of n)) own

-- the reason where the test doesn't pass, else what the rest answers
abbrev pub test : Bool → Reason → Option Reason → Option Reason
test passes reason rest = if passes then rest else Some reason

-- 501 to 504: what heights and times say in a window, expiry by its last moment and the future by its first
abbrev pub times_fault_between : ClientOptions → Span → ℕ → Record → Header → Option Reason
times_fault_between o w trusted_height trusted header =
    test (nat_lt trusted_height header.height) HeightOrder (
    test (nat_lt w.until (trusted.time + o.period)) Expired (
    test (nat_lt trusted.time header.record_of.time) TimeNotLater (
    test (nat_lt header.record_of.time (w.from + o.drift)) FromFuture None)))

abbrev pub times_fault : ClientOptions → Span → Step → Option Reason
times_fault o w s = times_fault_between o w s.trusted_height s.trusted s.header

-- whether the header's own set is trusted on the record's word: the set is the one that the record names, where the header
-- is adjacent, and else that much power of that total in the named set is more than the trust level
abbrev pub is_trusted : ClientOptions → ℕ → Record → Header → ℕ → ℕ → Bool
is_trusted o trusted_height trusted header signed total =
    if header.height == trusted_height + 1 then bytes_eq header.set_hash trusted.next else exceeds signed total o.trust

abbrev pub invalid_or : Option Reason → Verdict → Verdict
invalid_or None rest = rest
invalid_or (Some reason) rest = Invalid reason

abbrev pub answer_within : ClientOptions → Span → Step → Verdict
answer_within o w s = invalid_or (times_fault o w s) (votes_answer o s s.next)

abbrev pub answer_at : ClientOptions → ℕ → Step → Verdict
answer_at o moment s = answer_within o (record { from = moment; until = moment }) s
