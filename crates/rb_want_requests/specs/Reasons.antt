-- The lines that say why something is asked for, or no more is.
use Rattle.std.specs.Prelude.{ℕ, ◌+◌, ◌*◌, ◌/◌, List, ◌++◌, codes, Option, Some, None}
use Rattle.std.specs.Fmt.{decimal}
use Rattle.rb_import_answers.specs.declared.client.TrustLevel.{TrustLevel}
use Rattle.rb_step.specs.Reasons.{name_of}
use Rattle.rb_step.specs.declared.verdict.Verdict.{Verdict}
use Rattle.rb_step.specs.declared.verdict.Verdict.TheVariants as verdicts
use Rattle.rb_want_requests.specs.declared.reason.End.{End}
use Rattle.rb_want_requests.specs.declared.reason.End.TheVariants as ends
use Rattle.rb_want_requests.specs.declared.reason.Missing.{Missing}
use Rattle.rb_want_requests.specs.declared.reason.Missing.TheVariants.{State, Records, LatestHeight}
use Rattle.rb_want_requests.specs.declared.reason.Refused.{Refused}
use Rattle.rb_want_requests.specs.declared.reason.SearchReason.{SearchReason}

-- the greatest power of so much in all that isn't enough for a trust level
abbrev pub needed_of : ℕ → TrustLevel → ℕ
needed_of total trust = total * trust.numerator / trust.denominator

-- why a height is refused from a trusted one, by what the step rule says of it where it was judged; else a set of these or the header isn't given
abbrev pub verdict_text : Option Verdict → ℕ → TrustLevel → List ℕ
verdict_text None trusted trust = codes " not judged: the node doesn't give its header, its validators or those of " ++ decimal (trusted + 1)
verdict_text (Some verdicts.Success) trusted trust = codes " accepted"
verdict_text (Some (verdicts.Invalid reason)) trusted trust = codes " refused (" ++ name_of reason ++ codes ")"
verdict_text (Some (verdicts.NotEnoughTrust signed total)) trusted trust =
    codes " refused (" ++ (decimal signed ++ (codes " of " ++ (decimal total ++ (codes " signed, more than " ++ (decimal (needed_of total trust) ++ codes " needed)")))))

-- a height that is refused, and why
abbrev pub refused_text : Refused → List ℕ
refused_text r = decimal r.height ++ verdict_text r.verdict r.trusted r.trust

-- the height that a reason has as refused
abbrev pub refused_of : ℕ → SearchReason → Refused
refused_of height w = record { height = height; trusted = w.trusted; verdict = w.verdict; trust = w.trust }

-- between which heights is searched
abbrev pub between_text : SearchReason → Option ℕ → Option ℕ → List ℕ
between_text w None None = codes "nothing judged yet"
between_text w (Some accepted) None = decimal accepted ++ codes " accepted"
between_text w None (Some refused) = refused_text (refused_of refused w)
between_text w (Some accepted) (Some refused) = decimal accepted ++ (codes " accepted, " ++ refused_text (refused_of refused w))

abbrev pub why_line : SearchReason → List ℕ
why_line w = codes "why " ++ (w.client ++ (codes " from " ++ (decimal w.trusted ++ (codes ": " ++ between_text w w.accepted w.refused))))

abbrev pub missing_text : Missing → List ℕ
missing_text State = codes "its state"
missing_text Records = codes "all of its consensus states"
missing_text LatestHeight = codes "the latest height of the chain that it tracks"

-- why nothing goes on
abbrev pub stuck_text : SearchReason → Option ℕ → List ℕ
stuck_text w (Some refused) = refused_text (refused_of refused w)
stuck_text w None = codes "no height is above it"

-- the client that an end is of, and why
abbrev pub client_of : End → List ℕ
client_of (ends.NotGiven client missing) = client
client_of (ends.NoRecord client) = client
client_of (ends.OtherClient client) = client
client_of (ends.BadOptions client) = client
client_of (ends.OtherNetwork client chain) = client
client_of (ends.GoalAhead client goal latest) = client
client_of (ends.Stuck why) = why.client

abbrev pub cause_text : End → List ℕ
cause_text (ends.NotGiven client missing) = codes "the node doesn't give " ++ missing_text missing
cause_text (ends.NoRecord client) = codes "it has stored no consensus state below the height that it should get to"
cause_text (ends.OtherClient client) = codes "it is frozen, or no Tendermint client"
cause_text (ends.BadOptions client) = codes "its trust level, period or drift is out of range"
cause_text (ends.OtherNetwork client chain) = codes "the node's status is not one of " ++ chain
cause_text (ends.GoalAhead client goal latest) =
    codes "its goal is " ++ (decimal goal ++ (codes ", and the votes of no height above " ++ (decimal latest ++ codes " are final")))
cause_text (ends.Stuck why) = codes "nothing goes on from " ++ (decimal why.trusted ++ (codes ": " ++ stuck_text why why.refused))

abbrev pub client_end_line : End → List ℕ
client_end_line e = codes "end " ++ (client_of e ++ (codes ": " ++ cause_text e))
