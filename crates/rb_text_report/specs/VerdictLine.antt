-- The line of a verdict (own choice): it ends with one LF, its numbers are plain decimals.
use Rattle.std.specs.Prelude.{ℕ, Bool, true, false, List, [], ◌++◌, codes}
use Rattle.std.specs.Fmt.{decimal}
use Rattle.rb_cert.specs.Reasons.{number_of, name_of}
use Rattle.rb_cert.specs.declared.verdict.Reason.{Reason}
use Rattle.rb_cert.specs.declared.verdict.Reason.TheVariants.{SourceLabel, LabelTooHigh, PlanNotAccepted, PlanNotTight, NotTheTie, GoalLabelled, GoalMissed}
use Rattle.rb_cert.specs.declared.verdict.Judgement.{Judgement}
use Rattle.rb_cert.specs.declared.verdict.Judgement.TheVariants.{Yes, No}

-- the numbers of a reason, each after a blank
abbrev pub numbers_text : Reason → List ℕ
numbers_text (SourceLabel h) = codes " " ++ decimal h
numbers_text (LabelTooHigh t h) = codes " " ++ decimal t ++ codes " " ++ decimal h
numbers_text (PlanNotAccepted i) = codes " " ++ decimal i
numbers_text (PlanNotTight i) = codes " " ++ decimal i
numbers_text (NotTheTie i) = codes " " ++ decimal i
numbers_text (GoalLabelled h) = codes " " ++ decimal h
numbers_text GoalMissed = []

abbrev pub verdict_line : Judgement → List ℕ
verdict_line Yes = codes "yes\n"
verdict_line (No reason) = codes "no " ++ decimal (number_of reason) ++ codes " " ++ name_of reason ++ numbers_text reason ++ codes "\n"

abbrev pub is_yes : Judgement → Bool
is_yes Yes = true
is_yes (No reason) = false
