-- What reports have to do with reports of beginnings of their scripts, and answers with reports.
use Rattle.std.specs.Prelude.{◌≡◌, ℕ, ◌+◌, List, map, take}
use Rattle.std.specs.List.{flat_map}
use Rattle.std.specs.declared.alloc.Global.{Global}
use Rattle.rb_core_model.specs.Forgetting.{has_many_to_forget}
use Rattle.rb_core_model.specs.Standing.{opening_standing}
use Rattle.rb_super.specs.Free.{AreFreeReports}
use Rattle.rb_super.specs.Forgetting.{AreSparedTurns}
use Rattle.rb_script_types.specs.Script.{Turn as SeenTurn}
use Rattle.rb_script_types.specs.declared.version.Version.{Version}
use Rattle.rb_script_types.specs.declared.version.Version.TheVariants.{One, Two, Three, Four}
use Rattle.rb_super_turn.specs.AsEvents.{turn_as_events}
use Rattle.rb_super_turn.specs.Report.{Report}
use Rattle.rb_super_turn.specs.Script.{Script, IsScript}
use Rattle.rb_super_turn.specs.Turns.{IsReportOf}
use Rattle.rb_text_report.specs.Report.{turn_text, numbered_lines}
use Rattle.rb_follow.specs.Documents.{Document}
use Rattle.rb_follow.specs.Followers.{Following, Answer}
use Rattle.rb_follow.specs.Answers.{report_lines, reports_in}
use Rattle.rb_follow.specs.Headline.{AreAnswers}
use Rattle.rb_follow.specs.Reports.{AreReportsIn}
use Rattle.rb_follow.specs.Tidying.{least_to_go}

-- the reports of a script's beginnings are beginnings of its report
abbrev pub BeginningsAreReported : Type 0
BeginningsAreReported = (script : Script) (report : Report) (count : ℕ) → IsReportOf script report
    → IsReportOf (record { config = script.config; turns = take count script.turns }) (take count report)

-- the reports among answers are those of the turns that were taken
abbrev pub AnswersAreReports : Type 0
AnswersAreReports = (f : Following) (documents : List Document) (answers : List Answer) (turns : List (SeenTurn Global)) (g : Following)
    → AreAnswers f documents answers turns g → AreReportsIn f.config.version f.standing (map turn_as_events turns) (reports_in answers)

-- the versions in which what serves no more is forgotten
abbrev pub IsForgetful : Version → Type 0
IsForgetful One = ⊥
IsForgetful Two = ⊥
IsForgetful Three = Unit {0}
IsForgetful Four = Unit {0}

-- From version 3 on they are those that the same turns would have, were nothing forgotten and no light store or path ever full, as long as no event
-- speaks of what was forgotten, and none is refused for want of room.
abbrev pub ForgettingChangesNoAnswer : Type 0
ForgettingChangesNoAnswer = (version : Version) (script : Script) (reports free : Report) → IsForgetful version → IsScript script
    → AreFreeReports (opening_standing script.config) script.turns free
    → AreSparedTurns (has_many_to_forget least_to_go) (λ (chain : ℕ). 0) (opening_standing script.config) (opening_standing script.config) script.turns free
    → AreReportsIn version (opening_standing script.config) script.turns reports → reports ≡ free

-- what answers have of the report is the report's lines from there on: those without the lines `---` and the faults
abbrev pub AnswersAreLines : Type 0
AnswersAreLines = (version : Version) (chains paths : List (List ℕ)) (f : Following) (documents : List Document) (answers : List Answer)
    (turns : List (SeenTurn Global)) (g : Following) → AreAnswers f documents answers turns g
    → flat_map (report_lines version chains paths) answers ≡ numbered_lines (turn_text version chains paths) (f.turns + 1) (reports_in answers)
