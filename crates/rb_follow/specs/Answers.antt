-- Answers as they are written (own choice): as lines of a report, with a line `---` after each, or as objects of JSON, each on a line; with
-- the labels of heights, or without.
use Rattle.std.specs.Prelude.{ℕ, Bool, true, false, List, [], ◌∷◌, ◌++◌, map, codes}
use Rattle.rb_script_types.specs.declared.version.Version.{Version}
use Rattle.rb_script_types.specs.declared.version.Version.TheVariants.{One, Two, Three, Four}
use Rattle.rb_script_toml.specs.Faults.{fault_view}
use Rattle.rb_super_turn.specs.Report.{Report, TurnReport, ClientReport, Outcome, held, idle}
use Rattle.rb_super_turn.specs.Report as outcome
use Rattle.rb_super_turn.specs.Views.{turn_report_view}
use Rattle.rb_text_report.specs.Report.{first_line, turn_text}
use Rattle.rb_script_text.specs.Json.{json_text}
use Rattle.rb_text_export.specs.ReportJson.{numbered_turn_line}
use Rattle.rb_follow.specs.declared.answer.Answer.{Answer as CodeAnswer}
use Rattle.rb_follow.specs.declared.answer.Answer.TheVariants as code
use Rattle.rb_follow.specs.declared.told.Form.{Form}
use Rattle.rb_follow.specs.declared.told.Form.TheVariants.{Text, Json}
use Rattle.rb_follow.specs.declared.answer.TurnRefusal.{TurnRefusal}
use Rattle.rb_follow.specs.declared.answer.TurnRefusal.TheVariants as refusal
use Rattle.rb_follow.specs.Followers.{Answer, planned, refused, Refusal, faulty, out_of_order}
use Rattle.rb_follow.specs.FaultJson.{refusal_line, refusal_json}

abbrev pub refusal_view : TurnRefusal → Refusal
refusal_view (refusal.Fault n fault) = faulty n (fault_view fault)
refusal_view (refusal.OutOfOrder due) = out_of_order due

abbrev pub answer_view : CodeAnswer → Answer
answer_view (code.Planned number report) = planned number (turn_report_view report)
answer_view (code.Refused refusal) = refused (refusal_view refusal)

-- the line that ends an answer
abbrev pub mark : List ℕ
mark = codes "---\n"

-- what an answer has of the report
abbrev pub report_lines : Version → List (List ℕ) → List (List ℕ) → Answer → List ℕ
report_lines version chains paths (planned number r) = turn_text version chains paths number r
report_lines version chains paths (refused refusal) = []

-- a report without the labels of heights
abbrev pub unlabelled_outcome : Outcome → Outcome
unlabelled_outcome (held number) = held number
unlabelled_outcome (idle next) = idle next
unlabelled_outcome (outcome.planned p) = outcome.planned (record p { labels = [] })

abbrev pub unlabelled_client : ClientReport → ClientReport
unlabelled_client c = record c { outcome = unlabelled_outcome c.outcome }

abbrev pub unlabelled : TurnReport → TurnReport
unlabelled r = record r { clients = map unlabelled_client r.clients }

-- what is told of an answer: all, or all but the labels
abbrev pub told : Bool → Answer → Answer
told true answer = answer
told false (planned number r) = planned number (unlabelled r)
told false (refused refusal) = refused refusal

abbrev pub has_labels : Form → Bool
has_labels (Text labels) = labels
has_labels (Json labels) = labels

-- as text: the lines of a report, or of a fault, and the mark; as JSON: an object on a line
abbrev pub whole_text : Form → Version → List (List ℕ) → List (List ℕ) → Answer → List ℕ
whole_text (Text labels) version chains paths (planned number r) = turn_text version chains paths number r ++ mark
whole_text (Text labels) version chains paths (refused refusal) = refusal_line refusal ++ codes "\n" ++ mark
whole_text (Json labels) version chains paths (planned number r) = numbered_turn_line number version chains paths r
whole_text (Json labels) version chains paths (refused refusal) = json_text (refusal_json refusal) ++ codes "\n"

-- an answer as it is written, with the labels of heights or without
abbrev pub answer_text : Form → Version → List (List ℕ) → List (List ℕ) → Answer → List ℕ
answer_text form version chains paths answer = whole_text form version chains paths (told (has_labels form) answer)

-- the reports among answers
abbrev pub reports_in : List Answer → Report
reports_in [] = []
reports_in (planned number r ∷ rest) = r ∷ reports_in rest
reports_in (refused refusal ∷ rest) = reports_in rest

-- ---- what stands around the answers

-- an object that names the program, the format of the answers and the versions of scripts that are taken
abbrev pub greeting : Version → List ℕ
greeting One = codes "{\"ibcplan\": 1, \"program\": \"ibcplan 0.1.0\", \"scripts\": [1, 2, 3, 4]}\n"
greeting Two = codes "{\"ibcplan\": 1, \"program\": \"ibcplan 0.1.0\", \"scripts\": [1, 2, 3, 4]}\n"
greeting Three = codes "{\"ibcplan\": 3, \"program\": \"ibcplan 0.1.0\", \"scripts\": [1, 2, 3, 4]}\n"
greeting Four = codes "{\"ibcplan\": 4, \"program\": \"ibcplan 0.1.0\", \"scripts\": [1, 2, 3, 4]}\n"

-- the first line of a report, or the greeting
abbrev pub head_text : Form → Version → List ℕ
head_text (Text labels) version = first_line version
head_text (Json labels) version = greeting version

-- its last line
abbrev pub end_text : Form → List ℕ
end_text (Text labels) = codes "end\n"
end_text (Json labels) = []
