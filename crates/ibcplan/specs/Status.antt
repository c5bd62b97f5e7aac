-- What the program's exit status says of what it read, and of what it wrote.
use Rattle.std.specs.Prelude.{◌≡◌, ◌||◌, ◌&&◌, ◌-◌, ◌^◌, ℕ, Bool, true, false, if◌then◌else◌, List, length, nat_lt, min, Option, is_some}
use Rattle.std.specs.List.{list_any, sum_by}
use Rattle.std.specs.declared.alloc.Global.{Global}
use Rattle.rb_script_config.specs.Paths.{path_ids}
use Rattle.rb_script_types.specs.Script.{Script}
use Rattle.rb_super_turn.specs.Report.{TurnReport, Report}
use Rattle.rb_text.specs.Reports.{WritesReportOf}
use Rattle.rb_text.specs.Verdicts.{WritesVerdict, IsCertified}

-- whether a turn's report tells of something refused: its window, that of a host, an event or a settlement
abbrev pub has_refusal : TurnReport → Bool
has_refusal t = t.window_back || nat_lt 0 (length t.hosts_back) || nat_lt 0 (length t.refused) || list_any (λ x. is_some x.refusal) t.settlements

-- the status of a plan whose report was written: 6 where it is a strict one and the report tells of something refused, else 0
abbrev pub plan_status : Bool → Report → ℕ
plan_status is_strict report = if is_strict && list_any has_refusal report then 6 else 0

-- how many events are refused in a report
abbrev pub refused_events : Report → ℕ
refused_events report = sum_by (λ t. length t.refused) report

-- the writer took the text of the script's report; the status and the number of refused events are that report's
pub record IsPlanWritten (is_strict : Bool) (script : Script Global) (old new : Option (List ℕ)) (status count : ℕ) : Type 0 where
  pub report : Report
  pub writes : WritesReportOf script old new script.config.chains (path_ids script.config.paths) report
  pub ends : status ≡ plan_status is_strict report
  pub counts : count ≡ min (refused_events report) (2 ^ 64 - 1)

-- 0: the writer took the line `yes`, the certificate's labelling is sound and its answer right
abbrev pub IsConfirmed : Script Global → List ℕ → Option (List ℕ) → Option (List ℕ) → ℕ → Type 0
IsConfirmed script certificate old new status =
    (status ≡ 0) × WritesVerdict script certificate true old new × IsCertified script certificate

-- 3: the verdict is `no`, and the writer took its line
abbrev pub IsDenied : Script Global → List ℕ → Option (List ℕ) → Option (List ℕ) → ℕ → Type 0
IsDenied script certificate old new status = (status ≡ 3) × WritesVerdict script certificate false old new
