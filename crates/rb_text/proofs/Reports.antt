-- The report of the script that bytes hold.
use Rattle.std.proofs.Common.{◌≡◌, ◌⊎◌, ℕ, List, Option, Result, Ok, Err, inl, inr, refl}
use Rattle.std.specs.Prelude.{IfOk, OnErr}
use Rattle.std.specs.declared.alloc.Global.{Global}
use Rattle.rb_script_read.specs.Scripts.{script_of}
use Rattle.rb_script_toml.specs.declared.fault.RunError.{RunError}
use Rattle.rb_script_types.specs.Script.{Script}
use Rattle.rb_super_turn.specs.Views.{report_view}
use Rattle.rb_super_turn.specs.declared.report.Report.{Report as CodeReport}
use Rattle.rb_text.specs.Headline.{WritesThisReport, BeginsReport}
use Rattle.rb_text.specs.Reports.{WritesReportOf, BeginsReportOf}

pub writes-this : (bytes : List ℕ) (script : Script Global) (old new : Option (List ℕ)) (result : Result (CodeReport Global) RunError) → script_of bytes ≡ Ok script
    → IfOk result (λ r. WritesReportOf script old new r.chains.items r.paths.items (report_view r))
    → IfOk result (λ r. WritesThisReport bytes old new r.chains.items r.paths.items (report_view r))
writes-this bytes script old new (Ok r) read w = record {
  writes = record { script = script; report = report_view r; planned = record { read = read; kept = w.kept; reported = w.reported }; written = w.written };
  chains = w.chains;
  paths = w.paths;
  this = refl;
}
writes-this bytes script old new (Err e) read w = w

pub begins-of-bytes : (bytes : List ℕ) (script : Script Global) (old new : Option (List ℕ)) (A : Type 0) (result : Result (CodeReport Global) RunError) → script_of bytes ≡ Ok script
    → OnErr result (A ⊎ BeginsReportOf script old new) → OnErr result (A ⊎ BeginsReport bytes old new)
begins-of-bytes bytes script old new A (Ok r) read b = b
begins-of-bytes bytes script old new A (Err e) read (inl same) = inl same
begins-of-bytes bytes script old new A (Err e) read (inr b) =
    inr (record { script = script; report = b.report; planned = record { read = read; kept = b.kept; reported = b.reported }; begun = b.begun })
