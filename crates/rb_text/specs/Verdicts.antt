-- What certifying promises.
use Rattle.std.specs.Prelude.{◌≡◌, ℕ, ◌-◌, ◌⊎◌, Bool, nat_lt, List, length, map, codes, Option, Some, None, Result, Ok, Err}
use Rattle.std.specs.declared.alloc.Global.{Global}
use Rattle.std.specs.Io.KnownBytes.{Appends}
use Rattle.std.specs.List.{position}
use Rattle.std.specs.Str.{bytes_eq}
use Rattle.rb_base.specs.Sink.{AppendsBeginning}
use Rattle.rb_cert.specs.declared.verdict.Judgement.{Judgement}
use Rattle.rb_script_toml.specs.Faults.{Fault, ◌>>=◌, check}
use Rattle.rb_script_toml.specs.declared.fault.FaultName.TheVariants.{NoSuchTurn, NoGoal}
use Rattle.rb_plan_types.specs.Labelling.{label_of}
use Rattle.rb_script_types.specs.declared.config.ClientConfig.{ClientConfig}
use Rattle.rb_super_turn.specs.Judging.{IsVerdictOn, IsRightIn, IsReported}
use Rattle.rb_super_turn.specs.Report.{Report}
use Rattle.rb_super_turn.specs.AsEvents.{as_events}
use Rattle.rb_script_types.specs.Script.{Script, script_view}
use Rattle.rb_text.specs.declared.case.Case.{Case as CodeCase}
use Rattle.rb_text_report.specs.VerdictLine.{verdict_line, is_yes}
use Rattle.rb_text_report.specs.Certificates.{Certificate, certificate_of, certificate_view}
use Rattle.rb_script_config.specs.Named.{known}

-- ---- what is judged

-- a script, a certificate, and the places of the certificate's turn and client in the script
pub record Case : Type 0 where
  pub script : Script Global
  pub certificate : Certificate
  pub turn : ℕ
  pub client : ℕ

abbrev pub case_view : CodeCase → Case
case_view c = record { script = script_view c.script; certificate = certificate_view c.certificate; turn = c.turn; client = c.client }

-- the certificate's turn is looked up in the script, and then its client
unfoldable pub case_in : Script Global → Certificate → Result Case Fault
case_in s c = do
  _ ← check (nat_lt (c.turn - 1) (length s.turns)) NoSuchTurn (codes "turn")
  client ← known (codes "client") (position (bytes_eq c.client) (map (λ (k : ClientConfig). k.id) s.config.clients))
  Ok (record { script = s; certificate = c; turn = c.turn - 1; client = client })

-- the certificate is read of its text before
unfoldable pub case_of : Script Global → List ℕ → Result Case Fault
case_of script certificate = do
  c ← certificate_of certificate
  case_in script c

-- the verdict on the certificate's answer, for its client in its turn; none where the client is held or idle there
abbrev pub IsVerdictOf : Case → Option Judgement → Type 0
IsVerdictOf c verdict = IsVerdictOn (as_events c.script) c.turn c.client (label_of c.certificate.labels) c.certificate.claim verdict

-- the labelling is sound, and the answer right
abbrev pub IsRightCase : Case → Type 0
IsRightCase c = IsRightIn (as_events c.script) c.turn c.client (label_of c.certificate.labels) c.certificate.claim

-- a report has this answer for the client in the turn
abbrev pub IsReportedCase : Report → Case → Type 0
IsReportedCase report c = IsReported report c.turn c.client (label_of c.certificate.labels) c.certificate.claim

abbrev pub no_goal : Fault
no_goal = record { name = NoGoal; path = codes "client" }

-- ---- what is promised

-- the script and the certificate's text make a case, and this is the verdict on it
pub record IsVerdictFor (script : Script Global) (certificate : List ℕ) (verdict : Option Judgement) : Type 0 where
  pub case : Case
  pub read : case_of script certificate ≡ Ok case
  pub judged : IsVerdictOf case verdict

-- why nothing is judged: the certificate's first fault, or a client that is held or idle
abbrev pub IsFaultFor : Script Global → List ℕ → Fault → Type 0
IsFaultFor script certificate f = (case_of script certificate ≡ Err f) ⊎ ((f ≡ no_goal) × IsVerdictFor script certificate None)

-- the writer took the verdict's line; the answer tells whether it is yes
pub record WritesVerdict (script : Script Global) (certificate : List ℕ) (yes : Bool) (old new : Option (List ℕ)) : Type 0 where
  pub verdict : Judgement
  pub judged : IsVerdictFor script certificate (Some verdict)
  pub answer : yes ≡ is_yes verdict
  pub written : Appends old new (verdict_line verdict)

-- the writer took a beginning of it
pub record BeginsVerdict (script : Script Global) (certificate : List ℕ) (old new : Option (List ℕ)) : Type 0 where
  pub verdict : Judgement
  pub judged : IsVerdictFor script certificate (Some verdict)
  pub begun : AppendsBeginning old new (verdict_line verdict)

-- the certificate's answer is right
pub record IsCertified (script : Script Global) (certificate : List ℕ) : Type 0 where
  pub case : Case
  pub read : case_of script certificate ≡ Ok case
  pub right : IsRightCase case
