-- Where a certificate's turn and client are in a script, and what a yes says.
use Rattle.std.proofs.Common.{◌≡◌, ℕ, ◌-◌, ◌<◌, Bool, true, List, Option, Some, None, Result, Ok, codes, length, map, refl, sym, ap, ◌∙◌, subst}
use Rattle.std.specs.declared.alloc.Global.{Global}
use Rattle.std.specs.List.{position}
use Rattle.std.specs.Option.{unwrap_or}
use Rattle.std.specs.Result.{result_ok}
use Rattle.std.specs.Str.{bytes_eq}
use Rattle.std.proofs.lemmas.Bool.{lt-ltb, false≢true}
use Rattle.rb_cert.specs.declared.verdict.Judgement.{Judgement}
use Rattle.rb_cert.specs.declared.verdict.Judgement.TheVariants.{Yes, No}
use Rattle.rb_script_toml.specs.Faults.{Fault, ◌>>=◌, fault, check}
use Rattle.rb_script_toml.specs.declared.fault.FaultName.TheVariants.{NoSuchTurn, UnknownIdentifier}
use Rattle.rb_script_toml.specs.declared.fault.RunError.{RunError}
use Rattle.rb_script_types.specs.declared.config.ClientConfig.{ClientConfig}
use Rattle.rb_script_types.specs.Script.{Script}
use Rattle.rb_text_report.specs.Certificates.{Certificate}
use Rattle.rb_script_config.specs.Named.{known}
use Rattle.rb_text_report.specs.VerdictLine.{is_yes}
use Rattle.rb_text.specs.Verdicts.{Case, case_in, case_of, IsRightCase, IsCertified}

abbrev made : Script Global → Certificate → ℕ → ℕ → Case
made s k turn client = record { script = s; certificate = k; turn = turn; client = client }

abbrev looked_up : Script Global → Certificate → Bool → Option ℕ → Result Case Fault
looked_up s k within place = check within NoSuchTurn (codes "turn") >>= λ _. known (codes "client") place >>= λ client. Ok (made s k (k.turn - 1) client)

abbrev clients_place : Script Global → Certificate → Option ℕ
clients_place s k = position (bytes_eq k.client) (map (λ (c : ClientConfig). c.id) s.config.clients)

looked_up_in : (s : Script Global) (k : Certificate) (turn : ℕ) (place : Option ℕ) → turn ≡ k.turn - 1 → turn < length s.turns → clients_place s k ≡ place → case_in s k ≡ looked_up s k true place
unfolding case_in
looked_up_in s k turn place named within at =
    let first = lt-ltb (k.turn - 1) (length s.turns) (subst (λ n. n < length s.turns) named within) in
    ap (λ (p : Bool × Option ℕ). looked_up s k p.0 p.1) (λ i. (first i, at i))

pub case-found : (s : Script Global) (k : Certificate) (turn client : ℕ) → turn ≡ k.turn - 1 → turn < length s.turns → position (bytes_eq k.client) (map (λ (c : ClientConfig). c.id) s.config.clients) ≡ Some client
    → case_in s k ≡ Ok (record { script = s; certificate = k; turn = turn; client = client })
case-found s k turn client named within at = looked_up_in s k turn (Some client) named within at ∙ ap (λ n. Ok (made s k n client)) (sym named)

pub case-unknown : (s : Script Global) (k : Certificate) (turn : ℕ) → turn ≡ k.turn - 1 → turn < length s.turns → position (bytes_eq k.client) (map (λ (c : ClientConfig). c.id) s.config.clients) ≡ None
    → case_in s k ≡ fault UnknownIdentifier (codes "client")
case-unknown s k turn named within at = looked_up_in s k turn None named within at

yes_from : (v : Judgement) → is_yes v ≡ true → v ≡ Yes
yes_from Yes e = refl
yes_from (No r) e = absurd (false≢true e)

-- an answer of true says that the certificate's answer is right
pub certified : (script : Script Global) (certificate : List ℕ) (case : Case) (answer : Bool) (v : Judgement) → case_of script certificate ≡ Ok case → answer ≡ is_yes v
    → (◌≡◌ {A = Result Judgement RunError} (Ok v) (Ok Yes) → IsRightCase case)
    → ◌≡◌ {A = Result Bool RunError} (Ok answer) (Ok true) → IsCertified script certificate
certified script certificate case answer v read told right is_true =
    let said : answer ≡ true = ap (λ (r : Result Bool RunError). unwrap_or (result_ok r) answer) is_true in
    record { case = case; read = read; right = right (ap (λ x. Ok x) (yes_from v (sym told ∙ said))) }
