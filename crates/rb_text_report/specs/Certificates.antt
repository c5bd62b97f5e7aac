-- The certificate of a text: a planner's answer for one client in one turn, made by whomever.
use Rattle.std.specs.Prelude.{ℕ, suc, ◌==◌, Bool, true, nat_lt, if◌then◌else◌, List, [], ◌∷◌, ◌++◌, length, codes, Option, Some, None, Result, Ok}
use Rattle.std.specs.Str.{bytes_eq}
use Rattle.toml.specs.Data.{Items, no_items, item}
use Rattle.rb_plan_types.specs.LightClient.{Update}
use Rattle.rb_plan_types.specs.declared.labelling.Label.{Label}
use Rattle.rb_plan_types.specs.Answer.{claim_of, labelling_of}
use Rattle.rb_script_toml.specs.Faults.{Fault, ◌>>=◌, fault, check}
use Rattle.rb_script_toml.specs.KeyPaths.{child, element}
use Rattle.rb_script_toml.specs.Fields.{Field, Section, field_at, only, needs, optional, or_default, text, identifier, number, within, items, two_integers, three_integers, max_number}
use Rattle.rb_script_toml.specs.declared.fault.FaultName.TheVariants.{BadVersion, OutOfRange, BadAnswer, LabelOrder}
use Rattle.rb_text_report.specs.declared.certificate.AnswerKind.{AnswerKind}
use Rattle.rb_text_report.specs.declared.certificate.AnswerKind.TheVariants.{Plan, Unreachable}
use Rattle.rb_text_report.specs.declared.certificate.Certificate.{Certificate as CodeCertificate}
use Rattle.rb_script_toml.specs.Documents.{document}

-- the turn by its number from 1, the client, the list of updates that is claimed to be the least or that there is none, and the labels
pub record Certificate : Type 0 where
  pub turn : ℕ
  pub client : List ℕ
  pub claim : Option (List Update)
  pub labels : List Label

abbrev pub certificate_view : CodeCertificate → Certificate
certificate_view c = record { turn = c.turn; client = c.client; claim = claim_of c.answer; labels = labelling_of c.answer }

-- ---- answers

abbrev pub answer_of : List ℕ → Option AnswerKind
answer_of word =
    if bytes_eq word (codes "plan") then Some Plan
    else if bytes_eq word (codes "unreachable") then Some Unreachable
    else None

abbrev pub known_answer : List ℕ → Option AnswerKind → Result AnswerKind Fault
known_answer path (Some k) = Ok k
known_answer path None = fault BadAnswer path

unfoldable pub answer : Field → Result AnswerKind Fault
answer f = do
  word ← text f
  known_answer f.path (answer_of word)

-- ---- updates and labels

-- the elements of an array in order, each read by itself
abbrev pub each : {A : Type 0} → (Field → Result A Fault) → List ℕ → List A → Items → Result (List A) Fault
each read path before no_items = Ok before
each read path before (item d ds) = read (field_at (element path (length before)) d) >>= λ x. each read path (before ++ x ∷ []) ds

-- the types of the elements of an array from this place on: the first fault of one that can't be read so
abbrev pub typed_from : {A : Type 0} → (Field → Result A Fault) → List ℕ → ℕ → Items → Result (Unit {0}) Fault
typed_from read path place no_items = Ok tt
typed_from read path place (item d ds) = read (field_at (element path place) d) >>= λ _. typed_from read path (suc place) ds

-- a height and a trusted height
unfoldable pub update : Field → Result Update Fault
update f = do
  n ← two_integers f
  height ← within 1 max_number OutOfRange (element f.path 0) n.0
  trusted ← within 1 max_number OutOfRange (element f.path 1) n.1
  Ok (record { height = height; trusted = trusted })

-- all types before all ranges
unfoldable pub updates : Field → Result (List Update) Fault
updates f = do
  ds ← items f
  _ ← typed_from two_integers (codes "updates") 0 ds
  each update (codes "updates") [] ds

-- a height, a fee and a count
unfoldable pub label : Field → Result Label Fault
label f = do
  n ← three_integers f
  height ← within 1 max_number OutOfRange (element f.path 0) n.0
  fee ← within 0 max_number OutOfRange (element f.path 1) n.1
  count ← within 0 max_number OutOfRange (element f.path 2) n.2
  Ok (record { height = height; cost = record { fee = fee; count = count } })

-- from this place on, each height is above the one before it
abbrev pub rising_after : ℕ → ℕ → List Label → Result (Unit {0}) Fault
rising_after place below [] = Ok tt
rising_after place below (l ∷ ls) = check (nat_lt below l.height) LabelOrder (element (codes "labels") place) >>= λ _. rising_after (suc place) l.height ls

-- heights, which are 1 at least, rise
unfoldable pub rising : List Label → Result (Unit {0}) Fault
rising ls = rising_after 0 0 ls

-- all types before all ranges, and each label by itself before their order
unfoldable pub labels : Field → Result (List Label) Fault
labels f = do
  ds ← items f
  _ ← typed_from three_integers (codes "labels") 0 ds
  ls ← each label (codes "labels") [] ds
  _ ← rising ls
  Ok ls

-- ---- certificates

abbrev pub certificate_keys : List (List ℕ)
certificate_keys = codes "version" ∷ codes "turn" ∷ codes "client" ∷ codes "answer" ∷ codes "updates" ∷ codes "labels" ∷ []

-- where there is no list, there are no updates
abbrev pub fits : AnswerKind → List Update → Bool
fits Plan us = true
fits Unreachable us = length us == 0

abbrev pub claim : AnswerKind → List Update → Option (List Update)
claim Plan us = Some us
claim Unreachable us = None

unfoldable pub certificate : Section → Result Certificate Fault
certificate s = do
  _ ← only certificate_keys s
  _ ← needs (codes "version") (number 1 1 BadVersion) s
  turn ← needs (codes "turn") (number 1 max_number OutOfRange) s
  client ← needs (codes "client") identifier s
  kind ← needs (codes "answer") answer s
  us ← or_default [] updates (optional (codes "updates") s)
  ls ← needs (codes "labels") labels s
  _ ← check (fits kind us) BadAnswer (child s.path (codes "answer"))
  Ok (record { turn = turn; client = client; claim = claim kind us; labels = ls })

-- the certificate of a text, or its first fault
unfoldable pub certificate_of : List ℕ → Result Certificate Fault
certificate_of bytes = do
  s ← document bytes
  certificate s
