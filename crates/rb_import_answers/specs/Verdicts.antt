-- Verdicts on the signatures of commits (own choice; tools/verify_commits writes them).
use Rattle.std.specs.Prelude.{ℕ, ◌+◌, ◌==◌, ◌&&◌, nat_le, nat_lt, if◌then◌else◌, List, [], ◌∷◌, ◌++◌, map, Option, Some, None, option_and_then, Result, Ok, ⊤, string_bytes}
use Rattle.serde_json.specs.Data.{Data, Items, no_items, item}
use Rattle.serde_json.specs.Find.{as_number, as_u64}
use Rattle.rb_import_answers.specs.declared.verdicts.CommitVerdict.{CommitVerdict as CodeCommitVerdict}
use Rattle.rb_import_answers.specs.declared.verdicts.Verdicts.{Verdicts as CodeVerdicts}
use Rattle.rb_import_json.specs.declared.error.FieldError.{FieldError}
use Rattle.rb_import_json.specs.declared.error.FieldErrorName.TheVariants.{BadPlace, BadVersion}
use Rattle.rb_import_json.specs.declared.field_path.Key.{Key}
use Rattle.rb_import_json.specs.declared.field_path.Segment.{Segment}
use Rattle.rb_import_json.specs.FieldErrors.{◌>>=◌, or_flaw, must}
use Rattle.rb_import_json.specs.Fields.{Object, flaw_at, object, items, text, count, chain, hex}

-- the verdict on a commit: the SHA-256 of its file, how many votes it has and how many of them are valid, and the places of bad votes and of
-- those that nobody could check
pub record CommitVerdict : Type 0 where
  pub digest : List ℕ
  pub votes : ℕ
  pub good : ℕ
  pub bad : List ℕ
  pub unchecked : List ℕ

abbrev pub verdict_view : CodeCommitVerdict → CommitVerdict
verdict_view v = record { digest = v.digest; votes = v.votes; good = v.good; bad = v.bad.items; unchecked = v.unchecked.items }

-- a place among so many votes that isn't below the least one
abbrev pub place_of : ℕ → ℕ → ℕ → Option ℕ
place_of votes least n = if nat_le least n && nat_lt n votes then Some n else None

unfoldable pub place : Object → Key → ℕ → ℕ → Data → Result ℕ FieldError
place o key votes least d = or_flaw (flaw_at o key BadPlace) (option_and_then (place_of votes least) (option_and_then as_u64 (as_number d)))

-- places of votes, each above the one before it, after those before them
abbrev pub rising : Object → Key → ℕ → ℕ → List ℕ → Items → Result (List ℕ) FieldError
rising o key votes least before no_items = Ok before
rising o key votes least before (item d ds) = place o key votes least d >>= λ n. rising o key votes (n + 1) (before ++ n ∷ []) ds

unfoldable pub places : Key → ℕ → Object → Result (List ℕ) FieldError
places key votes o = items key o >>= λ ds. rising o key votes 0 [] ds

unfoldable pub verdict : Object → Result CommitVerdict FieldError
verdict o = do
  digest ← hex 32 Key.Sha256 o
  votes ← count Key.Votes o
  good ← count Key.Good o
  bad ← places Key.Bad votes o
  unchecked ← places Key.Unchecked votes o
  Ok (record { digest = digest; votes = votes; good = good; bad = bad; unchecked = unchecked })

-- the verdicts of an array, after those before them
abbrev pub all_verdicts : ℕ → List CommitVerdict → Items → Result (List CommitVerdict) FieldError
all_verdicts index before no_items = Ok before
all_verdicts index before (item d ds) =
    verdict (record { value = d; part = Segment.Verdict; index = Some index }) >>= λ v. all_verdicts (index + 1) (before ++ v ∷ []) ds

-- verdicts on commits of a chain, and who verified them
pub record Verdicts : Type 0 where
  pub chain : List ℕ
  pub verifier : List ℕ
  pub commits : List CommitVerdict

abbrev pub verdicts_view : CodeVerdicts → Verdicts
verdicts_view v = record { chain = v.chain; verifier = string_bytes v.verifier; commits = map verdict_view v.commits.items }

-- only verdicts of version 1 are read
unfoldable pub version : Object → Result ⊤ FieldError
version o = do
  n ← count Key.Version o
  must (flaw_at o Key.Version BadVersion) (n == 1)

unfoldable pub verdicts : Object → Result Verdicts FieldError
verdicts answer = do
  all ← object Key.Verdicts Segment.Verdicts answer
  _ ← version all
  id ← chain Key.Chain all
  who ← text Key.Verifier all
  entries ← items Key.Commits all
  commits ← all_verdicts 0 [] entries
  Ok (record { chain = id; verifier = who; commits = commits })
