-- The answers of nodes, as files in folders.
use Rattle.std.specs.Prelude.{◌≡◌, ℕ, ◌&&◌, ◌++◌, Bool, true, List, filter, find, map, Option, IfSome, Some, option_map}
use Rattle.std.specs.List.{AllZip, list_any}
use Rattle.std.specs.Str.{bytes_eq}
use Rattle.sha2.specs.Sha256.{sha256}
use Rattle.rb_import_answers.specs.Answers.{Told, answer_view, verdicts_file, without_votes}
use Rattle.rb_import_check.specs.Saved.{is_commit}
use Rattle.rb_import_check.specs.declared.saved.Saved.{Saved}
use Rattle.ibcplan_folders.specs.Files.{TellsIn}
use Rattle.ibcplan_folders.specs.declared.reading.FileBytes.{FileBytes}
use Rattle.ibcplan_folders.specs.declared.reading.Reading.{Reading}
use Rattle.ibcplan_folders.specs.declared.reading.Votes.{Votes}
use Rattle.ibcplan_folders.specs.declared.reading.Votes.TheVariants.{Kept, LeftOut}

-- a file in a folder
pub record AnswerFile : Type 0 where
  pub folder : List ℕ
  pub name : List ℕ
  pub bytes : List ℕ

-- the names of a folder's files, in their order
abbrev pub names_in : List ℕ → List AnswerFile → List (List ℕ)
names_in folder files = map (λ f. f.name) (filter (λ f. bytes_eq f.folder folder) files)

-- the bytes of a folder's file of this name, of several the first one
abbrev pub content : List ℕ → List ℕ → List AnswerFile → Option (List ℕ)
content folder name files = option_map (λ f. f.bytes) (find (λ f. bytes_eq f.folder folder && bytes_eq f.name name) files)

-- whether verdicts stand in the folder
abbrev pub is_judged_in : List ℕ → List AnswerFile → Bool
is_judged_in folder files = list_any (λ name. bytes_eq name verdicts_file) (names_in folder files)

-- this holds of files, where they are known
abbrev pub OfKnown : Option (List AnswerFile) → (List AnswerFile → Type 0) → Type 0
OfKnown known Holds = IfSome known Holds

-- what is kept of an answer: all, or all but the votes of a commit
abbrev pub kept : Votes → Told → Told
kept Kept t = t
kept LeftOut t = without_votes t

-- the answer is what a file of this name tells by its bytes; of a client's records those of this revision and of later ones; a commit that is judged has the file's digest
pub record IsAnswerBy (votes : Votes) (since : ℕ) (judged : Bool) (name bytes : List ℕ) (saved : Saved) : Type 0 where
  pub told_so : Told
  pub tells : TellsIn name since bytes told_so
  pub answer : answer_view saved.answer ≡ kept votes told_so
  pub digest : judged ≡ true → is_commit (answer_view saved.answer) ≡ true → saved.digest ≡ sha256 bytes

-- and the file is the folder's one of this name
pub record IsAnswerIn (votes : Votes) (since : ℕ) (folder : List ℕ) (files : List AnswerFile) (name : List ℕ) (saved : Saved) : Type 0 where
  pub bytes : List ℕ
  pub is_there : content folder name files ≡ Some bytes
  pub told : IsAnswerBy votes since (is_judged_in folder files) name bytes saved

-- the answers are what the folder's files tell, one each and in their order
abbrev pub AreAnswersIn : Votes → ℕ → List ℕ → List AnswerFile → List Saved → Type 0
AreAnswersIn votes since folder files saved = AllZip (IsAnswerIn votes since folder files) (names_in folder files) saved

-- (internal) the bytes are those of the folder's file of this name
abbrev pub IsFileIn : List ℕ → FileBytes → List ℕ → List AnswerFile → Type 0
IsFileIn folder file name files = (file.name.now ≡ name) × (content folder name files ≡ Some file.bytes.items)

-- (internal) the answers are what files hold, one each and in their order
abbrev pub IsAnswerOf : Reading → FileBytes → Saved → Type 0
IsAnswerOf r f saved = IsAnswerBy r.votes r.since r.is_judged f.name.now f.bytes.items saved

abbrev pub AreAnswersOf : Reading → List FileBytes → List Saved → Type 0
AreAnswersOf r files saved = AllZip (IsAnswerOf r) files saved

-- (internal) and they stand behind others
abbrev pub AreAnswersBehind : Reading → List FileBytes → List Saved → List Saved → Type 0
AreAnswersBehind r files before all = (more : List Saved) × (all ≡ before ++ more) × AreAnswersOf r files more
