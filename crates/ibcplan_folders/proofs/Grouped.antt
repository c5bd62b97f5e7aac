-- The answers in a folder's files, which are read in groups, and by threads.
use Rattle.std.proofs.Common.{◌≡◌, ◌<◌, ◌+◌, ℕ, Bool, true, List, [], ◌∷◌, ◌++◌, append-nil, append_assoc, get_or, length, map, take, ap, refl, subst, sym, ◌∙◌}
use Rattle.std.specs.Prelude.{Contains, Option, Some, None, Result, Ok, Err, IfOk, MatchResult, String, Vec, string_bytes}
use Rattle.std.specs.Borrow.{Bor}
use Rattle.std.specs.Global.{Global}
use Rattle.std.specs.List.{AllZip}
use Rattle.std.specs.Result.{result_unwrap_or}
use Rattle.std.proofs.lemmas.List.{map_push, take_more}
use Rattle.std.proofs.lemmas.Slice.Zip.{all_zipped_more}
use Rattle.rayon.proofs.ListFacts.{AllZip-append}
use Rattle.sha2.specs.Sha256.{sha256}
use Rattle.rb_import_answers.specs.Answers.{Told, answer_view, commit, judging, other, packets, stored, transactions, validators, verified}
use Rattle.rb_import_check.specs.Saved.{is_commit}
use Rattle.rb_import_check.specs.declared.saved.Saved.{Saved}
use Rattle.ibcplan_folders.specs.Files.{TellsIn}
use Rattle.ibcplan_folders.specs.Folders.{AnswerFile, AreAnswersBehind, AreAnswersOf, IsAnswerIn, IsFileIn, IsAnswerBy, OfKnown, is_judged_in, kept}
use Rattle.ibcplan_folders.specs.declared.reading.FileBytes.{FileBytes}
use Rattle.ibcplan_folders.specs.declared.reading.Reading.{Reading}
use Rattle.ibcplan_folders.specs.declared.reading.Votes.{Votes}
use Rattle.ibcplan_folders.specs.declared.reading.Votes.TheVariants.{Kept, LeftOut}

-- a commit without its votes is one, and no other answer
kept_commit : (votes : Votes) (t : Told) → is_commit (kept votes t) ≡ is_commit t
kept_commit Kept t = refl
kept_commit LeftOut (commit s) = refl
kept_commit LeftOut (validators p) = refl
kept_commit LeftOut (judging s) = refl
kept_commit LeftOut (stored s) = refl
kept_commit LeftOut (transactions s) = refl
kept_commit LeftOut (packets p) = refl
kept_commit LeftOut (verified v) = refl
kept_commit LeftOut (other q) = refl

-- an answer, by what is kept of it
pub answer_by : (votes : Votes) (since : ℕ) (judged : Bool) (name bytes slice : List ℕ) (told_so : Told) (saved : Saved) → slice ≡ bytes → TellsIn name since slice told_so
    → answer_view saved.answer ≡ kept votes told_so → (judged ≡ true → is_commit told_so ≡ true → saved.digest ≡ sha256 slice) → IsAnswerBy votes since judged name bytes saved
answer_by votes since judged name bytes slice told_so saved same tells answer digest = subst (λ bs. IsAnswerBy votes since judged name bs saved) same (record {
  told_so = told_so;
  tells = tells;
  answer = answer;
  digest = λ has is. digest has (sym (kept_commit votes told_so) ∙ ap is_commit (sym answer) ∙ is);
})

of_each : {A B : Type 0} (E : Type 0) (R : A → B → Type 0) (xs : List (Bor A)) (ys : List B) → AllZip (λ x (r : Result B E). IfOk r (R x.now)) xs (map Ok ys) → AllZip R (map (λ (x : Bor A). x.now) xs) ys
of_each E R [] [] all = tt
of_each E R [] (y ∷ ys) all = absurd all
of_each E R (x ∷ xs) [] all = absurd all
of_each E R (x ∷ xs) (y ∷ ys) all = (all.0, of_each E R xs ys all.1)

-- what is made of all, or the error of one of them, by whatever thread
pub collected : {A B E : Type 0} (R : A → B → Type 0) (bs : List (Bor A)) (xs : List A) (rs : List (Result B E)) (r : Result (Vec B Global) E)
    → map (λ (b : Bor A). b.now) bs ≡ xs → AllZip (λ b r. IfOk r (R b.now)) bs rs
    → MatchResult r (λ v. (ys : List B) × (rs ≡ map Ok ys) × (v.items ≡ ys)) (λ e. Contains rs (Err e)) → IfOk r (λ v. AllZip R xs v.items)
collected R bs xs rs (Err e) same each all = tt
collected R bs xs rs (Ok v) same each all =
    let oks = all.1 ∙ ap (λ ys. map Ok ys) (sym all.2) in
    subst (λ l. AllZip R l v.items) same (of_each _ R bs v.items (subst (AllZip (λ b r. IfOk r (R b.now)) bs) oks each))

-- of a result that is there
pub of_ok : {A E : Type 0} (r : Result A E) (a : A) (P : A → Type 0) → r ≡ Ok a → IfOk r P → P a
of_ok r a P is h = subst (λ r. IfOk r P) is h

-- the inner result, or this error in the place of the outer one
pub unwrapped : {A E F : Type 0} (r : Result (Result A E) F) (e : E) (P : A → Type 0) → IfOk r (λ q. IfOk q P) → IfOk (result_unwrap_or r (Err e)) P
unwrapped (Err f) e P h = tt
unwrapped (Ok q) e P h = h

-- of the files of these names the first have their answers, and the others are read
pub record IsHalfDone (r : Reading) (folder : List ℕ) (names : List (List ℕ)) (answers : List Saved) (group : List FileBytes) (files : List AnswerFile) : Type 0 where
  pub done : List (List ℕ)
  pub waiting : List (List ℕ)
  pub all : done ++ waiting ≡ names
  pub answered : AllZip (IsAnswerIn r.votes r.since folder files) done answers
  pub read : AllZip (λ name file. IsFileIn folder file name files) waiting group

-- this holds, and that of files, where they are known
pub with_known : (known : Option (List AnswerFile)) (P : Type 0) (Q : List AnswerFile → Type 0) → P → OfKnown known Q → OfKnown known (λ files. P × Q files)
with_known None P Q p q = tt
with_known (Some files) P Q p q = (p, q)

module _ (r : Reading) (folder : List ℕ) where
  pub begun : (known : Option (List AnswerFile)) (answers : List Saved) (group : List FileBytes) → answers ≡ [] → group ≡ [] → OfKnown known (IsHalfDone r folder [] answers group)
  begun None answers group none empty = tt
  begun (Some files) answers group none empty = record {
    done = [];
    waiting = [];
    all = refl;
    answered = subst (AllZip (IsAnswerIn r.votes r.since folder files) []) (sym none) tt;
    read = subst (AllZip (λ name file. IsFileIn folder file name files) []) (sym empty) tt;
  }

  -- one more file is read
  pub one_read : (known : Option (List AnswerFile)) (names : List (String Global)) (i : ℕ) (name : String Global) (text : List ℕ) (answers : List Saved) (group more : List FileBytes) (file : FileBytes)
      → i < length names → name ≡ get_or names i name → text ≡ string_bytes name → more ≡ group ++ file ∷ [] → OfKnown known (IsFileIn folder file text)
      → OfKnown known (IsHalfDone r folder (map string_bytes (take i names)) answers group)
      → OfKnown known (IsHalfDone r folder (map string_bytes (take (i + 1) names)) answers more)
  one_read None names i name text answers group more file lt is named new one half = tt
  one_read (Some files) names i name text answers group more file lt is named new one half =
      let push = map_push string_bytes (take i names) name in
      let next : map string_bytes (take (i + 1) names) ≡ map string_bytes (take i names) ++ string_bytes name ∷ [] =
      ap (map string_bytes) (take_more names i name lt ∙ ap (λ n. take i names ++ n ∷ []) (sym is)) ∙ push in
      let R : List ℕ → FileBytes → Type 0 = λ name file. IsFileIn folder file name files in
      record {
        done = half.done;
        waiting = half.waiting ++ string_bytes name ∷ [];
        all = sym (append_assoc half.done half.waiting (string_bytes name ∷ [])) ∙ ap (λ l. l ++ string_bytes name ∷ []) half.all ∙ sym next;
        answered = half.answered;
        read = subst (AllZip R (half.waiting ++ string_bytes name ∷ [])) (sym new)
            (all_zipped_more R half.waiting group (string_bytes name) file half.read (subst (λ n. R n file) named one));
      }

  -- and the next group begins
  pub begun_anew : (known : Option (List AnswerFile)) (names : List (List ℕ)) (answers : List Saved) (group : List FileBytes) → group ≡ []
      → OfKnown known (λ files. AllZip (IsAnswerIn r.votes r.since folder files) names answers) → OfKnown known (IsHalfDone r folder names answers group)
  begun_anew None names answers group empty all = tt
  begun_anew (Some files) names answers group empty all = record {
    done = names;
    waiting = [];
    all = append-nil names;
    answered = all;
    read = subst (AllZip (λ name file. IsFileIn folder file name files) []) (sym empty) tt;
  }

  told_by : (files : List AnswerFile) (names : List (List ℕ)) (group : List FileBytes) (answers : List Saved) → r.is_judged ≡ is_judged_in folder files
      → AllZip (λ name file. IsFileIn folder file name files) names group → AreAnswersOf r group answers → AllZip (IsAnswerIn r.votes r.since folder files) names answers
  told_by files [] [] [] same read told = tt
  told_by files [] [] (s ∷ answers) same read told = absurd told
  told_by files [] (f ∷ group) answers same read told = absurd read
  told_by files (n ∷ names) [] answers same read told = absurd read
  told_by files (n ∷ names) (f ∷ group) [] same read told = absurd told
  told_by files (n ∷ names) (f ∷ group) (s ∷ answers) same read told = (
    record {
      bytes = f.bytes.items;
      is_there = read.0.1;
      told = subst (λ j. IsAnswerBy r.votes r.since j n f.bytes.items s) same (subst (λ (m : List ℕ). IsAnswerBy r.votes r.since r.is_judged m f.bytes.items s) read.0.0 told.0);
    },
    told_by files names group answers same read.1 told.1,
  )

  -- those that are read have their answers, too
  pub all_taken : (known : Option (List AnswerFile)) (names : List (List ℕ)) (answers all : List Saved) (group slice : List FileBytes) → slice ≡ group
      → OfKnown known (λ files. r.is_judged ≡ is_judged_in folder files) → AreAnswersBehind r slice answers all
      → OfKnown known (IsHalfDone r folder names answers group) → OfKnown known (λ files. AllZip (IsAnswerIn r.votes r.since folder files) names all)
  all_taken None names answers all group slice same beside behind half = tt
  all_taken (Some files) names answers all group slice same beside behind half =
      let R = IsAnswerIn r.votes r.since folder files in
      let more = told_by files half.waiting group behind.0 beside half.read (subst (λ g. AreAnswersOf r g behind.0) same behind.2) in
      subst (λ l. AllZip R l all) half.all (subst (AllZip R (half.done ++ half.waiting)) (sym behind.1) (AllZip-append R half.done half.waiting answers behind.0 half.answered more))
