-- What holds of files, where they are known.
use Rattle.std.proofs.Common.{◌≡◌, ◌<◌, ◌≤◌, ◌+◌, ℕ, List, [], ◌∷◌, ◌++◌, get_or, length, map, ap, refl, subst, sym, take, ◌∙◌}
use Rattle.std.specs.Prelude.{◌||◌, Bool, true, Option, Some, None, Result, Ok, Err, IfOk, String, Vec, string_bytes}
use Rattle.std.specs.Global.{Global}
use Rattle.std.specs.List.{AllZip, enumerate_from, list_any}
use Rattle.std.specs.Str.{bytes_eq}
use Rattle.rb_messages.proofs.Zipped.{placed_all, placed_more}
use Rattle.rb_import_answers.specs.Answers.{verdicts_file}
use Rattle.ibcplan_folders.specs.Folders.{AnswerFile, OfKnown, is_judged_in, names_in}

-- beside the names of a folder's files
pub of_names : {B : Type 0} (known : Option (List AnswerFile)) (R : List AnswerFile → List ℕ → B → Type 0) (folder : List ℕ) (names : List (List ℕ)) (ys : List B)
    → OfKnown known (λ files. names ≡ names_in folder files) → OfKnown known (λ files. AllZip (R files) names ys)
    → OfKnown known (λ files. AllZip (R files) (names_in folder files) ys)
of_names None R folder names ys is all = tt
of_names (Some files) R folder names ys is all = subst (λ (ns : List (List ℕ)). AllZip (R files) ns ys) is all

-- beside a list and its places the next one is made
pub known_placed : {A B : Type 0} (known : Option (List AnswerFile)) (R : List AnswerFile → ℕ × A → B → Type 0) (xs : List A) (i : ℕ) (x : A) (ys zs : List B) (y : B) → zs ≡ ys ++ y ∷ []
    → i < length xs → x ≡ get_or xs i x → OfKnown known (λ files. R files (i, x) y) → OfKnown known (λ files. AllZip (R files) (take i (enumerate_from 0 xs)) ys)
    → OfKnown known (λ files. AllZip (R files) (take (i + 1) (enumerate_from 0 xs)) zs)
known_placed None R xs i x ys zs y more lt is one all = tt
known_placed (Some files) R xs i x ys zs y more lt is one all =
    subst (AllZip (R files) (take (i + 1) (enumerate_from 0 xs))) (sym more) (placed_more (R files) xs i x ys y lt is one all)

pub known_places : {A B : Type 0} (known : Option (List AnswerFile)) (R : List AnswerFile → ℕ × A → B → Type 0) (xs : List A) (i : ℕ) (ys : List B) → length xs ≤ i
    → OfKnown known (λ files. AllZip (R files) (take i (enumerate_from 0 xs)) ys) → OfKnown known (λ files. AllZip (R files) (enumerate_from 0 xs) ys)
known_places None R xs i ys le all = tt
known_places (Some files) R xs i ys le all = placed_all (R files) xs i ys le all

-- what is needed is as it is asked for
pub needed_at : {needed asked : Bool} {id name : List ℕ} (known : Option (List AnswerFile)) (R : List AnswerFile → List ℕ → Type 0) → needed ≡ asked → name ≡ id
    → OfKnown known (λ files. needed ≡ true → R files name) → OfKnown known (λ files. asked ≡ true → R files id)
needed_at None R same at is = tt
needed_at (Some files) R same at is = λ (yes : _ ≡ true). subst (R files) at (is (same ∙ yes))

-- answers beside the names of a folder's files
pub in_folder : {E B : Type 0} (known : Option (List AnswerFile)) (R : List AnswerFile → List ℕ → B → Type 0) (folder : List ℕ) (names : List (String Global)) (slice : List (String Global))
    (r : Result (Vec B Global) E) → slice ≡ names → OfKnown known (λ files. map string_bytes names ≡ names_in folder files)
    → IfOk r (λ v. OfKnown known (λ files. AllZip (R files) (map string_bytes slice) v.items)) → IfOk r (λ v. OfKnown known (λ files. AllZip (R files) (names_in folder files) v.items))
in_folder known R folder names slice (Err e) same is all = tt
in_folder known R folder names slice (Ok v) same is all =
    of_names known R folder (map string_bytes names) v.items is
    (subst (λ (ns : List (String Global)). OfKnown known (λ files. AllZip (R files) (map string_bytes ns) v.items)) same all)

any_named : (p : List ℕ → Bool) (names : List (String Global)) → list_any (λ n. p (string_bytes n)) names ≡ list_any p (map string_bytes names)
any_named p [] = refl
any_named p (n ∷ names) = ap (λ b. p (string_bytes n) || b) (any_named p names)

-- whether verdicts stand in a folder, by the names of its files
pub judged_in : (known : Option (List AnswerFile)) (folder : List ℕ) (names slice : List (String Global)) (judged : Bool) → slice ≡ names → OfKnown known (λ files. map string_bytes names ≡ names_in folder files)
    → judged ≡ list_any (λ n. bytes_eq (string_bytes n) verdicts_file) slice → OfKnown known (λ files. judged ≡ is_judged_in folder files)
judged_in None folder names slice judged same is by = tt
judged_in (Some files) folder names slice judged same is by =
    by ∙ ap (λ (ns : List (String Global)). list_any (λ n. bytes_eq (string_bytes n) verdicts_file) ns) same ∙ any_named (λ n. bytes_eq n verdicts_file) names
    ∙ ap (λ (ns : List (List ℕ)). list_any (λ n. bytes_eq n verdicts_file) ns) is
