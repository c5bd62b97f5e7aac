-- Files in memory are the known ones.
use Rattle.std.proofs.Common.{◌≡◌, ℕ, ◌+◌, ◌<◌, List, [], ◌∷◌, ◌++◌, get_or, length, take, Bool, true, false, cond, map, filter, refl, sym, ap, ◌∙◌}
use Rattle.std.specs.Prelude.{◌&&◌, Option, Some, find, option_map, string_bytes}
use Rattle.std.specs.Str.{bytes_eq}
use Rattle.std.proofs.lemmas.List.{map_push}
use Rattle.std.proofs.lemmas.List.Elements.{filter_more}
use Rattle.ibcplan_folders.specs.Folders.{AnswerFile, content, names_in}
use Rattle.ibcplan_folders.specs.Memory.{is_at, is_in, known_file, known_files}
use Rattle.ibcplan_folders.specs.declared.memory_folders.MemoryFile.{MemoryFile}

append_nil : {A : Type 0} (xs : List A) → xs ++ [] ≡ xs
append_nil [] = refl
append_nil (x ∷ xs) = ap (λ ys. x ∷ ys) (append_nil xs)

more : {X : Type 0} (q : X → Bool) (xs : List X) (i : ℕ) (x : X) (b : Bool) → i < length xs → x ≡ get_or xs i x → q x ≡ b → filter q (take (i + 1) xs) ≡ filter q (take i xs) ++ cond b (x ∷ []) []
more q xs i x b lt is pass =
    filter_more q xs i x lt ∙ ap (λ y. filter q (take i xs) ++ cond (q y) (y ∷ []) []) (sym is) ∙ ap (λ c. filter q (take i xs) ++ cond c (x ∷ []) []) pass

-- the names of those that pass a test, where the next one does, and where it doesn't
pub one_named : {X Y Z : Type 0} (v : Z → Y) (q : X → Bool) (h : X → Y) (done : List Z) (z : Z) (xs : List X) (i : ℕ) (x : X) → i < length xs → x ≡ get_or xs i x → q x ≡ true → v z ≡ h x
    → map v done ≡ map h (filter q (take i xs)) → map v (done ++ z ∷ []) ≡ map h (filter q (take (i + 1) xs))
one_named v q h done z xs i x lt is pass so was =
    map_push v done z ∙ ap (λ l. l ++ v z ∷ []) was ∙ ap (λ y. map h (filter q (take i xs)) ++ y ∷ []) so ∙ sym (map_push h (filter q (take i xs)) x) ∙ sym (ap (map h) (more q xs i x true lt is pass))

pub none_named : {X Y Z : Type 0} (v : Z → Y) (q : X → Bool) (h : X → Y) (done : List Z) (xs : List X) (i : ℕ) (x : X) → i < length xs → x ≡ get_or xs i x → q x ≡ false
    → map v done ≡ map h (filter q (take i xs)) → map v done ≡ map h (filter q (take (i + 1) xs))
none_named v q h done xs i x lt is fail was = was ∙ sym (ap (map h) (more q xs i x false lt is fail ∙ append_nil (filter q (take i xs))))

pub ruleset naming = (none_named, one_named)

abbrev name_of : MemoryFile → List ℕ
name_of f = string_bytes f.name

named_one : (b : Bool) (f : MemoryFile) (fs : List MemoryFile) (gs : List AnswerFile) → map name_of fs ≡ map (λ (g : AnswerFile). g.name) gs
    → map name_of (cond b (f ∷ fs) fs) ≡ map (λ (g : AnswerFile). g.name) (cond b (known_file f ∷ gs) gs)
named_one true f fs gs same = ap (λ l. string_bytes f.name ∷ l) same
named_one false f fs gs same = same

pub names_known : (folder : List ℕ) (files : List MemoryFile) → map (λ (f : MemoryFile). string_bytes f.name) (filter (is_in folder) files) ≡ names_in folder (known_files files)
names_known folder [] = refl
names_known folder (f ∷ files) = named_one (is_in folder f) f (filter (is_in folder) files) _ (names_known folder files)

found_one : (b : Bool) (f : MemoryFile) (o : Option MemoryFile) (p : Option AnswerFile) → option_map known_file o ≡ p → option_map known_file (cond b (Some f) o) ≡ cond b (Some (known_file f)) p
found_one true f o p same = refl
found_one false f o p same = same

abbrev pub bytes_of : Option MemoryFile → Option (List ℕ)
bytes_of o = option_map (λ (g : AnswerFile). g.bytes) (option_map known_file o)

found : (folder name : List ℕ) (files : List MemoryFile) → option_map known_file (find (is_at folder name) files) ≡ find (λ (g : AnswerFile). bytes_eq g.folder folder && bytes_eq g.name name) (known_files files)
found folder name [] = refl
found folder name (f ∷ files) = found_one (is_at folder name f) f (find (is_at folder name) files) _ (found folder name files)

pub content_known : (folder name : List ℕ) (files : List MemoryFile) → content folder name (known_files files) ≡ bytes_of (find (is_at folder name) files)
content_known folder name files = ap (option_map (λ (g : AnswerFile). g.bytes)) (sym (found folder name files))
