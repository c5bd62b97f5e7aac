-- What sorting keeps, and what an element more brings.
use Rattle.std.proofs.Common.{◌≡◌, ℕ, ◌+◌, ◌<◌, ◌≤◌, List, [], ◌∷◌, ◌++◌, length, get_or, take, map, filter, Bool, true, Option, Some, None, All, if◌then◌else◌, ap, subst, sym, ◌∙◌, refl, arith}
use Rattle.std.specs.Prelude.{IfSome, option_map, option_to_list}
use Rattle.std.specs.List.{flat_map}
use Rattle.std.proofs.lemmas.List.{take_more, map_push}
use Rattle.std.proofs.lemmas.List.Elements.{All-more, All-nil, All-push, filter-append, filter_more}
use Rattle.rb_import_check.specs.declared.saved.Saved.{Saved}
use Rattle.rb_import_check.specs.Clients.{AreOfClient, is_of_client}
use Rattle.rb_import_check.specs.Refusals.{AreOfChain, is_of_chain}
use Rattle.std.proofs.lemmas.List.Sorted.{All-permutation, IsPermutation-map, IsPermutation-trans}

append_nil : {A : Type 0} (xs : List A) → xs ++ [] ≡ xs
append_nil [] = refl
append_nil (x ∷ xs) = ap (λ ys. x ∷ ys) (append_nil xs)

pub assoc : {A : Type 0} (xs ys zs : List A) → xs ++ (ys ++ zs) ≡ (xs ++ ys) ++ zs
assoc [] ys zs = refl
assoc (x ∷ xs) ys zs = ap (λ l. x ∷ l) (assoc xs ys zs)

flat_map-push : {X A : Type 0} (f : X → List A) (xs : List X) (x : X) → flat_map f (xs ++ x ∷ []) ≡ flat_map f xs ++ f x
flat_map-push f [] x = append_nil (f x)
flat_map-push f (y ∷ xs) x = ap (λ l. f y ++ l) (flat_map-push f xs x) ∙ assoc (f y) (flat_map f xs) (f x)

-- an element more brings what is in it
pub taken : {X A : Type 0} (f : X → List A) (xs : List X) (i : ℕ) (x : X) → i < length xs → x ≡ get_or xs i x → flat_map f (take (i + 1) xs) ≡ flat_map f (take i xs) ++ f x
taken f xs i x small is = ap (flat_map f) (take_more xs i x small ∙ ap (λ y. take i xs ++ y ∷ []) (sym is)) ∙ flat_map-push f (take i xs) x

-- what is pushed for an element is what is in it
pub pushed_more : {X A C : Type 0} (view : C → A) (f : X → List A) (done : List C) (c : C) (xs : List X) (i : ℕ) (x : X) → i < length xs → x ≡ get_or xs i x → map view done ≡ flat_map f (take i xs) → f x ≡ view c ∷ [] → map view (done ++ c ∷ []) ≡ flat_map f (take (i + 1) xs)
pushed_more view f done c xs i x small is was there =
    map_push view done c ∙ ap (λ l. l ++ view c ∷ []) was ∙ ap (λ l. flat_map f (take i xs) ++ l) (sym there) ∙ sym (taken f xs i x small is)

-- an element with nothing in it brings nothing
pub nothing_more : {X A : Type 0} (f : X → List A) (done : List A) (xs : List X) (i : ℕ) (x : X) → i < length xs → x ≡ get_or xs i x → done ≡ flat_map f (take i xs) → f x ≡ [] → done ≡ flat_map f (take (i + 1) xs)
nothing_more f done xs i x small is was empty =
    was ∙ sym (taken f xs i x small is ∙ ap (λ l. flat_map f (take i xs) ++ l) empty ∙ append_nil (flat_map f (take i xs)))

-- what is added for an element is what is in it
pub added_more : {X A : Type 0} (f : X → List A) (done after : List A) (xs : List X) (i : ℕ) (x : X) → i < length xs → x ≡ get_or xs i x → done ≡ flat_map f (take i xs) → after ≡ done ++ f x → after ≡ flat_map f (take (i + 1) xs)
added_more f done after xs i x small is was now = now ∙ ap (λ l. l ++ f x) was ∙ sym (taken f xs i x small is)

-- the same of those that pass a test
pub filtered_more : {X A : Type 0} (p : A → Bool) (f : X → List A) (done after : List A) (xs : List X) (i : ℕ) (x : X) → i < length xs → x ≡ get_or xs i x → done ≡ filter p (flat_map f (take i xs)) → after ≡ done ++ filter p (f x) → after ≡ filter p (flat_map f (take (i + 1) xs))
filtered_more p f done after xs i x small is was now =
    now ∙ ap (λ l. l ++ filter p (f x)) was ∙ sym (filter-append p (flat_map f (take i xs)) (f x)) ∙ ap (filter p) (sym (taken f xs i x small is))

pub wanted_more : {X : Type 0} (p : X → Bool) (before done after xs : List X) (i : ℕ) (x : X) → i < length xs → x ≡ get_or xs i x → done ≡ before ++ filter p (take i xs) → after ≡ done ++ (if p x then x ∷ [] else []) → after ≡ before ++ filter p (take (i + 1) xs)
wanted_more p before done after xs i x small is was now =
    now ∙ ap (λ l. l ++ (if p x then x ∷ [] else [])) was ∙ sym (assoc before (filter p (take i xs)) (if p x then x ∷ [] else []))
    ∙ ap (λ l. before ++ l) (sym (filter_more p xs i x small ∙ ap (λ y. filter p (take i xs) ++ (if p y then y ∷ [] else [])) (sym is)))

-- the same of what elements are seen as
pub seen_more : {X A : Type 0} (p : A → Bool) (view : X → A) (before done after : List A) (xs : List X) (i : ℕ) (x : X) → i < length xs → x ≡ get_or xs i x → done ≡ before ++ filter p (map view (take i xs)) → after ≡ done ++ (if p (view x) then view x ∷ [] else []) → after ≡ before ++ filter p (map view (take (i + 1) xs))
seen_more p view before done after xs i x small is was now =
    let next : map view (take (i + 1) xs) ≡ map view (take i xs) ++ view x ∷ [] =
    ap (map view) (take_more xs i x small ∙ ap (λ y. take i xs ++ y ∷ []) (sym is)) ∙ map_push view (take i xs) x in
    now ∙ ap (λ l. l ++ (if p (view x) then view x ∷ [] else [])) was ∙ sym (assoc before (filter p (map view (take i xs))) (if p (view x) then view x ∷ [] else []))
    ∙ ap (λ l. before ++ l) (sym (ap (filter p) next ∙ filter-append p (map view (take i xs)) (view x ∷ [])))

-- the answers so far belong into their folder
pub of_chain_none : AreOfChain []
unfolding AreOfChain
of_chain_none = All-nil _

pub of_chain_more : (saved : List Saved) (i : ℕ) (s : Saved) → i < length saved → s ≡ get_or saved i s → AreOfChain (take i saved) → is_of_chain s.answer ≡ true → AreOfChain (take (i + 1) saved)
unfolding AreOfChain
of_chain_more saved i s small is were here = All-more (λ (t : Saved). is_of_chain t.answer ≡ true) saved i s small were (subst (λ t. is_of_chain t.answer ≡ true) is here)

pub of_client_none : AreOfClient []
unfolding AreOfClient
of_client_none = All-nil _

pub of_client_more : (saved : List Saved) (i : ℕ) (s : Saved) → i < length saved → s ≡ get_or saved i s → AreOfClient (take i saved) → is_of_client s.answer ≡ true → AreOfClient (take (i + 1) saved)
unfolding AreOfClient
of_client_more saved i s small is were here = All-more (λ (t : Saved). is_of_client t.answer ≡ true) saved i s small were (subst (λ t. is_of_client t.answer ≡ true) is here)

-- what is there at most once
pub one_of : {X A : Type 0} (view : X → A) (P : A → Type 0) (found : Option X) (all : List A) → option_to_list (option_map view found) ≡ all → IfSome found (λ x. P (view x)) → (length all ≤ 1) × All P all
one_of view P None all is holds = subst (λ l. (length l ≤ 1) × All P l) is (omega arith, All-nil P)
one_of view P (Some x) all is holds = subst (λ l. (length l ≤ 1) × All P l) is (omega arith, All-push P [] (view x) (All-nil P) holds)

pub ruleset taking = (taken, pushed_more, nothing_more, added_more, of_chain_none)

pub ruleset filtering = (filtered_more, wanted_more, of_client_none)

pub ruleset filing = (filtered_more, wanted_more, seen_more)

pub ruleset sorting = (All-permutation, IsPermutation-map, IsPermutation-trans)
