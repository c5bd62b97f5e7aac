-- The floor of a chain, by the least of the heights that are needed.
use Rattle.std.proofs.Common.{◌≡◌, ℕ, zero, suc, ◌+◌, ◌<◌, ◌≤◌, Bool, true, false, cond, not, ◌&&◌, ◌||◌, count_by, min, nat_le, List, [], ◌∷◌, ◌++◌, map, reverse, length, take, drop, get_or, Option, Some, None, refl, sym, ap, ◌∙◌, arith, if◌then◌else◌}
use Rattle.std.specs.List.{enumerate_from, filter, find, flat_map, list_all, list_any}
use Rattle.std.specs.Option.{option_map, option_map_or, option_to_list}
use Rattle.std.proofs.lemmas.Bool.{le-leb, le-ltb, leb-false, leb-true, lt-leb}
use Rattle.std.proofs.lemmas.List.{drop_more, get_or_past}
use Rattle.std.proofs.lemmas.List.Sums.{fold-append, length-filter}
use Rattle.std.proofs.lemmas.Option.{none-some, same_Some}
use Rattle.rb_base.specs.Window.{Span}
use Rattle.rb_book.specs.Book.{Book, RecordAt, height_of, is_below}
use Rattle.rb_scan.specs.Expiry.{lesser}
use Rattle.rb_core_model.specs.Forgetting.{needs, lowest_of, floor}
use Rattle.rb_core_model.specs.Standing.{Standing, book_at, empty_book}
use Rattle.rb_core_state.specs.Floors.{floor_in, floor_or_none, lowered}

-- ---- heights one after another

abbrev one_lower : Option ℕ → ℕ → Option ℕ
one_lower o n = lesser o (Some n)

pub lowered-append : (o : Option ℕ) (ms ns : List ℕ) → lowered o (ms ++ ns) ≡ lowered (lowered o ms) ns
lowered-append o ms ns = fold-append one_lower o ms ns

pub lesser-none : (o : Option ℕ) → lesser o None ≡ o
lesser-none None = refl
lesser-none (Some n) = refl

-- one that may be needed
pub lowered-option : (o x : Option ℕ) → lesser o x ≡ lowered o (option_to_list x)
lowered-option o None = lesser-none o
lowered-option o (Some n) = refl

-- one more of several
next : {X : Type 0} (f : X → List ℕ) (xs : List X) (i : ℕ) (x : X) (o : Option ℕ) → i < length xs → x ≡ get_or xs i x → lowered o (flat_map f (take (suc i) xs)) ≡ lowered (lowered o (flat_map f (take i xs))) (f x)
next f [] i x o lt at = absurd (omega (arith, lt))
next f (y ∷ xs) zero x o lt at = lowered-append o (f y) [] ∙ ap (λ z. lowered o (f z)) (sym at)
next f (y ∷ xs) (suc i) x o lt at =
    lowered-append o (f y) (flat_map f (take (suc i) xs)) ∙ next f xs i x (lowered o (f y)) (omega (arith, lt)) at
    ∙ ap (λ p. lowered p (f x)) (sym (lowered-append o (f y) (flat_map f (take i xs))))

pub lowered-next : {X : Type 0} (f : X → List ℕ) (xs : List X) (i : ℕ) (x : X) (o acc new : Option ℕ) → i < length xs → x ≡ get_or xs i x → acc ≡ lowered o (flat_map f (take i xs)) → new ≡ lowered acc (f x)
    → new ≡ lowered o (flat_map f (take (i + 1) xs))
lowered-next f xs i x o acc new lt at before is =
    let same : suc i ≡ i + 1 = omega arith in
    is ∙ ap (λ p. lowered p (f x)) before ∙ sym (next f xs i x o lt at) ∙ ap (λ n. lowered o (flat_map f (take n xs))) same

-- what passes, and what is made of each
pub passing : (p : ℕ → Bool) (xs : List ℕ) → flat_map (λ h. if p h then option_to_list (Some h) else []) xs ≡ filter p xs
passing p [] = refl
passing p (x ∷ xs) = go (p x) (passing p xs)
  where
    go : (b : Bool) → flat_map (λ h. if p h then option_to_list (Some h) else []) xs ≡ filter p xs
        → (if b then option_to_list (Some x) else []) ++ flat_map (λ h. if p h then option_to_list (Some h) else []) xs ≡ cond b (x ∷ filter p xs) (filter p xs)
    go true rest = ap (λ ys. x ∷ ys) rest
    go false rest = rest

pub seen_each : {X Y : Type 0} (view : X → Y) (f : Y → List ℕ) (xs : List X) → flat_map (λ x. f (view x)) xs ≡ flat_map f (map view xs)
seen_each view f [] = refl
seen_each view f (x ∷ xs) = ap (λ ys. f (view x) ++ ys) (seen_each view f xs)

pub singles : {X : Type 0} (f : X → ℕ) (xs : List X) → flat_map (λ x. f x ∷ []) xs ≡ map f xs
singles f [] = refl
singles f (x ∷ xs) = ap (λ ys. f x ∷ ys) (singles f xs)

-- what a client needs: heights, one that there may be, and further ones
pub lowered-three : (o x live : Option ℕ) (ls bs : List ℕ) → live ≡ lowered o ls → lowered (lesser live x) bs ≡ lowered o (ls ++ (option_to_list x ++ bs))
lowered-three o x live ls bs e =
    ap (λ p. lowered p bs) (lowered-option live x ∙ ap (λ p. lowered p (option_to_list x)) e)
    ∙ sym (lowered-append (lowered o ls) (option_to_list x) bs) ∙ sym (lowered-append o ls (option_to_list x ++ bs))

-- one that is needed or not
pub lowered-if : (b : Bool) (o x : Option ℕ) → (if b then lesser o x else o) ≡ lowered o (if b then option_to_list x else [])
lowered-if true o x = lowered-option o x
lowered-if false o x = refl

-- what is needed where a test holds, twice
pub lowered-both : (b : Bool) (o : Option ℕ) (ms ns : List ℕ) → lowered (lowered o (if b then ms else [])) (if b then ns else []) ≡ lowered o (if b then ms ++ ns else [])
lowered-both true o ms ns = sym (lowered-append o ms ns)
lowered-both false o ms ns = refl

pub unless-not : (b : Bool) (ns : List ℕ) → (if not b then ns else []) ≡ (if b then [] else ns)
unless-not true ns = refl
unless-not false ns = refl

-- what a packet needs on the destination of an ORDERED path
pub lowered-ordered : (in_flight cleared : Bool) (o : Option ℕ) (xs ys zs : List ℕ)
    → lowered (lowered (lowered o (if in_flight then xs else [])) (if in_flight then ys else [])) (if not cleared then zs else [])
    ≡ lowered o ((if in_flight then xs ++ ys else []) ++ (if cleared then [] else zs))
lowered-ordered in_flight cleared o xs ys zs =
    ap (λ p. lowered p (if not cleared then zs else [])) (lowered-both in_flight o xs ys)
    ∙ ap (lowered (lowered o (if in_flight then xs ++ ys else []))) (unless-not cleared zs)
    ∙ sym (lowered-append o (if in_flight then xs ++ ys else []) (if cleared then [] else zs))

-- ---- at or below the least is at or below all

below_both : (k m n : ℕ) → nat_le k (min m n) ≡ (nat_le k m && nat_le k n)
below_both k m n = go (nat_le k m) refl (nat_le k n) refl
  where
    go : (b : Bool) → nat_le k m ≡ b → (c : Bool) → nat_le k n ≡ c → nat_le k (min m n) ≡ (b && c)
    go true p true q = (let one = leb-true k m p in let two = leb-true k n q in le-leb k (min m n) (omega arith))
    go true p false q = (let two = leb-false k n q in lt-leb k (min m n) (omega arith))
    go false p c q = (let one = leb-false k m p in lt-leb k (min m n) (omega arith))

and_twice : (a b c : Bool) → (a && (b && c)) ≡ ((a && b) && c)
and_twice true b c = refl
and_twice false b c = refl

-- the least of heights of which there is one
pub least : ℕ → List ℕ → ℕ
least m [] = m
least m (n ∷ ns) = least (min m n) ns

pub lowered-least : (m : ℕ) (ns : List ℕ) → lowered (Some m) ns ≡ Some (least m ns)
unfolding least
lowered-least m [] = refl
lowered-least m (n ∷ ns) = lowered-least (min m n) ns

below_all : (k m : ℕ) (ns : List ℕ) → nat_le k (least m ns) ≡ (nat_le k m && list_all (λ h. nat_le k h) ns)
unfolding least
below_all k m [] = end (nat_le k m)
  where
    end : (b : Bool) → b ≡ (b && true)
    end true = refl
    end false = refl
below_all k m (n ∷ ns) =
    below_all k (min m n) ns ∙ ap (λ b. b && list_all (λ h. nat_le k h) ns) (below_both k m n) ∙ sym (and_twice (nat_le k m) (nat_le k n) (list_all (λ h. nat_le k h) ns))

same_find : {X : Type 0} (p q : X → Bool) → ((x : X) → p x ≡ q x) → (xs : List X) → find p xs ≡ find q xs
same_find p q same [] = refl
same_find {X} p q same (x ∷ xs) = λ i. cond (same x i) (Some x) (same_find p q same xs i)

-- the floor is the greatest height of a record at or below the least
pub floor_is : (ns : List ℕ) (records : List RecordAt) (m : ℕ) → lowered None ns ≡ Some m
    → option_map_or height_of (find (λ k. nat_le (height_of k) m) (reverse records)) 0 ≡ lowest_of ns records
floor_is [] records m e = absurd (cc)
floor_is (n ∷ ns) records m e =
    ap (λ (o : Option RecordAt). option_map_or height_of o 0)
    (same_find (λ k. nat_le (height_of k) m) (λ k. list_all (λ h. nat_le (height_of k) h) (n ∷ ns))
    (λ k. ap (nat_le (height_of k)) (same_least m e) ∙ below_all (height_of k) n ns) (reverse records))
  where
    same_least : (m : ℕ) → lowered None (n ∷ ns) ≡ Some m → m ≡ least n ns
    same_least m e = sym (same_Some (least n ns) m (sym (lowered-least n ns) ∙ e))

-- where nothing is needed, there is none
pub floor_none : (ns : List ℕ) (records : List RecordAt) → lowered None ns ≡ None → 0 ≡ lowest_of ns records
floor_none [] records e = refl
floor_none (n ∷ ns) records e = absurd (none-some (least n ns) (sym e ∙ lowered-least n ns))

mapped_or : (o : Option RecordAt) → floor_or_none (option_map height_of o) ≡ option_map_or height_of o 0
mapped_or None = refl
mapped_or (Some k) = refl

pub floor_top : (ns : List ℕ) (records : List RecordAt) (m : ℕ) (top : Option ℕ) → lowered None ns ≡ Some m
    → top ≡ option_map height_of (find (λ k. nat_le (height_of k) m) (reverse records)) → floor_or_none top ≡ lowest_of ns records
floor_top ns records m top e is =
    ap floor_or_none is ∙ mapped_or (find (λ k. nat_le (height_of k) m) (reverse records)) ∙ floor_is ns records m e

-- none is below no floor
none_lower : (ks : List RecordAt) → filter (is_below 0) ks ≡ []
none_lower [] = refl
none_lower (k ∷ ks) = ap (λ b. cond b (k ∷ filter (is_below 0) ks) (filter (is_below 0) ks)) (le-ltb k.height 0 (omega arith)) ∙ none_lower ks

pub count_none : (ks : List RecordAt) → 0 ≡ count_by (is_below 0) ks
count_none ks = ap (λ xs. length xs) (sym (none_lower ks)) ∙ length-filter (is_below 0) ks

-- ---- the floors of the chains, one after another

pub floors_more : (floors : List (Option ℕ)) (o : Option ℕ) (f : ℕ → ℕ) (n : ℕ) → length floors ≡ n → ((k : ℕ) → k < n → floor_in floors k ≡ f k) → floor_or_none o ≡ f n
    → (k : ℕ) → k < n + 1 → floor_in (floors ++ o ∷ []) k ≡ f k
floors_more [] o f n len all one zero lt = one ∙ ap f (sym len)
floors_more [] o f n len all one (suc k) lt = absurd (omega (arith, len, lt))
floors_more (x ∷ floors) o f zero len all one k lt = absurd (omega (arith, len))
floors_more (x ∷ floors) o f (suc n) len all one zero lt = all zero (omega arith)
floors_more (x ∷ floors) o f (suc n) len all one (suc k) lt = floors_more floors o (λ j. f (suc j)) n (omega (arith, len)) (λ j le. all (suc j) (omega (arith, le))) one k (omega (arith, lt))

-- a chain that isn't there has no floor
none_at : (ns : List ℕ) → lowest_of ns [] ≡ 0
none_at [] = refl
none_at (n ∷ ns) = refl

pub floor_past : (w : Span) (s : Standing) (chain : ℕ) → length s.books ≤ chain → floor w s chain ≡ 0
floor_past w s chain le = ap (λ (b : Book). lowest_of (needs w s chain) b.records) (get_or_past s.books chain (empty_book 1) le) ∙ none_at (needs w s chain)

pub floors_all : (floors : List (Option ℕ)) (f : ℕ → ℕ) (n : ℕ) → length floors ≡ n → ((k : ℕ) → k < n → floor_in floors k ≡ f k) → ((k : ℕ) → n ≤ k → f k ≡ 0)
    → (k : ℕ) → floor_in floors k ≡ f k
floors_all [] f zero len all past k = sym (past k (omega arith))
floors_all [] f (suc n) len all past k = absurd (omega (arith, len))
floors_all (x ∷ floors) f zero len all past k = absurd (omega (arith, len))
floors_all (x ∷ floors) f (suc n) len all past zero = all zero (omega arith)
floors_all (x ∷ floors) f (suc n) len all past (suc k) =
    floors_all floors (λ j. f (suc j)) n (omega (arith, len)) (λ j lt. all (suc j) (omega (arith, lt))) (λ j le. past (suc j) (omega (arith, le))) k

-- ---- some chain, one after another

chain_next : (f : ℕ × Book → Bool) (books : List Book) (i : ℕ) → i < length books
    → list_any f (enumerate_from i (drop i books)) ≡ (f (i, book_at books i) || list_any f (enumerate_from (i + 1) (drop (i + 1) books)))
chain_next f books i lt = ap (λ bs. list_any f (enumerate_from i bs)) (drop_more books i (empty_book 1) lt)

pub chain_here : (f : ℕ × Book → Bool) (books : List Book) (i : ℕ) (b all : Bool) → i < length books → list_any f (enumerate_from i (drop i books)) ≡ all → b ≡ f (i, book_at books i) → b ≡ true → true ≡ all
chain_here f books i b all lt before is it =
    ap (λ c. c || list_any f (enumerate_from (i + 1) (drop (i + 1) books))) (sym it ∙ is) ∙ sym (chain_next f books i lt) ∙ before

pub chain_not : (f : ℕ × Book → Bool) (books : List Book) (i : ℕ) (b all : Bool) → i < length books → list_any f (enumerate_from i (drop i books)) ≡ all → b ≡ f (i, book_at books i) → b ≡ false
    → list_any f (enumerate_from (i + 1) (drop (i + 1) books)) ≡ all
chain_not f books i b all lt before is it =
    ap (λ c. c || list_any f (enumerate_from (i + 1) (drop (i + 1) books))) (sym it ∙ is) ∙ sym (chain_next f books i lt) ∙ before
