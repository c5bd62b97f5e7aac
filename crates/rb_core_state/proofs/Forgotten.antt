-- Lists whose elements are changed one after another, each by its place; what is left from no height on is all.
use Rattle.std.proofs.Common.{◌≡◌, ℕ, zero, suc, ◌+◌, ◌<◌, Bool, true, false, cond, not, ◌||◌, nat_le, List, [], ◌∷◌, length, map, get_or, set, refl, sym, ap, ◌∙◌, arith}
use Rattle.std.specs.List.{enumerate_from, filter, list_any}
use Rattle.std.proofs.lemmas.Bool.{le-leb}
use Rattle.std.proofs.lemmas.List.{length-map, get_or-map, map-set}
use Rattle.rb_valset.specs.Validator.{Member}
use Rattle.rb_valset.specs.ValidatorSet.{set_hash}
use Rattle.rb_book.specs.Header.{Header}
use Rattle.rb_book.specs.Book.{Book, RecordAt}
use Rattle.rb_book.specs.Rest.{is_from, header_is_from, is_named, is_named_from, is_left, rest_of_book}

-- ---- one place after another

-- the first elements changed, the first of all being at a place
abbrev pub upto : {X : Type 0} → (ℕ → X → X) → ℕ → ℕ → List X → List X
upto f n zero xs = xs
upto f n (suc i) [] = []
upto f n (suc i) (x ∷ xs) = f n x ∷ upto f (n + 1) i xs

pub upto-next : {X : Type 0} (f : ℕ → X → X) (n i : ℕ) (xs : List X) (d : X) → i < length xs → set (upto f n i xs) i (f (n + i) (get_or xs i d)) ≡ upto f n (suc i) xs
upto-next f n i [] d lt = absurd (omega (arith, lt))
upto-next f n zero (x ∷ xs) d lt = (let e : n + 0 ≡ n = omega arith in ap (λ k. f k x ∷ xs) e)
upto-next f n (suc i) (x ∷ xs) d lt =
    let e : n + suc i ≡ n + 1 + i = omega arith in
    ap (λ k. f n x ∷ set (upto f (n + 1) i xs) i (f k (get_or xs i d))) e ∙ ap (λ ys. f n x ∷ ys) (upto-next f (n + 1) i xs d (omega (arith, lt)))

pub upto-there : {X : Type 0} (f : ℕ → X → X) (n i : ℕ) (xs : List X) (d : X) → get_or (upto f n i xs) i d ≡ get_or xs i d
upto-there f n zero xs d = refl
upto-there f n (suc i) [] d = refl
upto-there f n (suc i) (x ∷ xs) d = upto-there f (n + 1) i xs d

-- one step of a loop that changes one element after another
pub upto-step : {X : Type 0} (f : ℕ → X → X) (i : ℕ) (xs now new : List X) (x y : X) → i < length xs → now ≡ upto f 0 i xs → x ≡ get_or now i x → y ≡ f i x → new ≡ set now i y → new ≡ upto f 0 (i + 1) xs
upto-step f i xs now new x y lt before at is made =
    let there : x ≡ get_or xs i x = at ∙ ap (λ l. get_or l i x) before ∙ upto-there f 0 i xs x in
    let place : i ≡ 0 + i = omega arith in
    let next : suc i ≡ i + 1 = omega arith in
    made ∙ (λ j. set (before j) i (is j)) ∙ ap (λ z. set (upto f 0 i xs) i (f i z)) there ∙ ap (λ k. set (upto f 0 i xs) i (f k (get_or xs i x))) place
    ∙ upto-next f 0 i xs x lt ∙ ap (λ k. upto f 0 k xs) next

pub upto-length : {X : Type 0} (f : ℕ → X → X) (n i : ℕ) (xs : List X) → length (upto f n i xs) ≡ length xs
upto-length f n zero xs = refl
upto-length f n (suc i) [] = refl
upto-length f n (suc i) (x ∷ xs) = ap suc (upto-length f (n + 1) i xs)

-- the same where each element is seen in part
pub seen-step : {H X : Type 0} (v : H → X) (f : ℕ → X → X) (i : ℕ) (initial : List X) (now new : List H) (h k : H) → i < length initial → map v now ≡ upto f 0 i initial
    → h ≡ get_or now i h → v k ≡ f i (v h) → new ≡ set now i k → map v new ≡ upto f 0 (i + 1) initial
seen-step v f i initial now new h k lt before at is made =
    let long : length now ≡ length initial = sym (length-map now v) ∙ ap (λ xs. length xs) before ∙ upto-length f 0 i initial in
    let within : i < length now = omega (arith, lt, long) in
    upto-step f i initial (map v now) (map v new) (v h) (v k) lt before (ap v at ∙ sym (get_or-map v now i h (v h) within)) is (ap (map v) made ∙ map-set v now i k)

-- whether one of those that are seen passes
pub any_map : {X Y : Type 0} (p : Y → Bool) (f : X → Y) (xs : List X) → list_any p (map f xs) ≡ list_any (λ x. p (f x)) xs
any_map p f [] = refl
any_map p f (x ∷ xs) = ap (λ b. p (f x) || b) (any_map p f xs)

pub upto-all : {X : Type 0} (f : ℕ → X → X) (n : ℕ) (xs : List X) → upto f n (length xs) xs ≡ map (λ (p : ℕ × X). f p.0 p.1) (enumerate_from n xs)
upto-all f n [] = refl
upto-all f n (x ∷ xs) = ap (λ ys. f n x ∷ ys) (upto-all f (n + 1) xs)

pub upto-each : {X : Type 0} (f : X → X) (n : ℕ) (xs : List X) → upto (λ k. f) n (length xs) xs ≡ map f xs
upto-each f n [] = refl
upto-each f n (x ∷ xs) = ap (λ ys. f x ∷ ys) (upto-each f (n + 1) xs)

-- ---- nothing is below no height

all_pass : {X : Type 0} (p : X → Bool) → ((x : X) → p x ≡ true) → (xs : List X) → filter p xs ≡ xs
all_pass p passes [] = refl
all_pass {X} p passes (x ∷ xs) = λ i. cond (passes x i) (x ∷ all_pass p passes xs i) (filter p xs)

none_pass : {X : Type 0} (p : X → Bool) → ((x : X) → p x ≡ false) → (xs : List X) → filter p xs ≡ []
none_pass p fails [] = refl
none_pass {X} p fails (x ∷ xs) = λ i. cond (fails x i) (x ∷ filter p xs) (none_pass p fails xs i)

or_true : (b : Bool) → (b || true) ≡ true
or_true true = refl
or_true false = refl

stays : (records : List RecordAt) (headers : List Header) (s : List Member) → is_left 0 records headers s ≡ true
stays records headers s =
    ap (λ (b : Bool). is_named_from 0 records headers (set_hash s) || not b)
    (λ i. is_named (none_pass (λ k. not (is_from 0 k)) (λ k. ap not (le-leb 0 k.height (omega arith))) records i)
    (none_pass (λ h. not (header_is_from 0 h)) (λ h. ap not (le-leb 0 h.height (omega arith))) headers i) (set_hash s))
    ∙ or_true (is_named_from 0 records headers (set_hash s))

pub rest-none : (b : Book) → rest_of_book 0 b ≡ b
rest-none b = λ i. record {
  limit = b.limit;
  sets = all_pass (is_left 0 b.records b.headers) (stays b.records b.headers) b.sets i;
  records = all_pass (is_from 0) (λ k. le-leb 0 k.height (omega arith)) b.records i;
  headers = all_pass (header_is_from 0) (λ h. le-leb 0 h.height (omega arith)) b.headers i;
}

pub heights-none : (hs : List ℕ) → filter (λ h. nat_le 0 h) hs ≡ hs
heights-none hs = all_pass (λ h. nat_le 0 h) (λ h. le-leb 0 h (omega arith)) hs
