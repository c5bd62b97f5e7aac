-- Rows by rising number: how often each number stands among them.
use Rattle.std.proofs.Common.{◌≡◌, ℕ, suc, ◌+◌, ◌-◌, ◌<◌, ◌≤◌, inl, inr, ◌==◌, false, cond, List, [], ◌∷◌, ◌++◌, length, get_or, map, take, drop, All, Some, refl, sym, ap, ◌∙◌, subst, arith}
use Rattle.std.proofs.lemmas.Bool.Decides.{nat_tests}
use Rattle.std.proofs.lemmas.List.{get_or_default, ext_get_or, length-drop, length-take, length-map, take_all, get_or-take, get_or-drop}
use Rattle.std.proofs.lemmas.List.Sums.{sum_by-cons, sum_by_push, sum_by_more, sum_by-take-drop, sum_by-take-le}
use Rattle.std.specs.List.{slice_get}
use Rattle.std.specs.Option.{option_map}
use Rattle.std.specs.List.Sorted.{IsPermutation}
use Rattle.std.proofs.lemmas.Bool.{cases_lt}
use Rattle.std.proofs.lemmas.Option.{slice_get-get_or, slice_get-map, slice_get_within, get_or_from_slice_get}
use Rattle.std.proofs.lemmas.List.Sorted.{sum_by-IsPermutation}
use Rattle.rb_book.specs.Header.{Header}
use Rattle.rb_book.specs.Book.{Book}
use Rattle.rb_graph.specs.StoredRow.{StoredRow, stored_row_of}
use Rattle.rb_graph.specs.declared.error.TableError.{TableError}
use Rattle.rb_graph.specs.declared.error.TableError.TheVariants.{RowMissing, RowTwice, NoMemory}
use Rattle.rb_graph.specs.TableError.{Explains}
use Rattle.rb_graph.specs.Frame.{FrameRow, kept_rows, IsRowOf, IsWhole, IsFirstTwice, IsFirstMissing, made}
use Rattle.rb_graph.specs.Ordered.{AreOrdered, AreBelow, AreInPlace}

pub made_more : (m : ℕ) (rows : List FrameRow) (i : ℕ) (d : FrameRow) → i < length rows → made m (take (i + 1) rows) ≡ made m (take i rows) + cond ((get_or rows i d).number == m) 1 0
made_more m rows i d lt = sum_by_more (λ (row : FrameRow). cond (row.number == m) 1 0) rows i d lt

made_split : (m : ℕ) (rows : List FrameRow) (i : ℕ) → made m (take i rows) + made m (drop i rows) ≡ made m rows
made_split m rows i = sum_by-take-drop (λ (row : FrameRow). cond (row.number == m) 1 0) rows i

made_part : (m : ℕ) (rows : List FrameRow) (i : ℕ) → made m (take i rows) ≤ made m rows
made_part m rows i = sum_by-take-le (λ (row : FrameRow). cond (row.number == m) 1 0) rows i

-- none of the rows has the number
made_none : (m : ℕ) (rows : List FrameRow) (d : FrameRow) → ((k : ℕ) → k < length rows → (get_or rows k d).number ≡ m → ⊥) → made m rows ≡ 0
made_none m [] d other = refl
made_none m (row ∷ rows) d other =
    let c = sum_by-cons (λ (r : FrameRow). cond (r.number == m) 1 0) row rows in
    let rest = made_none m rows d (λ k lt. other (suc k) (omega arith)) in
    let here : row.number ≡ m → ⊥ = other 0 (omega arith) in
    grind (arith, nat_tests)

-- from a row on, no lower number stands
made_later : (m : ℕ) (rows : List FrameRow) (i : ℕ) (d : FrameRow) → AreOrdered rows → i < length rows → m < (get_or rows i d).number → made m (drop i rows) ≡ 0
made_later m rows i d ordered lt less =
    made_none m (drop i rows) d (λ k below same.
    let long = length-drop i rows in
    let up = ordered i (i + k) d (omega arith) (omega (arith, below, long)) in
    let e : (get_or rows (i + k) d).number ≡ m = ap (λ (r : FrameRow). r.number) (sym (get_or-drop i rows k d)) ∙ same in
    omega (arith, up, e, less))

-- up to a row, no higher number stands
made_earlier : (m : ℕ) (rows : List FrameRow) (i : ℕ) (d : FrameRow) → AreOrdered rows → i < length rows → (get_or rows i d).number < m → made m (take (i + 1) rows) ≡ 0
made_earlier m rows i d ordered lt less =
    made_none m (take (i + 1) rows) d (λ k below same.
    let long = length-take (i + 1) rows in
    let lt_k : k < i + 1 = omega (arith, below, long) in
    let up = ordered k i d (omega (arith, lt_k)) lt in
    let e : (get_or rows k d).number ≡ m = ap (λ (r : FrameRow). r.number) (sym (get_or-take (i + 1) rows k d lt_k)) ∙ same in
    omega (arith, up, e, less))

-- the numbers of two neighbours, as they are read
module _ (rows : List FrameRow) (p : ℕ) (x y : FrameRow) (n k : ℕ) (ordered : AreOrdered rows) (begun : 1 ≤ p) (lt : p < length rows)
    (x_is : x ≡ get_or rows p x) (y_is : y ≡ get_or rows (p - 1) y) (n_is : n ≡ x.number) (k_is : k ≡ y.number) (once : (m : ℕ) → made m (take p rows) ≤ 1) where
  here : n ≡ (get_or rows p x).number
  here = n_is ∙ ap (λ (r : FrameRow). r.number) x_is

  before : k ≡ (get_or rows (p - 1) x).number
  before = k_is ∙ ap (λ (r : FrameRow). r.number) (y_is ∙ get_or_default rows (p - 1) y x (omega (arith, lt)))

  whole : (p - 1) + 1 ≡ p
  whole = omega (arith, begun)

  up : k ≤ n
  up = omega (arith, here, before, ordered (p - 1) p x (omega arith) lt)

  one_more : (m : ℕ) → made m (take (p + 1) rows) ≡ made m (take p rows) + cond (n == m) 1 0
  one_more m = made_more m rows p x lt ∙ ap (λ (z : ℕ). made m (take p rows) + cond (z == m) 1 0) (sym here)

  one_before : (m : ℕ) → made m (take p rows) ≡ made m (take (p - 1) rows) + cond (k == m) 1 0
  one_before m = subst (λ (z : ℕ). made m (take z rows) ≡ made m (take (p - 1) rows) + cond (k == m) 1 0) whole
      (made_more m rows (p - 1) x (omega (arith, lt)) ∙ ap (λ (z : ℕ). made m (take (p - 1) rows) + cond (z == m) 1 0) (sym before))

  -- one number: no lower one stands twice
  pub twice_found : k ≡ n → IsFirstTwice rows n
  twice_found same = record {
    twice =
        let a = one_more n in
        let b = one_before n in
        let le = made_part n rows (p + 1) in
        grind (arith, nat_tests);
    first = λ m less.
        let later = made_later m rows p x ordered lt (omega (arith, here, less)) in
        let parts = made_split m rows p in
        let few = once m in
        omega (arith, later, parts, few);
  }

  -- two numbers: with one row more, still none stands twice
  pub once_more : (k ≡ n → ⊥) → (m : ℕ) → made m (take (p + 1) rows) ≤ 1
  once_more other m =
      let none : k < m → made m (take p rows) ≡ 0 = λ less.
      subst (λ (z : ℕ). made m (take z rows) ≡ 0) whole (made_earlier m rows (p - 1) x ordered (omega (arith, lt)) (omega (arith, before, less))) in
      by n k up other (one_more m) none (once m)
    where
      by : (a b : ℕ) → b ≤ a → (b ≡ a → ⊥) → made m (take (p + 1) rows) ≡ made m (take p rows) + cond (a == m) 1 0 → (b < m → made m (take p rows) ≡ 0) → made m (take p rows) ≤ 1 → made m (take (p + 1) rows) ≤ 1
      by a b le other more none few = grind (arith, nat_tests)

pub once_all : (rows : List FrameRow) (p : ℕ) → length rows ≤ p → ((m : ℕ) → made m (take p rows) ≤ 1) → (m : ℕ) → made m rows ≤ 1
once_all rows p le once m = subst (λ (l : List FrameRow). made m l ≤ 1) (take_all p rows le) (once m)

-- so many rows are in place, and no others stand among them
pub record Placed (rows : List FrameRow) (p : ℕ) : Type 0 where
  pub long : p ≤ length rows
  pub at_place : (i : ℕ) (d : FrameRow) → i < p → (get_or rows i d).number ≡ i
  pub once : (m : ℕ) → m < p → made m (take p rows) ≡ 1
  pub none : (m : ℕ) → p ≤ m → made m (take p rows) ≡ 0

pub placed_none : (rows : List FrameRow) → Placed rows 0
placed_none rows = record {
  long = omega arith;
  at_place = λ i d lt. absurd (omega (arith, lt));
  once = λ m lt. absurd (omega (arith, lt));
  none = λ m le. refl;
}

module _ (rows : List FrameRow) (p : ℕ) (x : FrameRow) (n : ℕ) (ordered : AreOrdered rows) (lt : p < length rows) (x_is : x ≡ get_or rows p x) (n_is : n ≡ x.number) (once : (m : ℕ) → made m rows ≤ 1) (placed : Placed rows p) where
  number_here : n ≡ (get_or rows p x).number
  number_here = n_is ∙ ap (λ (r : FrameRow). r.number) x_is

  more : (m : ℕ) → made m (take (p + 1) rows) ≡ made m (take p rows) + cond (n == m) 1 0
  more m = made_more m rows p x lt ∙ ap (λ (z : ℕ). made m (take p rows) + cond (z == m) 1 0) (sym number_here)

  pub placed_more : n ≡ p → Placed rows (p + 1)
  placed_more same = record {
    long = omega (arith, lt);
    at_place = λ i d less. elim (cases_lt i p) [
      | inl below ↦ placed.at_place i d below
      | inr at ↦
          let e : i ≡ p = omega (arith, less, at) in
          rw e (ap (λ (r : FrameRow). r.number) (get_or_default rows p d x lt) ∙ sym number_here ∙ same)
    ];
    once = λ m less. let a = more m in let b = placed.once m in let c = placed.none m in by m a b c less;
    none = λ m le. let a = more m in let c = placed.none m (omega (arith, le)) in grind (arith, nat_tests);
  }
    where
      by : (m : ℕ) → made m (take (p + 1) rows) ≡ made m (take p rows) + cond (n == m) 1 0 → (m < p → made m (take p rows) ≡ 1) → (p ≤ m → made m (take p rows) ≡ 0) → m < p + 1 → made m (take (p + 1) rows) ≡ 1
      by m a b c less = elim (cases_lt m p) [
        | inl below ↦ let z = b below in grind (arith, nat_tests)
        | inr at ↦ let z = c at in grind (arith, nat_tests)
      ]

  -- another number at a place: the place's number is missing
  above : (n ≡ p → ⊥) → p < n
  above other = elim (cases_lt n p) [
    | inl below ↦
        let a = more n in
        let b = placed.once n below in
        let le = made_part n rows (p + 1) in
        let few = once n in
        absurd (grind (arith, nat_tests))
    | inr le ↦ omega (arith, other, le)
  ]

  pub missing_found : (total : ℕ) → p < total → (n ≡ p → ⊥) → IsFirstMissing total rows p
  missing_found total within other = record {
    within = within;
    once = once;
    missing =
        let none = placed.none p (omega arith) in
        let later = made_later p rows p x ordered lt (omega (arith, number_here, above other)) in
        let parts = made_split p rows p in
        omega (arith, none, later, parts);
    first = λ m less.
        let here = placed.once m less in
        let le = made_part m rows p in
        let few = once m in
        omega (arith, here, le, few);
  }

-- no row at a place
pub missing_at_end : (rows : List FrameRow) (p total : ℕ) → length rows ≤ p → p < total → ((m : ℕ) → made m rows ≤ 1) → Placed rows p → IsFirstMissing total rows p
missing_at_end rows p total short within once placed = record {
  within = within;
  once = once;
  missing = subst (λ (l : List FrameRow). made p l ≡ 0) (take_all p rows short) (placed.none p (omega arith));
  first = λ m less. subst (λ (l : List FrameRow). made m l ≡ 1) (take_all p rows short) (placed.once m less);
}

pub placed_end : (rows : List FrameRow) (p total : ℕ) → p ≡ total → Placed rows p → Placed rows total
placed_end rows p total e placed = subst (Placed rows) e placed

-- all are in place
pub placed_whole : (rows : List FrameRow) (total : ℕ) → Placed rows total → ((m : ℕ) → made m rows ≤ 1) → IsWhole total rows
placed_whole rows total placed once n less = let a = placed.once n less in let b = made_part n rows total in let c = once n in omega (arith, a, b, c)

no_row : FrameRow
no_row = record { number = 0; kept = record { size = 0; is_signed = false; signed = [] } }

pub placed_in_place : (rows : List FrameRow) (total : ℕ) → AreOrdered rows → AreBelow total rows → ((m : ℕ) → made m rows ≤ 1) → Placed rows total → AreInPlace total rows
placed_in_place rows total ordered below once placed = (
  elim (cases_lt total (length rows)) [
    | inl more ↦ absurd (over more)
    | inr le ↦ omega (arith, placed.long, le)
  ],
  placed.at_place,
)
  where
    over : total < length rows → ⊥
    over lt =
        let x : FrameRow = get_or rows total no_row in
        let small = below total no_row lt in
        let big = above rows total x x.number ordered lt (get_or_default rows total no_row x lt) refl once placed (λ e. absurd (omega (arith, e, small))) in
        absurd (omega (arith, small, big))

-- ---- the table's rows are the book's

pub all_kept : (b : Book) (rows : List FrameRow) → All (IsRowOf b) rows → AreInPlace (length b.headers) rows → map (λ (row : FrameRow). row.kept) rows ≡ kept_rows b
all_kept b rows right placed =
    let long : length rows ≡ length (kept_rows b) = placed.0 ∙ sym (length-map b.headers (stored_row_of b)) in
    ext_get_or no_row.kept (map (λ (row : FrameRow). row.kept) rows) (kept_rows b) (length-map rows (λ (row : FrameRow). row.kept) ∙ long) (λ k lt.
    let within : k < length rows = omega (arith, lt, length-map rows (λ (row : FrameRow). row.kept)) in
    let there = right k no_row within in
    let at : slice_get (kept_rows b) k ≡ Some (get_or rows k no_row).kept = subst (λ (n : ℕ). slice_get (kept_rows b) n ≡ Some (get_or rows k no_row).kept) (placed.1 k no_row (omega (arith, within, placed.0))) there in
    get_or_from_slice_get (map (λ (row : FrameRow). row.kept) rows) k (get_or rows k no_row).kept no_row.kept
    (slice_get-map (λ (row : FrameRow). row.kept) rows k ∙ ap (option_map (λ (row : FrameRow). row.kept)) (slice_get-get_or rows k no_row within))
    ∙ sym (get_or_from_slice_get (kept_rows b) k (get_or rows k no_row).kept no_row.kept at))

pub rows_below : (b : Book) (rows : List FrameRow) → All (IsRowOf b) rows → AreBelow (length b.headers) rows
rows_below b rows right k d lt = omega (arith, slice_get_within (kept_rows b) (get_or rows k d).number (get_or rows k d).kept (right k d lt), length-map b.headers (stored_row_of b))

-- a number that some row has is below the number of rows
pub made_within : (total : ℕ) (rows : List FrameRow) (n : ℕ) → AreBelow total rows → 0 < made n rows → n < total
made_within total rows n below some = elim (cases_lt n total) [
  | inl lt ↦ lt
  | inr le ↦
      let none = made_none n rows no_row (λ k lt same. let small = below k no_row lt in omega (arith, small, same, le)) in
      absurd (omega (arith, none, some))
]

-- ---- the order of the rows doesn't matter

made_same : (m : ℕ) (rows sorted : List FrameRow) → IsPermutation rows sorted → made m sorted ≡ made m rows
made_same m rows sorted same = sum_by-IsPermutation (λ (row : FrameRow). cond (row.number == m) 1 0) rows sorted same

pub whole_before : (total : ℕ) (rows sorted : List FrameRow) → IsPermutation rows sorted → IsWhole total sorted → IsWhole total rows
whole_before total rows sorted same whole n lt = sym (made_same n rows sorted same) ∙ whole n lt

pub explains_before : (total : ℕ) (rows sorted : List FrameRow) (cause : TableError) → IsPermutation rows sorted → Explains total sorted cause → Explains total rows cause
explains_before total rows sorted (RowMissing n) same why = record {
  within = why.within;
  once = λ m. omega (arith, made_same m rows sorted same, why.once m);
  missing = sym (made_same n rows sorted same) ∙ why.missing;
  first = λ m lt. sym (made_same m rows sorted same) ∙ why.first m lt;
}
explains_before total rows sorted (RowTwice n) same why = (
  why.0,
  record {
    twice = omega (arith, made_same n rows sorted same, why.1.twice);
    first = λ m lt. omega (arith, made_same m rows sorted same, why.1.first m lt);
  },
)
explains_before total rows sorted NoMemory same why = tt

-- ---- the rows one after the other

-- each lower number stands once
abbrev pub MadeBelow : ℕ → List FrameRow → Type 0
MadeBelow n rows = ((m : ℕ) → m < n → made m rows ≡ 1) × ((m : ℕ) → n ≤ m → made m rows ≡ 0)

pub made_one_more : (n : ℕ) (rows new : List FrameRow) (row : FrameRow) → row.number ≡ n → new ≡ rows ++ row ∷ [] → MadeBelow n rows → MadeBelow (n + 1) new
made_one_more n rows new row is e made_below = rw e (
  (λ m lt.
      let a = sum_by_push (λ (r : FrameRow). cond (r.number == m) 1 0) rows row in
      elim (cases_lt m n) [
        | inl below ↦ let z = made_below.0 m below in grind (arith, nat_tests)
        | inr at ↦ let z = made_below.1 m at in grind (arith, nat_tests)
      ]),
  (λ m le. let a = sum_by_push (λ (r : FrameRow). cond (r.number == m) 1 0) rows row in let z = made_below.1 m (omega (arith, le)) in grind (arith, nat_tests)),
)

-- what is kept of the header at a place is the book's row of that number
pub row_there : (b : Book) (n : ℕ) (h : Header) (kept : StoredRow) → slice_get b.headers n ≡ Some h → kept ≡ stored_row_of b h → slice_get (kept_rows b) n ≡ Some kept
row_there b n h kept there is = slice_get-map (stored_row_of b) b.headers n ∙ ap (option_map (stored_row_of b)) there ∙ ap (λ (k : StoredRow). Some k) (sym is)
