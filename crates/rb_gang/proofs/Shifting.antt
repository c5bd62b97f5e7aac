-- What a worker has drawn and made, after one more number and after its end.
use Rattle.std.proofs.Common.{◌≡◌, ℕ, ◌+◌, ◌-◌, ◌<◌, ◌≤◌, ◌⊎◌, Bool, true, false, cond, not, nat_lt, ◌==◌, List, [], ◌∷◌, ◌++◌, length, All, refl, sym, ap, ◌∙◌, subst, ⊎_elim, inl, inr, arith}
use Rattle.std.proofs.lemmas.Bool.Decides.{nat_tests}
use Rattle.std.proofs.lemmas.List.Elements.{All-append, All-push}
use Rattle.atomic_table.specs.Seated.{TableId}
use Rattle.rb_gang.specs.declared.table.Drawn.{Drawn}
use Rattle.rb_gang.specs.Numbers.{times, not_below, once_below}
use Rattle.rb_gang.specs.Claims.{SeatView, drawn, drew, late}
use Rattle.rb_book.specs.Book.{Book}
use Rattle.rb_graph.specs.Frame.{FrameRow, IsRowOf, made}
use Rattle.rb_gang.specs.Shifts.{IsShift}
use Rattle.std.specs.Prelude.{sum_by}
use Rattle.std.proofs.lemmas.Bool.{cases_lt}
use Rattle.std.proofs.lemmas.List.Sums.{sum_by-cons}
use Rattle.rb_gang.proofs.Totals.{times_push, times_append, not_below_push, not_below_append, once_most}
use Rattle.rb_gang.proofs.Counting.{made_push, made_append}

pub shift_end : (table : TableId × ℕ) (book : Book) (seats : ℕ) (p : SeatView) (v : Drawn) (n : ℕ) (rows : List FrameRow)
    → p.table ≡ table.0 → p.knows ≡ drew v n → v.seats ≡ seats → v.rows ≡ length book.headers → All (IsRowOf book) rows
    → ((x : ℕ) → made x rows ≡ times x v.numbers) → length book.headers ≤ n → IsShift table book seats (p, rows)
shift_end table book seats p v n rows at is same count right each le = record {
  of_table = at;
  same_seats = ap (λ (k : Drawn). k.seats) is ∙ same;
  same_rows = ap (λ (k : Drawn). k.rows) is ∙ count;
  right = right;
  each = λ x lt. subst (λ (k : Drawn). made x rows ≡ times x k.numbers) (sym is) (let a = each x in let b = times_push x v.numbers n in grind (arith, nat_tests));
  done = subst (λ (k : Drawn). 0 < late k) (sym is) (let b = not_below_push v.rows v.numbers n in grind (arith, nat_tests));
}

pub made_more : (x n : ℕ) (rows : List FrameRow) (r : FrameRow) (numbers : List ℕ) → r.number ≡ n → made x rows ≡ times x numbers → made x (rows ++ r ∷ []) ≡ times x (numbers ++ n ∷ [])
made_more x n rows r numbers is same =
    made_push x rows r ∙ ap (λ (k : ℕ). made x rows + cond (k == x) 1 0) is ∙ ap (λ (k : ℕ). k + cond (n == x) 1 0) same ∙ sym (times_push x numbers n)

pub none_late_more : (v : Drawn) (n : ℕ) → late v ≡ 0 → n < v.rows → late (drew v n) ≡ 0
none_late_more v n none lt = let b = not_below_push v.rows v.numbers n in grind (arith, nat_tests)

pub just_drawn : (n : ℕ) (numbers : List ℕ) → 0 < times ((n + 1) - 1) (numbers ++ n ∷ [])
just_drawn n numbers = let a = times_push ((n + 1) - 1) numbers n in grind (arith, nat_tests)

pub low_le : (low n : ℕ) (numbers : List ℕ) → (low ≡ 0) ⊎ (0 < times (low - 1) numbers) → ((x : ℕ) → 0 < times x numbers → x < n) → low ≤ n
low_le low n numbers last above = ⊎_elim (λ (z : low ≡ 0). omega arith) (λ (h : 0 < times (low - 1) numbers). let a = above (low - 1) h in omega arith) last

pub shifts_join : (table : TableId × ℕ) (book : Book) (seats more : ℕ) (p q r : SeatView) (rows others : List FrameRow) → IsShift table book seats (p, rows) → IsShift table book more (q, others) → r.table ≡ table.0
    → r.knows ≡ drawn p.knows.rows (p.knows.seats + q.knows.seats) (p.knows.numbers ++ q.knows.numbers) → IsShift table book (seats + more) (r, rows ++ others)
shifts_join table book seats more p q r rows others s t at is = record {
  of_table = at;
  same_seats = ap (λ (k : Drawn). k.seats) is ∙ ap (λ (k : ℕ). k + q.knows.seats) s.same_seats ∙ ap (λ (k : ℕ). seats + k) t.same_seats;
  same_rows = ap (λ (k : Drawn). k.rows) is ∙ s.same_rows;
  right = All-append (IsRowOf book) rows others s.right t.right;
  each = λ x lt. subst (λ (k : Drawn). made x (rows ++ others) ≡ times x k.numbers) (sym is) (let a = s.each x lt in let b = t.each x lt in let c = times_append x p.knows.numbers q.knows.numbers in let d = made_append x rows others in omega arith);
  done = subst (λ (k : Drawn). 0 < late k) (sym is) (let c = not_below_append p.knows.rows p.knows.numbers q.knows.numbers in let d = s.done in omega arith);
}

some_late : (n : ℕ) (numbers : List ℕ) → 0 < not_below n numbers → (x : ℕ) × (n ≤ x) × (0 < times x numbers)
some_late n [] some = absurd (omega arith)
some_late n (y ∷ ys) some = pick n y ys some (λ h. some_late n ys h) (cases_lt y n)
  where
    pick : (n y : ℕ) (ys : List ℕ) → 0 < not_below n (y ∷ ys) → (0 < not_below n ys → (x : ℕ) × (n ≤ x) × (0 < times x ys)) → (y < n) ⊎ (n ≤ y) → (x : ℕ) × (n ≤ x) × (0 < times x (y ∷ ys))
    pick n y ys some go (inl lt) =
        let f = sum_by-cons (λ (k : ℕ). cond (not (nat_lt k n)) 1 0) y ys in
        let rest = go (grind (arith, nat_tests)) in
        let t = sum_by-cons (λ (k : ℕ). cond (k == rest.0) 1 0) y ys in
        let h = rest.2 in
        (rest.0, rest.1, omega arith)
    pick n y ys some go (inr le) = let t = sum_by-cons (λ (k : ℕ). cond (k == y) 1 0) y ys in (y, le, grind (arith, nat_tests))

-- once all seats are together, each row was made once
pub each_once : (table : TableId × ℕ) (book : Book) (seats : ℕ) (p : SeatView) (rows : List FrameRow) (count : ℕ) → IsShift table book seats (p, rows) → ((x : ℕ) → times x p.knows.numbers ≡ once_below x count) → (n : ℕ) → n < length book.headers → made n rows ≡ 1
each_once table book seats p rows count s once n lt =
    let beyond = some_late (length book.headers) p.knows.numbers (subst (λ (k : ℕ). 0 < not_below k p.knows.numbers) s.same_rows s.done) in
    let o = once beyond.0 in
    let in_count = once_most beyond.0 count (omega (arith, o, beyond.2)) in
    let le = beyond.1 in
    let a = s.each n lt in
    let b = once n in
    let c : n < count = omega arith in
    grind (arith, nat_tests)
