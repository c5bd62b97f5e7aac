-- Each step keeps the rule of the claim table.
use Rattle.std.proofs.Common.{◌≡◌, ◌≢◌, ◌⊎◌, ℕ, zero, suc, ◌+◌, ◌-◌, ◌*◌, ◌%◌, ◌^◌, ◌<◌, ◌≤◌, Bool, true, false, cond, not, nat_lt, ◌==◌, List, [], ◌∷◌, ◌++◌, length, set, refl, sym, ap, ◌∙◌, subst, ⊎_elim, zero-le, le_refl, arith}
use Rattle.std.specs.Prelude.{sum_by, slice_index, slice_set}
use Rattle.std.proofs.lemmas.List.Sums.{sum_by-append}
use Rattle.std.proofs.Math.Nat.{mod-eq_of_lt}
use mathlib.Core.Option.{some, some-ne-none}
use lib.ListN.{get_elem?}
use Rattle.atomic_table.specs.Table.{State, Me, Act, Allows, Splits, Joins, Valid, stepped, carried_after}
use Rattle.atomic_table.specs.Table.Act.{keeps}
use Rattle.atomic_table.proofs.Lists.{at_set, at_snoc, set_again, set_here}
use Rattle.rb_gang.specs.declared.table.Drawn.{Drawn}
use Rattle.rb_gang.specs.Numbers.{times, once_below, not_below}
use Rattle.rb_gang.specs.Claims.{Claimed, Fits, drawn, drew, late, Drew, Whole}
use Rattle.rb_gang.proofs.Totals.{sum_at, sum_term, sum_le, sum_none, times_push, times_append, not_below_push, not_below_append, once_more, beyond_more, once_most, not_below_most}

abbrev seats_of : Drawn → ℕ
seats_of v = v.seats

each_set : (rows : ℕ) (views : List Drawn) (id : ℕ) (w : Drawn) → ((j : ℕ) (u : Drawn) → get_elem? views j ≡ some u → Fits rows u) → Fits rows w
    → (j : ℕ) (u : Drawn) → get_elem? (set views id w) j ≡ some u → Fits rows u
each_set rows views id w others mine j u e =
    ⊎_elim (λ (t : (j ≡ id) × (w ≡ u)). subst (Fits rows) t.1 mine) (λ (t : (j ≢ id) × (get_elem? views j ≡ some u)). others j u t.1) (at_set views id j w u e)

-- what a seat drew before is below the count, which is at most the row count and 64
below_count : (rows : ℕ) (s : State (Unit {0}) Drawn) (k : Claimed rows s) (id : ℕ) (v : Drawn) → get_elem? s.views id ≡ some v → (x : ℕ) → 0 < times x v.numbers → x < k.count
below_count rows s k id v at x some_x =
    let t = sum_term (λ (u : Drawn). times x u.numbers) s.views id v at in
    let o = k.once x in
    once_most x k.count (omega arith)

at_most : (rows : ℕ) (s : State (Unit {0}) Drawn) (k : Claimed rows s) → k.count ≤ rows + 64
at_most rows s k =
    let a = sum_le (λ (u : Drawn). not_below rows u.numbers) seats_of s.views (λ i v e. (k.each i v e).late_are) in
    let b = k.beyond in
    let c = k.seats in
    omega arith

module _ (rows id : ℕ) (me : Me (Unit {0}) Drawn) (live : 0 < me.0.seats) (none : late me.0 ≡ 0) where
  drawn_fits : Fits rows me.0 → (n : ℕ) → Fits rows (drew me.0 n)
  drawn_fits f n =
      let r : not_below rows me.0.numbers ≡ 0 = subst (λ z. not_below z me.0.numbers ≡ 0) (f.rows_are live) none in
      let p = not_below_push rows me.0.numbers n in
      let m = not_below_most n rows in
      record { rows_are = f.rows_are; late_are = omega arith; spent = λ z. absurd (omega arith) }

  draws_at : (s : State (Unit {0}) Drawn) (k : Claimed rows s) → get_elem? s.views id ≡ some me.0 → (ws : List ℕ) → s.words ≡ ws → ws ≡ k.count ∷ rows ∷ []
      → Claimed rows (stepped s 0 ((slice_index s.words 0 + 1) % 2 ^ 64) id me.1 (drew me.0 k.count) keeps)
  draws_at s k at ws e is =
      let top = at_most rows s k in
      let room = k.room in
      let n : ℕ = k.count in
      let v : Drawn = me.0 in
      let w : Drawn = drew me.0 n in
      let small : n + 1 < 2 ^ 64 = omega arith in
      record {
        count = n + 1;
        words = subst (λ (l : List ℕ). slice_set l 0 ((slice_index l 0 + 1) % 2 ^ 64) ≡ (n + 1) ∷ rows ∷ []) (sym k.words) (ap (λ (m : ℕ). m ∷ rows ∷ []) (mod-eq_of_lt small));
        room = k.room;
        seats = (let a = sum_at seats_of s.views id v w at in let b = k.seats in omega arith);
        once = (λ x. let a = sum_at (λ (u : Drawn). times x u.numbers) s.views id v w at in let b = k.once x in let c = times_push x v.numbers n in let d = once_more x n in omega arith);
        beyond = (let a = sum_at (λ (u : Drawn). not_below rows u.numbers) s.views id v w at in let b = k.beyond in let c = not_below_push rows v.numbers n in let d = beyond_more n rows in omega arith);
        each = each_set rows s.views id w k.each (drawn_fits (k.each id v at) n);
      }

  pub draws : (slots : ℕ) → Allows (Claimed rows) slots id me 0 (λ n. (n + 1) % 2 ^ 64) (Drew me)
  draws slots s k len at fits =
      let found : slice_index s.words 0 ≡ k.count = ap (λ (l : List ℕ). slice_index l 0) k.words in (
        drew me.0 k.count,
        keeps,
        tt,
        draws_at s k at s.words refl k.words,
        subst (λ (n : ℕ). Drew me n (drew me.0 k.count, me.1)) (sym found) (refl, below_count rows s k id me.0 at),
      )

-- a view with no seat and no number
abbrev empty : Drawn
empty = drawn 0 0 []

empty_fits : (rows : ℕ) → Fits rows empty
empty_fits rows = record { rows_are = λ h. absurd (omega arith); late_are = zero-le; spent = λ _. refl }

-- where one view stands for all seats, the others have drawn nothing
alone : (rows : ℕ) (s : State (Unit {0}) Drawn) → Claimed rows s → (id : ℕ) (v : Drawn) → get_elem? s.views id ≡ some v → v.seats ≡ 64 → (x : ℕ) → sum_by (λ (u : Drawn). times x u.numbers) s.views ≡ times x v.numbers
alone rows s k id v at all x =
    let rest = set s.views id empty in
    let a = sum_at seats_of s.views id v empty at in
    let b = k.seats in
    let none = sum_none (λ (u : Drawn). times x u.numbers) seats_of rest (omega arith) (λ i u e z. ap (times x) ((each_set rows s.views id empty k.each (empty_fits rows) i u e).spent z)) in
    let c = sum_at (λ (u : Drawn). times x u.numbers) s.views id v empty at in
    omega arith

pub looks : (rows id : ℕ) (me : Me (Unit {0}) Drawn) (slots : ℕ) → Allows (Claimed rows) slots id me 0 (λ n. n) (Whole me)
looks rows id me slots s k len at fits =
    let found : slice_index s.words 0 ≡ k.count = ap (λ (l : List ℕ). slice_index l 0) k.words in
    let views = set_again s.views id me.0 at in
    let same : slice_set s.words 0 (slice_index s.words 0) ≡ s.words = subst (λ (l : List ℕ). slice_set l 0 (slice_index l 0) ≡ l) (sym k.words) refl in (
      me.0,
      keeps,
      tt,
      subst (λ (p : List ℕ × List Drawn). Claimed rows (record { words = p.0; homes = s.homes; views = p.1 })) (λ i. (sym same i, sym views i)) k,
      (refl, λ all x. sym (alone rows s k id me.0 at all x) ∙ k.once x ∙ ap (once_below x) (sym found)),
    )

pub splits : (rows id : ℕ) (v : Drawn) → 1 < v.seats → late v < v.seats → Splits (Claimed rows) id v (drawn v.rows (v.seats - 1) v.numbers) (drawn v.rows 1 [])
splits rows id v more room s k at =
    let left : Drawn = drawn v.rows (v.seats - 1) v.numbers in
    let right : Drawn = drawn v.rows 1 [] in
    let f = k.each id v at in
    let r : v.rows ≡ rows = f.rows_are (omega arith) in
    let l : not_below rows v.numbers < v.seats = subst (λ (z : ℕ). not_below z v.numbers < v.seats) r room in
    let fits_left : Fits rows left = record { rows_are = λ _. r; late_are = omega arith; spent = λ z. absurd (omega arith) } in
    let fits_right : Fits rows right = record { rows_are = λ _. r; late_are = zero-le; spent = λ z. absurd (omega arith) } in
    record {
      count = k.count;
      words = k.words;
      room = k.room;
      seats = (let a = sum_at seats_of s.views id v left at in let b = sum_by-append seats_of (set s.views id left) (right ∷ []) in let c = k.seats in omega arith);
      once = (λ x. let a = sum_at (λ (u : Drawn). times x u.numbers) s.views id v left at in let b = sum_by-append (λ (u : Drawn). times x u.numbers) (set s.views id left) (right ∷ []) in let c = k.once x in omega arith);
      beyond = (let a = sum_at (λ (u : Drawn). not_below rows u.numbers) s.views id v left at in let b = sum_by-append (λ (u : Drawn). not_below rows u.numbers) (set s.views id left) (right ∷ []) in let c = k.beyond in omega arith);
      each = (λ j u e. ⊎_elim (each_set rows s.views id left k.each fits_left j u) (λ (t : right ≡ u). subst (Fits rows) t fits_right) (at_snoc (set s.views id left) right u j e));
    }

pub joins : (rows id : ℕ) (v : Drawn) (other : ℕ) (w : Drawn) → 0 < v.seats → Joins (Claimed rows) id v other w (drawn v.rows (v.seats + w.seats) (v.numbers ++ w.numbers)) empty
joins rows id v other w live s k at apart there =
    let both : Drawn = drawn v.rows (v.seats + w.seats) (v.numbers ++ w.numbers) in
    let f = k.each id v at in
    let h = ⊎_elim (λ (t : (other ≡ id) × (both ≡ w)). absurd (apart t.0)) (λ (t : (other ≢ id) × (get_elem? s.views other ≡ some w)). k.each other w t.1) (at_set s.views id other both w there) in
    let fits_both : Fits rows both = (let n = not_below_append rows v.numbers w.numbers in let a = f.late_are in let b = h.late_are in record { rows_are = λ _. f.rows_are live; late_are = omega arith; spent = λ z. absurd (omega arith) }) in
    record {
      count = k.count;
      words = k.words;
      room = k.room;
      seats = (let a = sum_at seats_of s.views id v both at in let b = sum_at seats_of (set s.views id both) other w empty there in let c = k.seats in omega arith);
      once = (λ x. let a = sum_at (λ (u : Drawn). times x u.numbers) s.views id v both at in let b = sum_at (λ (u : Drawn). times x u.numbers) (set s.views id both) other w empty there in let c = k.once x in let d = times_append x v.numbers w.numbers in omega arith);
      beyond = (let a = sum_at (λ (u : Drawn). not_below rows u.numbers) s.views id v both at in let b = sum_at (λ (u : Drawn). not_below rows u.numbers) (set s.views id both) other w empty there in let c = k.beyond in let d = not_below_append rows v.numbers w.numbers in omega arith);
      each = each_set rows (set s.views id both) other empty (each_set rows s.views id both k.each fits_both) (empty_fits rows);
    }
