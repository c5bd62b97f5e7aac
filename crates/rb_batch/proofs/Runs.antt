-- The gas of runs, and runs that follow one another.
use Rattle.std.proofs.Common.{◌≡◌, ℕ, ◌+◌, ◌-◌, ◌<◌, ◌≤◌, List, [], ◌∷◌, ◌++◌, length, take, drop, sum, slice_index, sym, ap, ◌∙◌, arith}
use Rattle.std.proofs.Math.Seq.{take-add}
use Rattle.std.proofs.lemmas.List.Sums.{sum_by-append, sum_by_more}
use Rattle.rb_batch.specs.declared.transaction.Transaction.{Transaction}
use Rattle.rb_batch.specs.Cut.{FollowOn}

-- the gas up to a run and the gas of the run are the gas up to the run's end
sum-run : (messages : List ℕ) (first count : ℕ)
    → sum (take first messages) + sum (take count (drop first messages)) ≡ sum (take (first + count) messages)
sum-run messages first count =
    sym (ap sum (take-add first count messages) ∙ sum_by-append (λ x. x) (take first messages) (take count (drop first messages)))

sum-take-le : (messages : List ℕ) (m n : ℕ) → m ≤ n → sum (take m messages) ≤ sum (take n messages)
sum-take-le messages m n h =
    let longer : sum (take (m + (n - m)) messages) ≡ sum (take n messages) = ap (λ k. sum (take k messages)) (omega arith) in
    omega (arith, sum-run messages m (n - m), longer)

sum-take_more : (messages : List ℕ) (n : ℕ) → n < length messages
    → sum (take (n + 1) messages) ≡ sum (take n messages) + slice_index messages n
sum-take_more messages n h = sum_by_more (λ x. x) messages n 0 h

-- a run with one message more
pub sum-run_more : (messages : List ℕ) (first count : ℕ) → first + count < length messages
    → sum (take (count + 1) (drop first messages)) ≡ sum (take count (drop first messages)) + slice_index messages (first + count)
sum-run_more messages first count h =
    let up : sum (take (first + (count + 1)) messages) ≡ sum (take (first + count + 1) messages) = ap (λ k. sum (take k messages)) (omega arith) in
    omega (arith, sum-run messages first count, sum-run messages first (count + 1), sum-take_more messages (first + count) h, up)

-- a run that starts no later than another and goes on past it takes the next message too
pub sum-run_past : (messages : List ℕ) (f n g k : ℕ) → g ≤ f → f + n < g + k → f + n < length messages
    → sum (take n (drop f messages)) + slice_index messages (f + n) ≤ sum (take k (drop g messages))
sum-run_past messages f n g k before past h =
    omega (
      arith,
      sum-run messages f n,
      sum-run messages g k,
      sum-take_more messages (f + n) h,
      sum-take-le messages (f + n + 1) (g + k) (omega arith),
      sum-take-le messages g f before,
    )

pub FollowOn-le : (first : ℕ) (ts : List Transaction) (end : ℕ) → FollowOn first ts end → first ≤ end
FollowOn-le first [] end h = omega (arith, h)
FollowOn-le first (t ∷ ts) end h = omega (arith, FollowOn-le (first + t.count) ts end h.1)

-- one run more
pub FollowOn-push : (first : ℕ) (ts : List Transaction) (t : Transaction) → FollowOn first ts t.first
    → FollowOn first (ts ++ t ∷ []) (t.first + t.count)
FollowOn-push first [] t h = (sym h, ap (λ k. k + t.count) h)
FollowOn-push first (s ∷ ts) t h = (h.0, FollowOn-push (first + s.count) ts t h.1)
