use Rattle.std.proofs.Common.{◌≡◌, ◌+◌, ◌*◌, ◌<◌, ◌≤◌, ◌/◌, ℕ, List, Bool, false, cond, eqb, get_or, length, take, drop, sum, w64, zero-add, sym, ap, ◌∙◌, arith}
use Rattle.std.specs.Simd.Lanes.{sum_l}
use Rattle.std.proofs.lemmas.Simd.{sum-zip2, adds_fit, sum_fits, fold-sum, length-zip2}
use Rattle.rb_lanes.specs.Lanes.{masked_total, bits_of}
use Rattle.rb_lanes.proofs.Planes.{bit_test, length-bits_of}
use Rattle.rb_lanes.proofs.Masked.{masked_from, at, lane_step, from-take-le, from-more, from-fits, from-end, times-bit, part-le}
use Rattle.rb_lanes.proofs.sums.masked_sum_from.Goals as goal

pub overflow_add-chosen_powers : goal.overflow_add-chosen_powers
overflow_add-chosen_powers g c =
    let bytes = c.bytes_from-bytes.result.now in
    let ps = c.as_slice-by_column.result.now in
    let s = c.loop-step.step in
    let step = lane_step bytes ps c.loop-step.chosen_powers c.chosen-chosen_powers.result s c.loop-step.invariant.long c.loop-step.invariant.so_far (omega (arith, c.min-columns.ensures)) (omega (arith, c.min-columns.ensures)) c.chosen-chosen_powers.ensures in
    adds_fit w64 c.loop-step.chosen_powers c.chosen-chosen_powers.result (omega (arith, step.1, from-take-le (at (bits_of bytes)) 0 (8 * (s + 1)) ps, c.as_slice-by_column.ensures.total, ap (λ (l : List ℕ). sum l) c.as_slice-by_column.ensures.value))

pub loop-step-preserved : goal.loop-step-preserved
loop-step-preserved g c =
    let bytes = c.bytes_from-bytes.result.now in
    let ps = c.as_slice-by_column.result.now in
    let s = c.loop-step.step in
    let step = lane_step bytes ps c.loop-step.chosen_powers c.chosen-chosen_powers.result s c.loop-step.invariant.long c.loop-step.invariant.so_far (omega (arith, c.min-columns.ensures)) (omega (arith, c.min-columns.ensures)) c.chosen-chosen_powers.ensures in
    record {
      long = length-zip2 (λ a b. a + b) c.loop-step.chosen_powers c.chosen-chosen_powers.result (c.loop-step.invariant.long ∙ sym step.0) ∙ c.loop-step.invariant.long;
      so_far = sum-zip2 c.loop-step.chosen_powers c.chosen-chosen_powers.result (c.loop-step.invariant.long ∙ sym step.0) ∙ step.1;
    }

pub overflow_add-sum : goal.overflow_add-sum
overflow_add-sum g c =
    sum_fits w64 0 c.loop-step.chosen_powers (omega (arith, c.loop-step.invariant.so_far, from-take-le (at (bits_of c.bytes_from-bytes.result.now)) 0 (8 * c.loop-step.step) c.as_slice-by_column.result.now, c.as_slice-by_column.ensures.total, ap (λ (l : List ℕ). sum l) c.as_slice-by_column.ensures.value))

pub loop-column-init : goal.loop-column-init
loop-column-init g c =
    let ps = c.as_slice-by_column.result.now in
    let end : 8 * c.loop-step.step ≡ c.min-columns.result / 8 * 8 = omega arith in
    fold-sum 0 c.loop-step.chosen_powers
    ∙ omega (arith, c.loop-step.invariant.so_far, ap (λ (n : ℕ). masked_from (at (bits_of c.bytes_from-bytes.result.now)) 0 (take n ps)) end)

pub overflow_add-sum-in-loop-column : goal.overflow_add-sum-in-loop-column
overflow_add-sum-in-loop-column g c =
    let ps = c.as_slice-by_column.result.now in
    let bytes = c.bytes_from-bytes.result.now in
    let k = c.loop-column.column in
    let part = times-bit (get_or ps k 0) c.from.result (eqb (get_or bytes k 0) 1) c.from.ensures in
    omega (arith, c.loop-column.invariant, part, part-le (eqb (get_or bytes k 0) 1) (get_or ps k 0), from-fits (at (bits_of bytes)) 0 k ps 0 (omega (arith, c.min-columns.ensures)), c.as_slice-by_column.ensures.total, ap (λ (l : List ℕ). sum l) c.as_slice-by_column.ensures.value)

pub loop-column-preserved : goal.loop-column-preserved
loop-column-preserved g c =
    let ps = c.as_slice-by_column.result.now in
    let bytes = c.bytes_from-bytes.result.now in
    let k = c.loop-column.column in
    let part = times-bit (get_or ps k 0) c.from.result (eqb (get_or bytes k 0) 1) c.from.ensures in
    let bit = ap (λ (b : Bool). cond b (get_or ps k 0) 0) (bit_test bytes k 0 (omega (arith, c.min-columns.ensures))) in
    let same = ap (λ (n : ℕ). cond (at (bits_of bytes) n) (get_or ps k 0) 0) (zero-add k) in
    let more = from-more (at (bits_of bytes)) 0 k ps 0 (omega (arith, c.min-columns.ensures)) in
    omega (arith, c.loop-column.invariant, part, bit, same, more)

pub returns-clause-value : goal.returns-clause-value
returns-clause-value g c =
    let ps = c.as_slice-by_column.result.now in
    let bytes = c.bytes_from-bytes.result.now in
    let end : c.loop-column.column ≡ c.min-columns.result = omega arith in
    c.loop-column.invariant
    ∙ from-end (bits_of bytes) ps c.loop-column.column (omega (arith, c.min-columns.ensures, length-bits_of bytes))
    ∙ (λ i. masked_total (c.as_slice-by_column.ensures.value i) (c.bytes_from-bytes.ensures.bits i))

pub returns-clause-bound : goal.returns-clause-bound
returns-clause-bound g c =
    omega (arith, c.loop-column.invariant, from-take-le (at (bits_of c.bytes_from-bytes.result.now)) 0 c.loop-column.column c.as_slice-by_column.result.now, ap (λ (l : List ℕ). sum l) c.as_slice-by_column.ensures.value)
