use Rattle.std.proofs.Common.{slice_index_or, arith, ℕ, List, length, ◌≡◌, ◌≤◌, take_all, length-drop, drop, ◌+◌, ◌-◌, ◌∙◌, ap, sym}
use Rattle.std.proofs.lemmas.List.{drop-drop}
use Rattle.rb_script_toml.specs.Marks.{marks_from}
use Rattle.rb_script_toml.proofs.MarkLemmas.{counted_at_most, next_mark, no_mark, plain_byte}
use Rattle.rb_script_toml.proofs.marks.count_marks.Goals as goal

pub loop-at-preserved-then-not-is_plain : goal.loop-at-preserved-then-not-is_plain
loop-at-preserved-then-not-is_plain c =
    let byte = slice_index_or c.args.bytes.now c.loop-at.at 0 in
    let whole = c.loop-at.invariant.1 in
    let few = c.loop-at.invariant.2 in
    let next : marks_from c.loop-at.place (drop c.loop-at.at c.args.bytes.now) ≡ c.counted-count.result + marks_from c.after-place.result (drop (c.loop-at.at + 1) c.args.bytes.now) =
    rw (c.counted-count.ensures, c.after-place.ensures) (next_mark c.loop-at.place c.loop-at.at c.args.bytes.now c.loop-at-test.true) in
    let one : c.counted-count.result ≤ 8 = rw c.counted-count.ensures (counted_at_most c.after-place.result byte) in
    let from = c.loop-at.at + 1 in
    let rest = take_all (length c.args.bytes.now - from) (drop from c.args.bytes.now) (omega (arith, length-drop from c.args.bytes.now)) in
    let marked = λ (text : List ℕ). marks_from c.after-place.result text in
    let skipped = sym (ap marked rest) ∙ c.string_length-at.ensures.none
    ∙ ap (λ (text : List ℕ). marked (drop c.string_length-at.result text)) rest
    ∙ ap marked (drop-drop c.string_length-at.result from c.args.bytes.now) in (
      omega (arith, c.string_length-at.ensures.within, ap length rest, length-drop from c.args.bytes.now, c.loop-at-test.true),
      omega (arith, whole, next, skipped),
      omega (arith, few, one),
    )

pub loop-at-preserved : goal.loop-at-preserved
loop-at-preserved c =
    let whole = c.loop-at.invariant.1 in
    let few = c.loop-at.invariant.2 in
    let next = plain_byte c.loop-at.place c.loop-at.at c.args.bytes.now c.loop-at-test.true (c.is_plain.ensures c.if-not-is_plain.false) in
    (omega (arith, c.loop-at-test.true), omega (arith, whole, next), omega (arith, few))

pub returns : goal.returns
returns c =
    let none = no_mark c.loop-at.place c.loop-at.at c.args.bytes.now c.loop-at-test.false in
    let whole = c.loop-at.invariant.1 in
    omega arith
