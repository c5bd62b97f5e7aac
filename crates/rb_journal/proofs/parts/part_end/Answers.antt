use Rattle.std.proofs.Common.{◌≡◌, ℕ, ◌+◌, ◌-◌, List, [], length, take, drop, ap, sym, ◌∙◌, arith}
use Rattle.std.proofs.Math.Seq.{drop-length}
use Rattle.std.proofs.lemmas.Bool.{ne_eqb}
use Rattle.rb_journal.specs.Parts.{part_end, end_from}
use Rattle.rb_journal.proofs.Ends.{ends-here, line-ends, line-goes_on, nothing-taken}
use Rattle.rb_journal.proofs.parts.part_end.Goals as goal
use Rattle.rb_journal.proofs.parts.part_end.Goals.{then-byte-eq10+else-eq, else-byte-eq10}

pub returns-then-eq : goal.returns-then-eq
unfolding part_end
returns-then-eq c =
    let is = rw c.as_bytes.ensures.value at (sym c.eq.ensures ∙ c.if-eq.true) in
    sym (c.loop-place.invariant.so_far ∙ ends-here c.args.bytes.now c.loop-place.line_start c.loop-place.place c.loop-place.invariant.before c.loop-place-test.true c.if-byte-eq10.true is)

pub loop-place-preserved : goal.loop-place-preserved
loop-place-preserved c = elim c.if-byte-eq10.branch [
  | then-byte-eq10+else-eq w ↦
      let is = rw w.as_bytes.ensures.value at (sym w.eq.ensures ∙ w.if-eq.false) in
      rw w.line_start-is
      (record {
        before = omega arith;
        so_far = rw (nothing-taken (c.loop-place.place + 1) (drop (c.loop-place.place + 1) c.args.bytes.now))
            (c.loop-place.invariant.so_far
            ∙ line-ends c.args.bytes.now c.loop-place.line_start c.loop-place.place c.loop-place.invariant.before c.loop-place-test.true w.if-byte-eq10.true is);
      })
  | else-byte-eq10 w ↦
      rw w.line_start-is
      (record {
        before = omega arith;
        so_far = c.loop-place.invariant.so_far
            ∙ line-goes_on c.args.bytes.now c.loop-place.line_start c.loop-place.place c.loop-place.invariant.before c.loop-place-test.true (ne_eqb _ _ w.if-byte-eq10.false);
      })
]

pub returns : goal.returns
unfolding part_end
returns c =
    let at_end : c.loop-place.place ≡ length c.args.bytes.now = omega arith in
    let none : drop c.loop-place.place c.args.bytes.now ≡ [] = ap (λ (n : ℕ). drop n c.args.bytes.now) at_end ∙ drop-length c.args.bytes.now in
    let line = take (c.loop-place.place - c.loop-place.line_start) (drop c.loop-place.line_start c.args.bytes.now) in
    sym (c.loop-place.invariant.so_far ∙ ap (λ (xs : List ℕ). end_from c.loop-place.place line xs) none)
